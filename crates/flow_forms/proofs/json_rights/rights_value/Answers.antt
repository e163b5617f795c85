use Rattle.std.proofs.Common.{◌≡◌, ◌++◌, ◌∙◌, ℕ, flat_map, sym, ap, arith}
use Rattle.std.specs.List.{range_with_len}
use Rattle.std.proofs.lemmas.List.{length-map}
use Rattle.serde_json.proofs.Views.{view-Array}
use Rattle.flow_forms.specs.Csv.{client_names}
use Rattle.flow_forms.specs.Json.{array_of, right_if}
use Rattle.flow_forms.specs.Rights.{heads_of, rights_of}
use Rattle.flow_forms.proofs.Records.{client-more}
use Rattle.flow_forms.proofs.json_rights.rights_value.Goals as goal

pub loop-client-preserved : goal.loop-client-preserved
loop-client-preserved c =
    let P = c.args.plan.now in
    let f = λ (who : ℕ). flat_map (right_if (client_names P) (rights_of P) who) (heads_of P) in
    c.in_ok-push_rights.ensures ∙ ap (λ t. t ++ f c.loop-client.client) c.loop-client.invariant ∙ sym (client-more f c.loop-client.client)

pub returns : goal.returns
returns c =
    let P = c.args.plan.now in
    let f = λ (who : ℕ). flat_map (right_if (client_names P) (rights_of P) who) (heads_of P) in
    let end : c.loop-client.client ≡ c.client_count-client-end.result = omega (arith, c.loop-client-test.false, c.loop-client.auto.client-end) in
    let all = end ∙ c.client_count-client-end.ensures ∙ sym (length-map P.clients (λ who. who.name)) in
    view-Array c.loop-client.list ∙ ap array_of (c.loop-client.invariant ∙ ap (λ n. flat_map f (range_with_len 0 n)) all)
