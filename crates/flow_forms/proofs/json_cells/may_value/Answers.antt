use Rattle.std.proofs.Common.{◌≡◌, ◌∙◌, flat_map, length, sym, ap, arith}
use Rattle.std.specs.List.{range_with_len}
use Rattle.std.proofs.lemmas.List.{length-map}
use Rattle.serde_json.specs.Data.{no_members, object}
use Rattle.serde_json.proofs.Views.{view-Object}
use Rattle.meter_theory.specs.Plan.{cells}
use Rattle.flow_edges.specs.Table.{cell_at}
use Rattle.flow_ways.specs.Found.{distance_of}
use Rattle.flow_forms.specs.Csv.{client_names}
use Rattle.flow_forms.specs.Json.{may_client, put_all}
use Rattle.flow_forms.proofs.Records.{client-more}
use Rattle.flow_forms.proofs.Values.{put-more}
use Rattle.flow_forms.proofs.json_cells.may_value.Goals as goal

pub loop-client-preserved : goal.loop-client-preserved
loop-client-preserved c =
    let P = c.args.ways.now.plan in
    let f = may_client (client_names P) (λ who. distance_of P c.args.reach who (cell_at (cells P) c.args.number)) in
    let k = c.loop-client.client in
    c.in_ok-put_may.ensures
    ∙ ap (λ ms. put_all ms (f k)) c.loop-client.invariant
    ∙ sym (put-more no_members (flat_map f (range_with_len 0 k)) (f k))
    ∙ ap (put_all no_members) (sym (client-more f k))

pub returns : goal.returns
returns c =
    let P = c.args.ways.now.plan in
    let f = may_client (client_names P) (λ who. distance_of P c.args.reach who (cell_at (cells P) c.args.number)) in
    let end : c.loop-client.client ≡ c.client_count-client-end.result = omega (arith, c.loop-client-test.false, c.loop-client.auto.client-end) in
    let all = end ∙ c.client_count-client-end.ensures ∙ ap (λ p. length p.clients) c.plan.ensures ∙ sym (length-map P.clients (λ who. who.name)) in
    view-Object c.loop-client.members ∙ ap object (c.loop-client.invariant ∙ ap (λ n. put_all no_members (flat_map f (range_with_len 0 n))) all)
