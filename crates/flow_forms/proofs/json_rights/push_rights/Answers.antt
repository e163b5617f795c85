use Rattle.std.proofs.Common.{◌++◌, ◌∙◌, ◌≤◌, append_assoc, flat_map, length, map, take, sym, ap, arith}
use Rattle.std.proofs.lemmas.List.{length-map, take_all}
use Rattle.serde_json.specs.View.{view}
use Rattle.flow_forms.specs.Csv.{client_names}
use Rattle.flow_forms.specs.Json.{right_if}
use Rattle.flow_forms.specs.Rights.{head_of, heads_of, rights_of}
use Rattle.flow_forms.proofs.Records.{element-more}
use Rattle.flow_forms.proofs.Values.{head-there}
use Rattle.flow_forms.proofs.json_rights.push_rights.Goals as goal

pub loop-number-preserved : goal.loop-number-preserved
loop-number-preserved c =
    let P = c.args.plan.now in
    let f = right_if (client_names P) (rights_of P) c.args.client in
    let k = c.loop-number.number in
    let o = c.index-objects-number.result in
    let old = map view c.args.list.now.items in
    let before = flat_map f (take k (heads_of P)) in
    let there = head-there P c.objects-objects.result.now k o c.objects-objects.ensures c.loop-number-test.true c.index-objects-number.is in
    c.in_ok-push_right.ensures
    ∙ ap (λ t. t ++ f (head_of o)) c.loop-number.invariant
    ∙ append_assoc old before (f (head_of o))
    ∙ ap (λ h. old ++ (before ++ f h)) (sym there.1)
    ∙ ap (λ t. old ++ t) (sym (element-more f (heads_of P) k (head_of o) there.0))

pub returns : goal.returns
returns c =
    let P = c.args.plan.now in
    let f = right_if (client_names P) (rights_of P) c.args.client in
    let many : length (heads_of P) ≤ c.loop-number.number = omega (arith, c.loop-number-test.false, length-map P.objects head_of, ap length c.objects-objects.ensures) in
    c.loop-number.invariant ∙ ap (λ hs. map view c.args.list.now.items ++ flat_map f hs) (take_all c.loop-number.number (heads_of P) many)
