use Rattle.std.proofs.Common.{◌++◌, ◌∷◌, [], ◌∙◌, ◌≤◌, get_or, length, map, sym, ap, arith}
use Rattle.std.proofs.lemmas.List.{length-map, take_all}
use Rattle.serde_json.specs.Data.{string}
use Rattle.serde_json.specs.View.{view}
use Rattle.serde_json.proofs.Views.{view-Array}
use Rattle.flow_forms.specs.Json.{array_of, head_text}
use Rattle.flow_forms.specs.Rights.{Head, head_of, heads_of}
use Rattle.flow_forms.proofs.Values.{head-there, item-more}
use Rattle.flow_forms.proofs.json_rights.objects_value.Goals as goal

pub loop-number-preserved : goal.loop-number-preserved
loop-number-preserved c =
    let P = c.args.plan.now in
    let k = c.loop-number.number in
    let o = c.index-objects-number.result in
    let there = head-there P c.objects-objects.result.now k o c.objects-objects.ensures c.loop-number-test.true c.index-objects-number.is in
    c.in_ok-push_object.ensures
    ∙ ap (λ h. map view c.loop-number.list.items ++ string (head_text h) ∷ []) (sym there.1)
    ∙ ap (λ t. t ++ string (head_text (get_or (heads_of P) k (head_of o))) ∷ []) c.loop-number.invariant
    ∙ sym (item-more (λ (h : Head). string (head_text h)) (heads_of P) k (head_of o) there.0)

pub returns : goal.returns
returns c =
    let P = c.args.plan.now in
    let many : length (heads_of P) ≤ c.loop-number.number = omega (arith, c.loop-number-test.false, length-map P.objects head_of, ap length c.objects-objects.ensures) in
    view-Array c.loop-number.list
    ∙ ap array_of (c.loop-number.invariant ∙ ap (map (λ h. string (head_text h))) (take_all c.loop-number.number (heads_of P) many))
