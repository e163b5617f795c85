use Rattle.std.proofs.Common.{◌≡◌, ◌++◌, ◌∙◌, ◌+◌, flat_map, map, sym, ap, arith}
use Rattle.std.specs.List.{range_with_len}
use Rattle.serde_json.specs.View.{view}
use Rattle.serde_json.proofs.Views.{view-Array}
use Rattle.meter_theory.specs.Rights.{highest_for}
use Rattle.flow_forms.specs.Json.{array_of, index_if}
use Rattle.flow_forms.specs.Rights.{rights_of}
use Rattle.flow_forms.proofs.Records.{number-more}
use Rattle.flow_forms.proofs.json_rights.indexes_value.Goals as goal

pub loop-place-preserved : goal.loop-place-preserved
loop-place-preserved c =
    let P = c.args.plan.now in
    let f = index_if ((rights_of P).allows c.args.client c.args.access c.args.object.now.name) in
    let k = c.loop-place.place in
    let next : k + 1 ≡ 1 + k = omega arith in
    c.in_ok-push_index.ensures
    ∙ ap (λ i. map view c.loop-place.list.items ++ index_if ((rights_of i.plan).allows c.args.client c.args.access i.name) (k + 1)) (c.rights_at-instance.ensures)
    ∙ ap (λ n. map view c.loop-place.list.items ++ index_if ((rights_of P).allows c.args.client c.args.access n) (k + 1)) c.name.ensures
    ∙ ap (λ j. map view c.loop-place.list.items ++ f j) next
    ∙ ap (λ t. t ++ f (1 + k)) c.loop-place.invariant
    ∙ sym (number-more f 1 k)

pub returns : goal.returns
returns c =
    let P = c.args.plan.now in
    let f = index_if ((rights_of P).allows c.args.client c.args.access c.args.object.now.name) in
    let end : c.loop-place.place ≡ c.highest-highest.result = omega (arith, c.loop-place-test.false, c.loop-place.auto.place-end) in
    let all = end ∙ c.highest-highest.ensures ∙ ap (highest_for c.args.access) c.interface.ensures in
    view-Array c.loop-place.list ∙ ap array_of (c.loop-place.invariant ∙ ap (λ n. flat_map f (range_with_len 1 n)) all)
