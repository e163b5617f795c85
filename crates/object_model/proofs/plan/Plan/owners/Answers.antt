use Rattle.std.proofs.Common.{◌≡◌, ◌+◌, ◌∙◌, Some, flat_map, take, length, get_or, refl, sym, ap, subst, arith}
use Rattle.std.specs.Prelude.{slice_get}
use Rattle.std.proofs.lemmas.List.{take_all}
use Rattle.std.proofs.lemmas.Option.{slice_get_read}
use Rattle.meter_theory.specs.Plan.{start_of}
use Rattle.meter_theory.specs.State.{keys}
use Rattle.object_model.specs.Tables.{AreNumbersOf}
use Rattle.object_model.proofs.Numbered.{owners-more}
use Rattle.object_model.proofs.plan.Plan.owners.Goals as goal

pub loop-number-preserved : goal.loop-number-preserved
loop-number-preserved c =
    let P = c.args.self.now in
    let os = c.objects-objects.result.now in
    let k = c.loop-number.number in
    let item = c.index-objects-number.result in
    let are = c.objects-objects.ensures in
    let there = subst (λ all. slice_get all k ≡ Some item) are (slice_get_read os _ k item refl c.loop-number-test.true c.index-objects-number.is) in
    let so_far = subst (λ all. AreNumbersOf P (keys (flat_map (λ o. start_of o.name o.part) (take k all))) c.loop-number.owners.items) are c.loop-number.invariant in
    subst (λ all. AreNumbersOf P (keys (flat_map (λ o. start_of o.name o.part) (take (k + 1) all))) c.push_times.new.numbers.items) (sym are)
    (subst (AreNumbersOf P (keys (flat_map (λ o. start_of o.name o.part) (take (k + 1) P.objects)))) (sym c.in_ok-push_times.ensures)
    (owners-more P k item c.loop-number.owners.items c.number_of_cells.result c.known.ensures.sound.names there (omega (arith, c.loop-number-test.true, ap length are))
    (c.index-objects-number.is ∙ ap (λ all. get_or all k item) are)
    (c.number_of_cells.ensures.number item.name ∙ ap (λ p. length (start_of item.name p)) c.part.ensures) so_far))

pub returns : goal.returns
returns c =
    let P = c.args.self.now in
    let os = c.objects-objects.result.now in
    subst (λ all. AreNumbersOf P (keys (flat_map (λ o. start_of o.name o.part) all)) c.loop-number.owners.items) (take_all c.loop-number.number os c.loop-number-test.false ∙ c.objects-objects.ensures)
    c.loop-number.invariant
