use Rattle.std.proofs.Common.{ap, ◌∙◌, length}
use Rattle.meter_theory.specs.Plan.{start_of}
use Rattle.object_model.proofs.Places.{placed-more}
use Rattle.object_model.proofs.place.places_of.Goals as goal

pub loop-object-preserved : goal.loop-object-preserved
loop-object-preserved c =
    placed-more c.args.objects.now c.loop-object.places.items c.push.new.self.items c.loop-object.next c.behind-next.result c.loop-object.object-index
    c.number_of_cells.result c.object-item.result c.loop-object-test.true c.object-item.is c.loop-object.invariant c.in_ok-push.ensures.items
    (λ n. c.number_of_cells.ensures.number n ∙ ap (λ p. length (start_of n p)) c.part.ensures) c.number_of_cells.ensures.few c.behind-next.ensures.owner c.behind-next.ensures.first_cell
