use Rattle.std.proofs.Common.{◌==◌, sym, ◌∙◌, arith}
use Rattle.meter_theory.specs.Plan.{class_of}
use Rattle.object_model.proofs.Puts.{position-within}
use Rattle.object_model.proofs.plan.clock_of.Goals as goal

pub overflow_cast-result : goal.overflow_cast-result
overflow_cast-result c =
    omega (arith, position-within (λ o. class_of o.part == 8) 0 c.args.objects.now c.in_ok-number.number (sym c.in_ok-number.was ∙ c.place_of_clock.ensures), c.requires)
