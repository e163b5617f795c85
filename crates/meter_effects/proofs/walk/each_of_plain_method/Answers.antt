use Rattle.std.proofs.Common.{◌∙◌, sym}
use Rattle.meter_theory.proofs.Agreement.{object-found}
use Rattle.meter_effects.proofs.walk.each_of_plain_method.Goals as goal

pub visit-requires : goal.visit-requires
visit-requires g c = c.in-Some.ensures.named ∙ (object-found c.args.instance.now.plan c.args.instance.now.name c.args.object.now (sym c.requires)).1
