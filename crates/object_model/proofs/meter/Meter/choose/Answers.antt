use Rattle.std.proofs.Common.{◌∙◌, ap}
use Rattle.meter_theory.specs.Plan.{buffer, entries_in_use}
use Rattle.meter_theory.specs.State.{keys}
use Rattle.object_model.proofs.Changed.{keys-both}
use Rattle.object_model.proofs.meter.Meter.choose.Goals as goal

pub put_objects-change-requires-clause-of_plan : goal.put_objects-change-requires-clause-of_plan
put_objects-change-requires-clause-of_plan c =
    ap keys c.empty-emptied.ensures.cleared ∙ keys-both c.args.self.now (buffer c.args.instance.now.name) (entries_in_use c.args.instance.now.name) _ _ ∙ c.requires.of_plan
