use Rattle.std.proofs.Common.{◌∙◌, ap}
use Rattle.meter_theory.specs.State.{keys}
use Rattle.object_model.proofs.Changed.{keys-undone}
use Rattle.object_model.proofs.meter.Meter.undo.Goals as goal

pub take_back-requires-in-Some : goal.take_back-requires-in-Some
take_back-requires-in-Some c = ap keys c.take_back.ensures ∙ keys-undone c.args.undo.name c.args.undo.change c.args.self.now ∙ c.requires
