use Rattle.object_model.proofs.Inner.{inner_present, some_clock}
use Rattle.object_model.proofs.meter.Meter.present.Goals as goal

pub told-requires-clause-clock : goal.told-requires-clause-clock
told-requires-clause-clock c = some_clock c.args.plan.now c.args.self.now c.self.inside.objects.items c.self.inside.inner_clock c.self.view_is c.requires.cells c.in-None.is

pub returns-in-Some : goal.returns-in-Some
returns-in-Some c = inner_present c.args.plan.now c.args.self.now c.self.inside.objects.items c.self.inside.inner_clock c.self.view_is c.requires.cells c.in-Some.moment c.in-Some.is
