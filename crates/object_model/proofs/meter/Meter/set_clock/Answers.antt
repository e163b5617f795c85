use Rattle.object_model.proofs.Inner.{inner_set, clock_left}
use Rattle.object_model.proofs.meter.Meter.set_clock.Goals as goal

pub returns-in-Some : goal.returns-in-Some
returns-in-Some c =
    inner_set c.args.plan.now c.args.self.now c.self.inside.objects.items c.self.inside.inner_clock c.self.view_is c.requires.cells c.in-Some.field-0 c.args.moment c.in-Some.is c.known.ensures

pub returns-in-None : goal.returns-in-None
returns-in-None c =
    clock_left c.args.plan.now c.args.self.now c.self.inside.objects.items c.self.inside.inner_clock c.self.view_is c.requires.cells c.args.moment c.in-None.is
