use Rattle.std.proofs.Common.{◌∙◌, ap, flat_map, Some, ◌++◌}
use Rattle.object_model.specs.Stored.{inner_pairs, stored_pairs}
use Rattle.object_model.proofs.Inner.{inner_ticked, some_clock}
use Rattle.object_model.proofs.meter.Meter.tick.Goals as goal

pub tick_told-requires-clause-clock : goal.tick_told-requires-clause-clock
tick_told-requires-clause-clock c = some_clock c.args.plan.now c.args.self.now c.self.inside.objects.items c.self.inside.inner_clock c.self.view_is c.requires.cells c.in-None.is

pub returns-in-Some : goal.returns-in-Some
returns-in-Some c =
    ap (λ t. flat_map stored_pairs c.self.inside.objects.items ++ inner_pairs (Some t)) c.next_second.ensures
    ∙ inner_ticked c.args.plan.now c.args.self.now c.self.inside.objects.items c.self.inside.inner_clock c.self.view_is c.requires.cells c.in-Some.moment c.in-Some.is
