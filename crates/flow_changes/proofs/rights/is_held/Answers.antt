use Rattle.flow_changes.proofs.RightsHeld.{held-is}
use Rattle.flow_changes.proofs.rights.is_held.Goals as goal

pub returns-then-is_of_class : goal.returns-then-is_of_class
returns-then-is_of_class c =
    held-is c.args.plan.now c.args.client c.in-Some.client c.args.access c.args.member.now c.rights_at-instance.result c.is_of_class.result c.is_granted.result c.in-Some.is c.rights_at-instance.ensures
    c.is_of_class.ensures c.if-is_of_class.true c.is_granted.ensures
