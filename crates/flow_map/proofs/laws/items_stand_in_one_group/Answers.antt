use Rattle.flow_map.proofs.Once.{alike-in-group, in-one-group}
use Rattle.flow_map.proofs.laws.items_stand_in_one_group.Goals as goal

pub returns-clause-once : goal.returns-clause-once
returns-clause-once g c = in-one-group

pub returns-clause-alike : goal.returns-clause-alike
returns-clause-alike g c = alike-in-group
