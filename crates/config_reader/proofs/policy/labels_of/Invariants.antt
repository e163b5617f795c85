use Rattle.std.proofs.Common.{take}
use Rattle.config_rules.specs.Faultless.{AreLabelsOf}
use Rattle.config_reader.proofs.policy.labels_of.Given as goal

-- the labels before are taken
abbrev pub invariant-loop-label : goal.invariant-loop-label
invariant-loop-label l = AreLabelsOf l.directory.config.now (take l.label-index l.labels) l.table.items
