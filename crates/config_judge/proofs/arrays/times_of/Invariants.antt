use Rattle.std.proofs.Common.{◌≡◌, map, take}
use Rattle.cosem_data.specs.View.{tree}
use Rattle.config_rules.specs.PlanOf.{time_of}
use Rattle.config_judge.proofs.arrays.times_of.Given as goal

-- the texts before have been read
abbrev pub invariant-loop-text : goal.invariant-loop-text
invariant-loop-text l = map tree l.times.items ≡ map time_of (take l.text-index l.texts)
