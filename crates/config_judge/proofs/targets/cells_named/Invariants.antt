use Rattle.std.proofs.Common.{◌≡◌, map, take}
use Rattle.class_profile.specs.ProfileClass.{HaveAttributeIndexes}
use Rattle.config_rules.specs.PlanOf.{cell_named}
use Rattle.config_judge.proofs.targets.cells_named.Given as goal

-- the attributes before are taken
abbrev pub invariant-loop-capture : goal.invariant-loop-capture
invariant-loop-capture l = record {
  cells : l.cells.items ≡ map (λ x. cell_named l.directory.config.now x.target) (take l.capture-index l.captures);
  indexes : HaveAttributeIndexes l.cells.items;
}
