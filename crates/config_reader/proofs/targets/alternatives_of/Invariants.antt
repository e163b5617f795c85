use Rattle.std.proofs.Common.{◌≡◌, map, take}
use Rattle.config_rules.specs.PlanOf.{cells_named}
use Rattle.config_reader.proofs.targets.alternatives_of.Given as goal

-- the alternatives before are taken
abbrev pub invariant-loop-alternative : goal.invariant-loop-alternative
invariant-loop-alternative l =
    map (λ cells. cells.items) l.menu.items ≡ map (cells_named l.directory.config.now) (take l.alternative-index l.alternatives)
