use Rattle.std.proofs.Common.{◌≡◌, ◌++◌, ℕ, Some, map, take}
use Rattle.std.specs.Prelude.{slice_get}
use Rattle.meter_theory.specs.Labels.{has}
use Rattle.meter_theory.specs.Plan.{Client}
use Rattle.flow_changes.specs.Changes.{changes_of_kind}
use Rattle.flow_map.specs.Kinds.{all_kinds}
use Rattle.flow_changes.specs.Shown.{kind_shown}
use Rattle.flow_changes.proofs.Gains.{gains_by}
use Rattle.flow_changes.proofs.compare.push_kinds.Given as goal

-- the kinds before are told
abbrev pub invariant-loop-kind : goal.invariant-loop-kind
invariant-loop-kind l =
    (map kind_shown l.kinds.items ≡ map kind_shown l.initial.kinds.items ++ map (changes_of_kind l.old l.new) (take l.kind-index all_kinds))
    × ((c : ℕ) (client : Client) → slice_get l.new.plan.clients c ≡ Some client → has l.gaining c ≡ gains_by l.old l.new (take l.kind-index all_kinds) (c, client))
