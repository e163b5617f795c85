use Rattle.std.proofs.Common.{◌≡◌, ℕ, take}
use Rattle.meter_theory.specs.Rights.{lists}
use Rattle.object_model.specs.Grants.{has_bit}
use Rattle.object_model.proofs.grants.mask_of.Given as goal

abbrev pub invariant-loop-index : goal.invariant-loop-index
invariant-loop-index l = (i : ℕ) → lists (take l.index-index l.indexes) i ≡ has_bit l.mask i
