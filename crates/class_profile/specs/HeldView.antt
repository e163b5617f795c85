-- What a value that a profile lends stands for.
use Rattle.std.specs.Prelude.{Bool, true, false}
use Rattle.cosem_data.specs.Tree.{Tree}
use Rattle.cosem_data.specs.View.{tree}
use Rattle.meter_theory.specs.Value.{array_of, counter}
use Rattle.class_profile.specs.declared.held.ProfileHeld.{ProfileHeld}
use Rattle.class_profile.specs.declared.held.ProfileHeld.TheVariants as held

-- the value that is lent: own profile
abbrev pub held_value : ProfileHeld → Tree
held_value (held.Value value) = tree value.now
held_value (held.Number number) = counter number
held_value (held.Rows rows) = array_of rows.now

-- the entries are lent: own profile
abbrev pub is_rows : ProfileHeld → Bool
is_rows (held.Rows rows) = true
is_rows _ = false

-- a value that is held as such is lent: own profile
abbrev pub is_value : ProfileHeld → Bool
is_value (held.Value value) = true
is_value _ = false
