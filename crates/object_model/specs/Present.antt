-- The alternatives that are present, by where they stand.
use Rattle.std.specs.Prelude.{◌≡◌, Some, slice_get}
use Rattle.meter_theory.specs.declared.refs.ScriptRef.{ScriptRef}
use Rattle.meter_theory.specs.Menus.{Choice, alternatives}
use Rattle.object_model.specs.declared.menus.PlacedScript.{PlacedScript}

-- the script stands at this place among the alternatives, as its table does among those to which the schedule refers: own profile
pub record IsPlaced (scripts : Choice ScriptRef) (script : ScriptRef) (placed : PlacedScript) : Type 0 where
  pub there : slice_get (alternatives scripts) placed.place ≡ Some script
  pub number : placed.script ≡ script.script
