-- Attributes that may have a menu: a few alternatives, one of which they hold (own profile).
use Rattle.std.specs.Prelude.{ℕ, pos, Bool, true, false, List, [], ◌∷◌, map, find}
use Rattle.std.specs.Option.{unwrap_or}
use Rattle.cosem_data.specs.Tree.{Tree, octet_string, integer, long_unsigned, array, structure, trees}
use Rattle.cosem_data.specs.Equal.{same_tree}
use Rattle.cosem_data.specs.declared.name.LogicalName.{LogicalName}
use Rattle.cosem_data.specs.declared.cell.CellRef.{CellRef}
use Rattle.meter_theory.specs.declared.refs.ScriptRef.{ScriptRef}

-- The alternatives of an attribute: the configured one, with which it starts, and those of its menu. Without a menu the
-- attribute is fixed.
pub record Choice (A : Type 0) : Type 0 where
  pub configured : A
  pub menu : List A

abbrev pub alternatives : {A : Type 0} → Choice A → List A
alternatives c = c.configured ∷ c.menu

abbrev pub has_any : {A : Type 0} → List A → Bool
has_any [] = false
has_any (x ∷ xs) = true

abbrev pub has_menu : {A : Type 0} → Choice A → Bool
has_menu c = has_any c.menu

-- The alternative that an attribute of this value holds: the one of the menu that stands as this value, else the configured
-- one.
abbrev pub chosen : {A : Type 0} → (A → Tree) → Choice A → Tree → A
chosen value_of c v = unwrap_or (find (λ a. same_tree (value_of a) v) c.menu) c.configured

-- The two attributes that may have one (IEC 62056-6-2)

abbrev pub name_value : LogicalName → Tree
name_value n = octet_string n.0

-- a number as an attribute_index, attribute_id or method_id
abbrev pub index_value : ℕ → Tree
index_value index = integer (pos index)

-- capture_object_definition, data_index 0
abbrev pub capture_object : CellRef → Tree
capture_object x =
    structure (trees (long_unsigned x.class_id ∷ name_value x.name ∷ index_value x.index ∷ long_unsigned 0 ∷ []))

-- capture_objects of a profile
abbrev pub capture_objects_value : List CellRef → Tree
capture_objects_value captured = array (trees (map capture_object captured))

-- executed_script of a single action schedule, and action_item
abbrev pub script_ref_value : ScriptRef → Tree
script_ref_value r = structure (trees (name_value r.table ∷ long_unsigned r.script ∷ []))
