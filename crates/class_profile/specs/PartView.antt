-- What the fixed part of a profile stands for.
use Rattle.std.specs.Prelude.{List, map, cond, Option, Some, None}
use Rattle.cosem_data.specs.Tree.{Tree}
use Rattle.cosem_data.specs.declared.cell.CellRef.{CellRef}
use Rattle.meter_theory.specs.Menus.{Choice, alternatives, has_menu, capture_objects_value}
use Rattle.meter_theory.specs.Plan as theory
use Rattle.class_profile.specs.declared.profile.ProfilePart.{ProfilePart}

-- what a profile may capture: IEC 62056-6-2, Profile generic, capture_objects; the menu is own profile
abbrev pub captures_of_part : ProfilePart → Choice (List CellRef)
captures_of_part part = record { configured = part.captured.items; menu = map (λ captured. captured.items) part.menu.items }

-- what a profile captures, how often at the start, and how much of it is kept: IEC 62056-6-2, Profile generic
abbrev pub profile_part_of : ProfilePart → theory.Part
profile_part_of part = theory.ProfileGeneric (captures_of_part part) part.capture_period part.profile_entries

-- the values that capture_objects may be set to, where it can be set: own profile
abbrev pub offered : ProfilePart → List Tree
offered part = map capture_objects_value (alternatives (captures_of_part part))

-- the start of capture_objects where it can be set, and none where it is fixed: own profile
abbrev pub start_objects : Choice (List CellRef) → Option Tree
start_objects captured = cond (has_menu captured) (Some (capture_objects_value captured.configured)) None
