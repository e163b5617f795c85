-- A profile of the code: what it shows, and what it is with other entries and before what was done to it.
use Rattle.std.specs.Prelude.{ℕ, Bool, ◌==◌, ◌&&◌, ◌||◌, List, Option, Some, option_map}
use Rattle.std.specs.Option.{is_some}
use Rattle.cosem_data.specs.Tree.{Tree}
use Rattle.cosem_data.specs.View.{tree}
use Rattle.cosem_data.specs.declared.data.Data.{Data}
use Rattle.meter_theory.specs.Value.{array_of, counter}
use Rattle.cosem_class.specs.Objects.{Cells, tree_or_null}
use Rattle.class_profile.specs.ProfileClass.{profile_cells}
use Rattle.class_profile.specs.Reversal.{rows_before}
use Rattle.class_profile.specs.declared.profile.Profile.{Profile}
use Rattle.class_profile.specs.declared.profile.Captured.{Captured}
use Rattle.class_profile.specs.declared.profile.ProfileChange.{ProfileChange}
use Rattle.class_profile.specs.declared.profile.ProfileChange.TheVariants as changes

-- the cells of the profile by their indexes: IEC 62056-6-2, Profile generic
abbrev pub cells_shown : Profile → Cells
cells_shown profile =
    profile_cells (array_of profile.buffer) (tree_or_null profile.capture_objects) (counter profile.capture_period) (counter profile.entries_in_use)

-- whether the profile has a cell at the index: at that of capture_objects where it can be set (own profile)
abbrev pub has_cell : Profile → ℕ → Bool
has_cell profile index = (index == 2) || ((is_some profile.capture_objects && (index == 3)) || ((index == 4) || (index == 7)))

-- the profile with these rows, so many of them in use: own profile
abbrev pub with_entries : List Tree → ℕ → Profile → Profile
with_entries rows in_use profile = record {
  buffer = rows;
  capture_objects = profile.capture_objects;
  capture_period = profile.capture_period;
  entries_in_use = in_use;
}

-- the profile with this capture_objects: own profile
abbrev pub with_objects : Option Data → Profile → Profile
with_objects objects profile = record {
  buffer = profile.buffer;
  capture_objects = objects;
  capture_period = profile.capture_period;
  entries_in_use = profile.entries_in_use;
}

-- the profile with this capture_period: own profile
abbrev pub with_period : ℕ → Profile → Profile
with_period period profile = record {
  buffer = profile.buffer;
  capture_objects = profile.capture_objects;
  capture_period = period;
  entries_in_use = profile.entries_in_use;
}

-- the profile before the capture after which it is this one: own profile
abbrev pub before_capture : Captured → Profile → Profile
before_capture captured profile = with_entries (rows_before (option_map tree captured.dropped) profile.buffer) captured.entries_in_use profile

-- the profile before a change of it: own profile
abbrev pub before_change : ProfileChange → Profile → Profile
before_change (changes.Period period) profile = with_period period profile
before_change (changes.Objects objects) profile = with_objects (Some objects) profile
before_change (changes.Captured captured) profile = before_capture captured profile
before_change (changes.Cleared cleared) profile = with_entries cleared.buffer cleared.entries_in_use profile
