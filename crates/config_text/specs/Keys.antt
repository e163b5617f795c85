-- Which keys a table has, against those that it should have. The place of a key is that of its table, up to the dot, and
-- then the key, as TOML writes it.
use Rattle.std.specs.Prelude.{◌++◌, List, [], ◌∷◌, flat_map, Option, None, Some, Bool, not, Result, ⊤}
use Rattle.std.specs.List.{list_any}
use Rattle.std.specs.Str.{bytes_eq}
use Rattle.toml.specs.Data.{Data, Members, no_members, member, get_member}
use Rattle.config_text.specs.Fault.{Fault, Faults, fault_where, none_or, there_or}
use Rattle.config_text.specs.KeyText.{key_text}
use Rattle.config_text.specs.Near.{nearest}
use Rattle.config_text.specs.Parts.{Text}
use Rattle.config_text.specs.declared.cause.Cause.TheVariants.{KeyUnknown}

-- the keys of a table, in byte order
abbrev pub member_keys : Members → List Text
member_keys no_members = []
member_keys (member k d ms) = k ∷ member_keys ms

abbrev pub is_among : Text → List Text → Bool
is_among key known = list_any (λ k. bytes_eq k key) known

-- the first that is near a key of the known ones, or else of those that later versions have
abbrev pub or_later : Option Text → Option Text → Option Text
or_later None later = later
or_later (Some near) later = Some near

abbrev pub near_key : Text → (known later : List Text) → Option Text
near_key key known later = or_later (nearest key known) (nearest key later)

-- a key that has to be one of the known ones
abbrev pub known_key : (known later : List Text) → Text → Text → List Fault
known_key known later at key = fault_where (KeyUnknown (near_key key known later)) (at ++ key_text key) (not (is_among key known))

-- no other keys than the known ones
unfoldable pub only_of : (known later : List Text) → Text → Members → List Fault
only_of known later at t = flat_map (known_key known later at) (member_keys t)

-- the same of a table, as a reading beside those of its keys
abbrev pub others_of : (known later : List Text) → Text → Members → Result ⊤ Faults
others_of known later at t = none_or (only_of known later at t)

abbrev pub others : List Text → Text → Members → Result ⊤ Faults
others known at t = others_of known [] at t

-- what stands at a key that has to be there
abbrev pub there : Text → Text → Members → Result Data Faults
there at key t = there_or (at ++ key) (get_member key t)
