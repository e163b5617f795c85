-- What the elements of an array say. `says` is what one says at its place, `name[i]`; an element of another kind is a fault there.
use Rattle.std.specs.Prelude.{ℕ, ◌+◌, ◌++◌, List, [], ◌∷◌, codes, Option, Some, None, Result, Ok}
use Rattle.std.specs.Fmt.{decimal}
use Rattle.toml.specs.Data.{Data, Items, Members, no_items, item, get_member, as_str, as_integer, as_array}
use Rattle.config_text.specs.Fault.{Faults, taken_or, ◌<*>◌, ◌>>=◌}
use Rattle.config_text.specs.Keys.{there}
use Rattle.config_text.specs.Parts.{Text}
use Rattle.config_text.specs.declared.takes.Number.TheVariants.{Index}
use Rattle.config_text.specs.declared.takes.KeyTakes.{KeyTakes}
use Rattle.config_text.specs.declared.takes.KeyTakes.TheVariants.{Indexes}
use Rattle.config_text.specs.Values.{number_in}

-- the place of an element of an array
abbrev pub element_place : Text → ℕ → Text
element_place name i = name ++ codes "[" ++ decimal i ++ codes "]"

-- what stands first, and what stands behind it
abbrev pub in_front : {A : Type 0} → A → List A → List A
in_front x xs = x ∷ xs

-- what each element says, in order, or the faults of all
unfoldable pub each : {A : Type 0} → (Text → Data → Result A Faults) → Text → ℕ → Items → Result (List A) Faults
each says name i no_items = Ok []
each says name i (item d rest) = Ok in_front <*> says (element_place name i) d <*> each says name (i + 1) rest

-- what the elements of an array say; where there is none, that is the fault
abbrev pub array_of : {A : Type 0} → KeyTakes → (Text → Data → Result A Faults) → Text → Option Items → Result (List A) Faults
array_of takes says place array = do
  items ← taken_or takes place array
  each says place 0 items

-- the same, and nothing where the array is left out
abbrev pub array_or_none : {A : Type 0} → KeyTakes → (Text → Data → Result A Faults) → Text → Option Data → Result (List A) Faults
array_or_none takes says place None = Ok []
array_or_none takes says place (Some d) = array_of takes says place (as_array d)

-- the same, if the array is there
abbrev pub array_if_there : {A : Type 0} → KeyTakes → (Text → Data → Result A Faults) → Text → Option Data → Result (Option (List A)) Faults
array_if_there takes says place None = Ok None
array_if_there takes says place (Some d) = do
  xs ← array_of takes says place (as_array d)
  Ok (Some xs)

-- at a key: of an array that has to be there, of one that may be left out, and of a menu
unfoldable pub array_at : {A : Type 0} → KeyTakes → (Text → Data → Result A Faults) → Text → Text → Members → Result (List A) Faults
array_at takes says at key t = do
  d ← there at key t
  array_of takes says (at ++ key) (as_array d)

unfoldable pub optional_array_at : {A : Type 0} → KeyTakes → (Text → Data → Result A Faults) → Text → Text → Members → Result (List A) Faults
optional_array_at takes says at key t = array_or_none takes says (at ++ key) (get_member key t)

unfoldable pub menu_at : {A : Type 0} → KeyTakes → (Text → Data → Result A Faults) → Text → Text → Members → Result (Option (List A)) Faults
menu_at takes says at key t = array_if_there takes says (at ++ key) (get_member key t)

-- texts, and indexes
abbrev pub text_of : KeyTakes → Text → Data → Result Text Faults
text_of takes place d = taken_or takes place (as_str d)

abbrev pub index_of : Text → Data → Result ℕ Faults
index_of place d = taken_or Indexes place (number_in Index (as_integer d))

abbrev pub texts_at : KeyTakes → Text → Text → Members → Result (List Text) Faults
texts_at takes at key t = array_at takes (text_of takes) at key t

abbrev pub indexes_at : Text → Text → Members → Result (List ℕ) Faults
indexes_at at key t = optional_array_at Indexes index_of at key t
