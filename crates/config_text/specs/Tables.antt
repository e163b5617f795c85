-- Tables inside of tables. `says` is what a form of table says at its place, which ends with a dot.
use Rattle.std.specs.Prelude.{◌++◌, List, codes, Option, Result}
use Rattle.toml.specs.Data.{Data, Members, as_array, as_table}
use Rattle.config_text.specs.Fault.{Faults, taken_or, ◌>>=◌}
use Rattle.config_text.specs.Keys.{there}
use Rattle.config_text.specs.Parts.{Text}
use Rattle.config_text.specs.declared.takes.KeyTakes.{KeyTakes}
use Rattle.config_text.specs.declared.takes.KeyTakes.TheVariants.{Table, Tables, Lists}
use Rattle.config_text.specs.Lists.{array_at, array_of, optional_array_at}

-- what a table says; what is no table is a fault
abbrev pub table_or : {A : Type 0} → KeyTakes → (Text → Members → Result A Faults) → Text → Option Members → Result A Faults
table_or takes says place table = do
  t ← taken_or takes place table
  says (place ++ codes ".") t

abbrev pub table_of : {A : Type 0} → KeyTakes → (Text → Members → Result A Faults) → Text → Data → Result A Faults
table_of takes says place d = table_or takes says place (as_table d)

-- what the tables in an array of a list of arrays say
abbrev pub tables_of : {A : Type 0} → (Text → Members → Result A Faults) → Text → Data → Result (List A) Faults
tables_of says place d = array_of Lists (table_of Lists says) place (as_array d)

-- at a key: what its table says, what the tables in its array say, and the same where the key may be left out
unfoldable pub table_at : {A : Type 0} → (Text → Members → Result A Faults) → Text → Text → Members → Result A Faults
table_at says at key t = do
  d ← there at key t
  table_of Table says (at ++ key) d

abbrev pub list_at : {A : Type 0} → (Text → Members → Result A Faults) → Text → Text → Members → Result (List A) Faults
list_at says at key t = array_at Tables (table_of Tables says) at key t

abbrev pub optional_list_at : {A : Type 0} → (Text → Members → Result A Faults) → Text → Text → Members → Result (List A) Faults
optional_list_at says at key t = optional_array_at Tables (table_of Tables says) at key t
