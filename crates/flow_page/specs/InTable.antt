-- What is told of the cells of a table, and its rows.
use Rattle.std.specs.Prelude.{ℕ, List}
use Rattle.flow_map.specs.Grouping.{numbers_of}
use Rattle.flow_page.specs.Marks.{Told, told}
use Rattle.flow_page.specs.declared.view.table.Table.{Table}

abbrev pub told_in : Table → Told
told_in table = told table.facts.now

-- the numbers of the cells of each row
abbrev pub rows_in : Table → List (List ℕ)
rows_in table = numbers_of table.rows.now
