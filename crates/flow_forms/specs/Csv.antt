-- The report as CSV (RFC 4180, with a newline alone behind each record): a record for each cell, client and reach. What stands in
-- it is own profile. It is a function of the cells, the names of the clients, the labels that the policy gives and the distances
-- alone, so that no password and no value can be in it.
use Rattle.std.specs.Prelude.{◌≡◌, ℕ, Bool, true, false, List, [], ◌∷◌, codes, flat_map, get_or, length, map, Option, Some, None, is_some}
use Rattle.std.specs.Fmt.{decimal}
use Rattle.std.specs.Io.KnownBytes.{Appends}
use Rattle.std.specs.List.{range_with_len}
use Rattle.cosem_data.specs.declared.cell.CellRef.{CellRef}
use Rattle.csv.specs.Writing.{default_writer, fields_written, has_written, row_text, text_written, writer_setup}
use Rattle.csv.specs.declared.writer.Writer.{Writer}
use Rattle.meter_theory.specs.Labels.{Policy, has, labelling_of_policy}
use Rattle.meter_theory.specs.Plan.{Plan, cells}
use Rattle.meter_theory.specs.Ways.{set_for}
use Rattle.meter_theory.specs.declared.flow.Label.{Label}
use Rattle.meter_theory.specs.declared.flow.Reach.{Reach}
use Rattle.meter_theory.specs.declared.flow.Reach.TheVariants.{Influence, Learn}
use Rattle.value_text.specs.Texts.{cell_text}
use Rattle.flow_ways.specs.Found.{AreDistancesOf, Distances}
use Rattle.flow_map.specs.FlowWords.{reach_word}

abbrev pub yes_or_no : Bool → List ℕ
yes_or_no true = codes "yes"
yes_or_no false = codes "no"

-- how many edges the shortest ways have, and nothing where there is no way: own profile
abbrev pub edges_text : Option ℕ → List ℕ
edges_text None = []
edges_text (Some d) = decimal d

abbrev pub header : List (List ℕ)
header = codes "cell" ∷ codes "client" ∷ codes "kind" ∷ codes "may" ∷ codes "edges" ∷ codes "allowed" ∷ []

-- the fields of a record: own profile
abbrev pub fields : (cell client : List ℕ) → Reach → Option ℕ → Bool → List (List ℕ)
fields cell client reach distance allowed =
    cell ∷ client ∷ reach_word reach ∷ yes_or_no (is_some distance) ∷ edges_text distance ∷ yes_or_no allowed ∷ []

-- the record of a cell with this label, a client and a reach: own profile
abbrev pub row : (names : List (List ℕ)) → Distances → CellRef → Label → ℕ → Reach → List (List ℕ)
row names found x label c reach = fields (cell_text x) (get_or names c []) reach (found reach c x) (has (set_for reach label) c)

-- those of a client, influence before learn: own profile
abbrev pub client_rows : (names : List (List ℕ)) → Distances → CellRef → Label → ℕ → List (List (List ℕ))
client_rows names found x label c = row names found x label c Influence ∷ row names found x label c Learn ∷ []

-- those of the first clients, in their order: own profile
abbrev pub first_rows : (names : List (List ℕ)) → Distances → CellRef → Label → ℕ → List (List (List ℕ))
first_rows names found x label count = flat_map (client_rows names found x label) (range_with_len 0 count)

-- those of all clients: own profile
abbrev pub cell_rows : (names : List (List ℕ)) → Distances → (CellRef → Label) → CellRef → List (List (List ℕ))
cell_rows names found labels x = first_rows names found x (labels x) (length names)

-- records, each ended by a newline (RFC 4180, section 2)
abbrev pub rows_text : List (List (List ℕ)) → List ℕ
rows_text rows = flat_map (row_text default_writer) rows

-- the text: the header, and the records of each cell in the order of the cells (own profile)
abbrev pub csv_text : List CellRef → (names : List (List ℕ)) → (CellRef → Label) → Distances → List ℕ
csv_text xs names labels found = rows_text (header ∷ flat_map (cell_rows names found labels) xs)

-- the names of a plan's clients
abbrev pub client_names : Plan → List (List ℕ)
client_names P = map (λ who. who.name) P.clients

-- the text of a plan and a policy, with the distances of the plan's ways: own profile
pub record IsCsv (P : Plan) (Q : Policy) (text : List ℕ) : Type 0 where
  pub found : Distances
  pub are_distances : AreDistancesOf P found
  pub text_is : text ≡ csv_text (cells P) (client_names P) (labelling_of_policy P Q) found

-- A writer of records

-- it stands between two records, and writes as RFC 4180 has it, but for the newline
pub record IsBetween {W : Type 0} (writer : Writer W) : Type 0 where
  pub setup : writer_setup writer ≡ default_writer
  pub fields_are : fields_written writer ≡ 0
  pub shown : has_written writer ≡ false

-- these records were written
pub record AreWritten {W : Type 0} (contents : W → Option (List ℕ)) (old new : Writer W) (rows : List (List (List ℕ))) : Type 0 where
  pub between : IsBetween new
  pub text : Appends (text_written contents old) (text_written contents new) (rows_text rows)
