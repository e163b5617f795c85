-- The text of labels: one line a cell. All of it is own profile.
use Rattle.std.specs.Prelude.{◌≡◌, ℕ, ◌+◌, ◌==◌, ◌<◌, ◌≤◌, Bool, true, false, ◌&&◌, nat_le, List, [], ◌∷◌, ◌++◌, length, flat_map, All, Option, Some, None, Result, Ok, Err, if◌then◌else◌}
use Rattle.std.specs.List.{position_from}
use Rattle.cosem_data.specs.Cells.{cell, same_cell}
use Rattle.cosem_data.specs.Clients.{has_client}
use Rattle.cosem_data.specs.declared.cell.CellRef.{CellRef}
use Rattle.cosem_data.specs.declared.clients.ClientSet.{ClientSet}
use Rattle.meter_theory.specs.Labels.{Labels, nobody}
use Rattle.meter_theory.specs.Lists.{IsIn}
use Rattle.meter_theory.specs.Plan.{Plan, cells}
use Rattle.meter_theory.specs.Sound.{IsSound}
use Rattle.meter_theory.specs.declared.flow.Label.{Label}
use Rattle.label_certificate.specs.Faults.{◌>>=◌, found_or, fault_unless, at_line}
use Rattle.label_certificate.specs.LabelLine.{LabelLine, label_line_at, line_text, parts}
use Rattle.label_certificate.specs.Members.{with_clients, places_of, rise_from, names_in_set}
use Rattle.label_certificate.specs.declared.fault.LabelCode.{LabelCode}
use Rattle.label_certificate.specs.declared.fault.LabelCode.TheVariants.{Form, Cell, Client, Order}

-- Reading

-- the index of an attribute: 0 for what a register monitor has seen (own profile)
abbrev pub index_of : Option ℕ → ℕ
index_of None = 0
index_of (Some n) = n

-- the cell that a line names (own profile)
abbrev pub cell_of : LabelLine → CellRef
cell_of l = cell l.class_id l.name (index_of l.attribute)

-- the place of a cell in plan order (own profile)
abbrev pub cell_place : Plan → CellRef → Option ℕ
cell_place P x = position_from (same_cell x) 0 (cells P)

-- the attribute is named by the number 0, which names no attribute (own profile)
abbrev pub is_zero : Option ℕ → Bool
is_zero None = false
is_zero (Some n) = n == 0

-- the place in plan order of the cell that a line names (own profile)
abbrev pub place_of : Plan → LabelLine → Option ℕ
place_of P l = if is_zero l.attribute then None else cell_place P (cell_of l)

-- the label of these clients (own profile)
abbrev pub label_of : List ℕ → List ℕ → Label
label_of influence learn = record { influence = with_clients nobody influence; learn = with_clients nobody learn }

-- the place of a line's cell, the cell and its label; the place is to be this one or above (own profile)
unfoldable pub judged : Plan → ℕ → LabelLine → Result (ℕ × (CellRef × Label)) LabelCode
judged P least l = do
  place ← found_or Cell (place_of P l)
  influence ← found_or Client (places_of P l.influence)
  learn ← found_or Client (places_of P l.learn)
  ordered ← fault_unless Order (nat_le least place && (rise_from 0 influence && rise_from 0 learn))
  Ok (place, (cell_of l, label_of influence learn))

-- the same of a line's text (own profile)
abbrev pub read_line : Plan → ℕ → List ℕ → Result (ℕ × (CellRef × Label)) LabelCode
read_line P least line = found_or Form (label_line_at line) >>= judged P least

-- the labels of lines, of which the first has this number; behind the last newline nothing is to stand (own profile)
abbrev pub labels_from : Plan → (number least : ℕ) → List (List ℕ) → Result Labels (LabelCode × ℕ)
labels_from P number least [] = Ok []
labels_from P number least (last ∷ []) = if length last == 0 then Ok [] else Err (Form, number)
labels_from P number least (line ∷ next ∷ more) =
    at_line number (read_line P least line) >>= λ entry. labels_from P (number + 1) (entry.0 + 1) (next ∷ more) >>= λ labels. Ok (entry.1 ∷ labels)

-- the labels that a text holds for a plan, or the first line with a fault, from 1, and its first fault (own profile)
abbrev pub labels_of_text : Plan → List ℕ → Result Labels (LabelCode × ℕ)
labels_of_text P text = labels_from P 1 0 (parts 10 text)

-- Writing

-- the attribute with an index, none for the index 0 (own profile)
abbrev pub attribute_of : ℕ → Option ℕ
attribute_of index = if index == 0 then None else Some index

-- the line of a cell and its label, with the names of clients in plan order (own profile)
abbrev pub label_line : Plan → CellRef × Label → LabelLine
label_line P entry = record {
  class_id = entry.0.class_id;
  name = entry.0.name;
  attribute = attribute_of entry.0.index;
  influence = names_in_set P entry.1.influence;
  learn = names_in_set P entry.1.learn;
}

-- a line for each label, in their order (own profile)
abbrev pub text_of_labels : Plan → Labels → List ℕ
text_of_labels P labels = flat_map (λ entry. line_text (label_line P entry) ++ 10 ∷ []) labels

-- Order

-- the cells of the labels are the plan's, each above those before it in plan order, and none below the least place (own profile)
abbrev pub AreFrom : Plan → ℕ → Labels → Type 0
AreFrom P least [] = Unit {0}
AreFrom P least (entry ∷ labels) = (place : ℕ) × (cell_place P entry.0 ≡ Some place) × (least ≤ place) × AreFrom P (place + 1) labels

-- the labels' cells are cells of the plan, in plan order, each once (own profile)
abbrev pub AreInPlanOrder : Plan → Labels → Type 0
AreInPlanOrder P labels = AreFrom P 0 labels

-- there is a plan of which they are so (own profile)
abbrev pub AreOfAPlan : Labels → Type 0
AreOfAPlan labels = (P : Plan) × IsSound P × AreInPlanOrder P labels

-- the set has clients of the plan only (own profile)
abbrev pub HasClientsOf : Plan → ClientSet → Type 0
HasClientsOf P set = (client : ℕ) → has_client set client ≡ true → client < length P.clients

-- the sets of the labels have clients of the plan only (own profile)
abbrev pub HaveClientsOf : Plan → Labels → Type 0
HaveClientsOf P labels = (entry : CellRef × Label) → IsIn labels entry → HasClientsOf P entry.1.influence × HasClientsOf P entry.1.learn

-- the names of the labels' cells are of bytes (own profile)
abbrev pub HaveByteNames : Labels → Type 0
HaveByteNames labels = (entry : CellRef × Label) → IsIn labels entry → All (λ b. b < 256) entry.0.name.0
