-- What a meter answers, and what a list of steps leads to.
use Rattle.std.specs.Prelude.{ℕ, ◌==◌, Bool, false, cond, List, [], ◌∷◌, Option, Some, None}
use Rattle.cosem_data.specs.Tree.{Tree}
use Rattle.cosem_data.specs.declared.cell.CellRef.{CellRef}
use Rattle.meter_theory.specs.declared.access.AccessCode.{AccessCode}
use Rattle.meter_theory.specs.Access.{is_success}
use Rattle.meter_theory.specs.Selection.{EntryDescriptor, entries_of}
use Rattle.meter_theory.specs.State.{State, value}
use Rattle.meter_theory.specs.Plan.{Plan, is_cell}
use Rattle.meter_theory.specs.Rights.{Selection, cell_of, descriptor_in, get_answer, set_answer, act_answer}
use Rattle.meter_theory.specs.Fixed.{fixed}
use Rattle.meter_theory.specs.Steps.{Step, Get, Set, Act, client_of, next}

pub data Reply : Type 0 where
  -- the value of an attribute, to a GET
  Value : Tree → Reply
  -- a result without a value
  Code : AccessCode → Reply
  -- to a step of the meter itself
  Quiet : Reply

-- the value of an attribute, as the client reads it
abbrev pub attribute : Plan → State → ℕ → CellRef → Tree
attribute P s c x = cond (is_cell P x) (value s x) (fixed P c x)

abbrev pub selected_by : Option EntryDescriptor → Tree → Tree
selected_by None v = v
selected_by (Some d) v = entries_of d v

-- what a selection leaves of a value
abbrev pub selected : Option Selection → Tree → Tree
selected None v = v
selected (Some selection) v = selected_by (descriptor_in selection.1) v

-- The reply to a step in the state before it.
abbrev pub reply_to : Plan → State → Step → Reply
reply_to P s (Get c d selection) =
    cond (is_success (get_answer P c d selection))
    (Value (selected selection (attribute P s c (cell_of d))))
    (Code (get_answer P c d selection))
reply_to P s (Set c d selector v) = Code (set_answer P c d selector v)
reply_to P s (Act c d argument) = Code (act_answer P c d argument)
reply_to P s _ = Quiet

-- The state after a list of steps.
abbrev pub run : Plan → State → List Step → State
run P s [] = s
run P s (step ∷ steps) = run P (next P s step) steps

-- The replies to a list of steps, in order.
abbrev pub replies : Plan → State → List Step → List Reply
replies P s [] = []
replies P s (step ∷ steps) = reply_to P s step ∷ replies P (next P s step) steps

abbrev pub is_step_of_client : ℕ → Option ℕ → Bool
is_step_of_client c None = false
is_step_of_client c (Some d) = c == d

-- The replies to the steps of c, in order.
abbrev pub replies_of : ℕ → List Step → List Reply → List Reply
replies_of c [] rs = []
replies_of c (step ∷ steps) [] = []
replies_of c (step ∷ steps) (r ∷ rs) =
    cond (is_step_of_client c (client_of step)) (r ∷ replies_of c steps rs) (replies_of c steps rs)
