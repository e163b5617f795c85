-- What an admitted plan promises, over all runs.
use Rattle.std.specs.Prelude.{◌≡◌, ◌≢◌, ◌⊎◌, ℕ, Bool, true, false, not, List, [], ◌∷◌, Option, Some, None}
use Rattle.meter_theory.specs.Lists.{IsIn}
use Rattle.cosem_data.specs.declared.cell.CellRef.{CellRef}
use Rattle.meter_theory.specs.State.{State, keys, value}
use Rattle.meter_theory.specs.Plan.{Plan, cells, held}
use Rattle.meter_theory.specs.Rights.{cell_of}
use Rattle.meter_theory.specs.Steps.{Step, Set, Input, client_of, next}
use Rattle.meter_theory.specs.Replies.{is_step_of_client, run, replies, replies_of}
use Rattle.meter_theory.specs.States.{IsState}
use Rattle.meter_theory.specs.Labels.{Labelling, may_influence, may_learn}

-- The state has the cells of a state of the plan. What the values are isn't asked: the promises hold from any values.
abbrev pub HasCells : Plan → State → Type 0
HasCells P s = keys s ≡ held P

-- the step is a client's that passes the test
abbrev pub is_step_of : (ℕ → Bool) → Option ℕ → Bool
is_step_of K None = false
is_step_of K (Some c) = K c

-- The second list is the first with any of the steps of clients in K taken out.
abbrev pub Thinned : (ℕ → Bool) → List Step → List Step → Type 0
Thinned K [] l' = l' ≡ []
Thinned K (step ∷ l) l' =
    ((is_step_of K (client_of step) ≡ true) × Thinned K l l')
    ⊎ ((rest : List Step) × (l' ≡ step ∷ rest) × Thinned K l rest)

-- The steps are a Set by one client other than c to one cell, or an Input to one cell, that c may not learn.
-- Only their values differ.
abbrev pub DifferHidden : Plan → Labelling → ℕ → Step → Step → Type 0
DifferHidden P Q c (Set d x selected v) (Set e y chosen w) =
    (d ≡ e) × (d ≢ c) × (x ≡ y) × (selected ≡ chosen) × IsIn (cells P) (cell_of x) × (may_learn Q c (cell_of x) ≡ false)
DifferHidden P Q c (Input x v) (Input y w) = (x ≡ y) × IsIn (cells P) x × (may_learn Q c x ≡ false)
DifferHidden P Q c _ _ = ⊥

-- The step isn't c's, and in none of the states of the set changes a cell that c may learn.
pub record IsQuiet (States : State → Type 0) (P : Plan) (Q : Labelling) (c : ℕ) (step : Step) : Type 0 where
  pub other : is_step_of_client c (client_of step) ≡ false
  pub changes_nothing : (s : State) → States s → (x : CellRef) → IsIn (held P) x → may_learn Q c x ≡ true →
      value (next P s step) x ≡ value s x

-- The lists are alike to c, in runs over these states: both have ended; or their heads are one step, or differ only in what is
-- hidden from c, and their rests are alike; or the head of one is quiet for c, and the rest of that list is alike with the other.
pub data AreAlike (States : State → Type 0) (P : Plan) (Q : Labelling) (c : ℕ) : List Step → List Step → Type 0 where
  both_end : AreAlike States P Q c [] []
  heads_alike : (step step' : Step) {l l' : List Step} → (step ≡ step') ⊎ DifferHidden P Q c step step' →
      AreAlike States P Q c l l' → AreAlike States P Q c (step ∷ l) (step' ∷ l')
  quiet_first : (step : Step) {l l' : List Step} → IsQuiet States P Q c step →
      AreAlike States P Q c l l' → AreAlike States P Q c (step ∷ l) l'
  quiet_second : (step : Step) {l l' : List Step} → IsQuiet States P Q c step →
      AreAlike States P Q c l l' → AreAlike States P Q c l (step ∷ l')

-- The lists are alike to c, whatever the values.
abbrev pub Alike : Plan → Labelling → ℕ → List Step → List Step → Type 0
Alike P Q c l l' = AreAlike (HasCells P) P Q c l l'

-- Place by place the steps are equal, or differ only in what is hidden from c: schedules of one length.
abbrev pub AlikeByPlace : Plan → Labelling → ℕ → List Step → List Step → Type 0
AlikeByPlace P Q c [] [] = Unit {0}
AlikeByPlace P Q c [] (step' ∷ l') = ⊥
AlikeByPlace P Q c (step ∷ l) [] = ⊥
AlikeByPlace P Q c (step ∷ l) (step' ∷ l') = ((step ≡ step') ⊎ DifferHidden P Q c step step') × AlikeByPlace P Q c l l'

-- the clients that may not influence x
abbrev pub outside : Labelling → CellRef → ℕ → Bool
outside Q x c = not (may_influence Q c x)

-- The states agree on all that c may learn.
abbrev pub LookAlike : Labelling → ℕ → State → State → Type 0
LookAlike Q c s s' = (x : CellRef) → may_learn Q c x ≡ true → value s x ≡ value s' x

-- Taking out steps of clients that may not influence a cell leaves its value, and only the meter and the
-- clients that may influence it change it.
pub record Influence (P : Plan) (Q : Labelling) : Type 0 where
  pub thinned : (s : State) (x : CellRef) (l l' : List Step) → HasCells P s → IsIn (held P) x →
      Thinned (outside Q x) l l' → value (run P s l) x ≡ value (run P s l') x
  pub changed : (s : State) (x : CellRef) (step : Step) → HasCells P s → IsIn (held P) x →
      value (next P s step) x ≢ value s x → is_step_of (outside Q x) (client_of step) ≡ false

-- What a client may not learn has no influence on its replies, from any values; and from values of the declared kinds, where it is
-- enough that a step is quiet in the states of these.
pub record Secrecy (P : Plan) (Q : Labelling) : Type 0 where
  pub same_replies : (c : ℕ) (s s' : State) (l l' : List Step) → HasCells P s → HasCells P s' →
      LookAlike Q c s s' → Alike P Q c l l' → replies_of c l (replies P s l) ≡ replies_of c l' (replies P s' l')
  pub same_replies_of_kinds : (c : ℕ) (s s' : State) (l l' : List Step) → IsState P s → IsState P s' →
      LookAlike Q c s s' → AreAlike (IsState P) P Q c l l' → replies_of c l (replies P s l) ≡ replies_of c l' (replies P s' l')
