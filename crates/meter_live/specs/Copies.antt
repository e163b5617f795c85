-- The published copies of a meter, and what readers and writer know of them. All of it is own profile.
use Rattle.std.specs.Prelude.{◌≡◌, ℕ, List, [], ◌∷◌, true, false}
use mathlib.Core.Option.{some}
use mathlib.Core.List.{IsPrefix}
use lib.ListN.{get_elem?}
use Rattle.meter_theory.specs.Plan.{Plan, start}
use Rattle.meter_theory.specs.Replies.{run}
use Rattle.meter_theory.specs.State.{State}
use Rattle.meter_theory.specs.Steps.{next}
use Rattle.meter_live.specs.Marks.{Mark, empty_book, empty_plan}
use Rattle.meter_live.specs.declared.shown.Note.{Note}
use Rattle.meter_live.specs.declared.shown.Note.TheVariants.{Made, UpTo}
use Rattle.meter_live.specs.declared.rule.Names.{Names}

-- it knows this plan and this mark
abbrev pub named : Plan → Mark → Names
named P front = record { known = true; plan = P; front = front }

-- it knows nothing
abbrev pub unknown : Names
unknown = record { known = false; plan = empty_plan; front = record { book = empty_book; steps = [] } }

-- who knows a plan and a mark knows the copy's plan, and a mark in its history that the copy's begins with
abbrev pub Agrees : Plan → Mark → Names → Type 0
Agrees P front v = v.known ≡ true → (v.plan ≡ P) × (v.front.book ≡ front.book) × IsPrefix v.front.steps front.steps

-- The copy is the run from the start over the steps of its mark, and what each knows agrees with it.
abbrev pub Keeps : Plan → State → Mark → List Names → Type 0
Keeps P s front views = (s ≡ run P (start P) front.steps) × ((seat : ℕ) (v : Names) → get_elem? views seat ≡ some v → Agrees P front v)

-- what a reader learns as it enters a copy
abbrev pub Sees : Plan → State → Mark → Names → Names → Type 0
Sees P s front v w = (w ≡ named P front) × Agrees P front v × (s ≡ run P (start P) front.steps)

-- the same plan and history, and no step less
abbrev pub Follows : Names → Names → Type 0
Follows v w = (w.known ≡ true) × (w.plan ≡ v.plan) × (w.front.book ≡ v.front.book) × IsPrefix v.front.steps w.front.steps

-- what the two copies have in common, after a note
abbrev pub absorbed : Plan × State × Mark → Note → Plan × State × Mark
absorbed s (Made step) = (s.0, next s.0 s.1 step, s.2)
absorbed s (UpTo mark) = (s.0, s.1, mark)

-- the last mark among the notes
abbrev pub last_mark : Mark → List Note → Mark
last_mark f [] = f
last_mark f (Made step ∷ notes) = last_mark f notes
last_mark f (UpTo mark ∷ notes) = last_mark mark notes
