-- What was published of a meter, and what is still to be. All of it is own profile.
use Rattle.std.specs.Prelude.{◌≡◌, List, [], ◌∷◌, ◌++◌, Option, None, Some}
use Rattle.logbook.specs.Pages.{Book}
use Rattle.meter_theory.specs.Plan.{Plan}
use Rattle.meter_theory.specs.Steps.{Step}
use Rattle.meter_live.specs.Copies.{last_mark}
use Rattle.meter_live.specs.Marks.{Mark, Copy}
use Rattle.meter_live.specs.declared.shown.Note.{Note}
use Rattle.meter_live.specs.declared.shown.Note.TheVariants.{Made, UpTo}
use Rattle.meter_live.specs.declared.rule.Names.{Names}

-- the published steps, and the pending ones behind them, of which the last may wait for memory
pub record Outgoing : Type 0 where
  pub plan : Plan
  pub book : Book
  pub published : List Step
  pub pending : List Step
  pub late : Option Step

-- the same is published, of the same plan and history
abbrev pub ShowsSame : Outgoing → Outgoing → Type 0
ShowsSame old new = (new.plan ≡ old.plan) × (new.book ≡ old.book) × (new.published ≡ old.published)

abbrev pub list_of : Option Step → List Step
list_of None = []
list_of (Some step) = step ∷ []

-- the steps among the notes, in order
abbrev pub steps_in : List Note → List Step
steps_in [] = []
steps_in (Made step ∷ notes) = step ∷ steps_in notes
steps_in (UpTo mark ∷ notes) = steps_in notes

-- the mark of what is shown, the steps that were sent behind it, and the last mark that was sent
pub record Sending : Type 0 where
  pub plan : Plan
  pub front : Mark
  pub pending : List Step
  pub mark : Mark

-- what is shown, and what the notes behind it send
abbrev pub sending : Copy → List Note → Sending
sending copy notes = record { plan = copy.accepted.plan; front = copy.front; pending = steps_in notes; mark = last_mark copy.front notes }

-- all steps that are shown and sent
abbrev pub all_marked : Sending → Mark
all_marked s = record { book = s.front.book; steps = s.front.steps ++ s.pending }

-- the steps that were sent, and the one behind them that waits for memory
abbrev pub pending_of : Sending → Option Step → List Step
pending_of s late = s.pending ++ list_of late

-- what goes out by what was sent, and by the step that waits
abbrev pub outgoing : Sending → Option Step → Outgoing
outgoing s late = record { plan = s.plan; book = s.front.book; published = s.front.steps; pending = pending_of s late; late = late }

-- the plan and the history of a reader, and the steps that it has seen
pub record Seer : Type 0 where
  pub plan : Plan
  pub book : Book
  pub seen : List Step

abbrev pub seer : Names → Seer
seer v = record { plan = v.plan; book = v.front.book; seen = v.front.steps }
