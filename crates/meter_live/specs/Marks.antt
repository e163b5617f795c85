-- Marks in the one history of the steps that may have changed a meter. All of it is own profile.
use Rattle.std.specs.Prelude.{◌≡◌, ℕ, ◌==◌, List, [], ◌∷◌, ◌++◌, length, MatchBool, true}
use mathlib.Core.List.{IsPrefix}
use Rattle.logbook.specs.Pages.{Cell, Step as Move, View, Book, Named}
use Rattle.flow_checker.specs.Accepted.{Accepted}
use Rattle.meter_theory.specs.Labels.{nobody}
use Rattle.meter_theory.specs.Plan.{Plan}
use Rattle.meter_theory.specs.State.{State}
use Rattle.meter_theory.specs.Steps.{Step}

-- a plan with nothing in it, accepted by a policy of nobody: for who has no other
abbrev pub empty_plan : Plan
empty_plan = record { version = 1; clients = []; objects = []; rights = [] }

abbrev pub empty_accepted : Accepted
empty_accepted = record { plan = empty_plan; policy = record { table = []; default = record { influence = nobody; learn = nobody } } }

-- the same of books
abbrev pub empty_book : Book
empty_book = record { number = 0; log_name = 0; cells_name = 0 }

-- a beginning of the history that this book is
pub record Mark : Type 0 where
  pub book : Book
  pub steps : List Step

-- the same with this step behind it
abbrev pub longer : Mark → Step → Mark
longer m step = record { book = m.book; steps = m.steps ++ step ∷ [] }

-- each of the two lists is a beginning of one list
pub record LieOnOne (one : List Step) (other : List Step) : Type 0 where
  pub all : List Step
  pub one_begins : IsPrefix one all
  pub other_begins : IsPrefix other all

-- a copy of a meter, and the mark of the steps that it is the run of
pub record Copy : Type 0 where
  pub accepted : Accepted
  pub state : State
  pub front : Mark

-- The first word is the number of steps. A book has two words, of which this one leaves the second at 0.
pub record IsCounted (cells : List Cell) (log : List Step) : Type 0 where
  pub words : cells ≡ (length log, true) ∷ (0, true) ∷ []

-- the word of a book that counts its steps
abbrev pub head_of : Book → Named
head_of b = record { tracked = true; key = 0; book = b }

-- a step was added to all that had been seen; or there were others
abbrev pub Adds : Move Step → View Step ℕ → ℕ → View Step ℕ → Type 0
Adds s v found w = MatchBool (found == s.old) (w.0 ≡ v.0 ++ s.ask ∷ []) (length w.0 ≡ found)
