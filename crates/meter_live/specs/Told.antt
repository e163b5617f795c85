-- A live meter: a meter with its trail, and what was published of it. All of it is own profile.
use Rattle.std.specs.List.{list_all}
use Rattle.std.specs.Prelude.{◌≡◌, ℕ, Bool, true, cond, MatchBool, List, [], ◌∷◌, ◌++◌, length}
use mathlib.Core.List.{IsPrefix}
use Rattle.logbook.specs.Pages.{Book}
use Rattle.meter_theory.specs.Plan.{Plan, start}
use Rattle.meter_theory.specs.Replies.{run}
use Rattle.meter_theory.specs.Steps.{Step}
use Rattle.meter_core.specs.Changing.{is_changing}
use Rattle.meter_live.specs.Marks.{Mark}
use Rattle.meter_live.specs.Outgoing.{Outgoing}
use Rattle.meter_live.specs.Tally.{EndsWith}
use Rattle.meter_live.specs.Trail.{Traced, after}

-- the meter, the history of its changes, the steps of it that are published, and the pending ones behind them
pub record Told : Type 0 where
  pub meter : Traced
  pub book : Book
  pub published : List Step
  pub pending : List Step

-- of a meter and what goes out of it
abbrev pub told_by : Traced → Outgoing → Told
told_by meter out = record { meter = meter; book = out.book; published = out.published; pending = out.pending }

-- The published steps and the pending ones may each have changed the meter, are as many as its changes, and their run from the
-- start is its state.
pub record IsPublished (t : Told) : Type 0 where
  pub changing : list_all (is_changing t.meter.accepted.plan) (t.published ++ t.pending) ≡ true
  pub long : length (t.published ++ t.pending) ≡ t.meter.changes
  pub state : t.meter.state ≡ run t.meter.accepted.plan (start t.meter.accepted.plan) (t.published ++ t.pending)

-- what lies under the lock of a board: the meter, how many ports were opened, and how many of 256 were not
pub record Desked : Type 0 where
  pub live : Told
  pub opened : ℕ
  pub left : ℕ

-- by the books as many steps were taken, and as many changes, as the meter counts
pub record IsBooked (t : Told) (steps changes : ℕ) : Type 0 where
  pub counted : t.meter.count ≡ steps
  pub changed : t.meter.changes ≡ changes

-- it is of the plan whose copies are published
pub record IsTold (P : Plan) (t : Told) : Type 0 where
  pub plan_is : P ≡ t.meter.accepted.plan
  pub kept : IsPublished t

-- all steps that may have changed the meter: the whole history, as it was written
abbrev pub written_of : Told → Mark
written_of t = record { book = t.book; steps = t.published ++ t.pending }

-- After a step by this port: one that may change the meter stands behind the pending ones.
abbrev pub acted : Told → ℕ → Step → Told
acted t port step = record {
  meter = after t.meter port step;
  book = t.book;
  published = t.published;
  pending = cond (is_changing t.meter.accepted.plan step) (t.pending ++ step ∷ []) t.pending;
}

-- all pending steps were published, in order
abbrev pub posted : Told → Told
posted t = record { meter = t.meter; book = t.book; published = t.published ++ t.pending; pending = [] }

-- after a step by this port, of which the readers were told or not
abbrev pub put_by : Told → ℕ → Step → Bool → Told
put_by t port step told = cond told (posted (acted t port step)) (acted t port step)

-- A reader that was told of a step sees on, and a step that may change the meter last; one that wasn't told is as it was.
abbrev pub IsToldOf : Plan → Step → Bool → List Step → List Step → Type 0
IsToldOf P step told old new = MatchBool told (IsPrefix old new × (is_changing P step ≡ true → EndsWith new step)) (new ≡ old)
