-- What a share counts. All of it is own profile.
use Rattle.std.specs.Prelude.{◌≡◌, ℕ, ◌+◌, ◌≤◌, ◌++◌, ◌∷◌, [], MatchBool, List, length, sum_by}
use Rattle.meter_core.specs.Changing.{is_changing}
use Rattle.meter_theory.specs.Plan.{Plan}
use Rattle.meter_theory.specs.Steps.{Step}
use Rattle.meter_live.specs.Changes.{changes_of}

-- Steps that were taken, and those among them that may have changed the meter; and the board's history, as far as it was known
-- when the last of them was taken.
pub record Tally : Type 0 where
  pub steps : ℕ
  pub changes : ℕ
  pub written : List Step

-- a board that wasn't closed: the shares that came, how many ports were opened, and how many of 256 were not
pub record Unclosed : Type 0 where
  pub shares : List Tally
  pub opened : ℕ
  pub left : ℕ

-- no step was taken
pub record IsUnused (t : Tally) : Type 0 where
  pub steps : t.steps ≡ 0
  pub changes : t.changes ≡ 0

-- Who has seen these steps of the history has seen as many changes as the share counts, or more: each of them is a change.
abbrev pub HasSeen : Tally → List Step → Type 0
HasSeen t seen = t.changes ≤ length seen

-- the last of these steps is this one
abbrev pub EndsWith : List Step → Step → Type 0
EndsWith steps step = (before : List Step) × (steps ≡ before ++ step ∷ [])

-- One step more. One that may change the meter is the last of a beginning of the history, which has all changes that are counted.
pub record Counts (P : Plan) (old : Tally) (step : Step) (new : Tally) : Type 0 where
  pub steps : new.steps ≡ old.steps + 1
  pub changes : new.changes ≡ old.changes + changes_of P step
  pub written : MatchBool (is_changing P step) (EndsWith new.written step × HasSeen new new.written) (new.written ≡ old.written)

-- how many changes these steps are
abbrev pub changes_in : Plan → List Step → ℕ
changes_in P steps = sum_by (changes_of P) steps

-- these steps are counted, and no other
pub record CountsOnly (P : Plan) (taken : List Step) (t : Tally) : Type 0 where
  pub steps : t.steps ≡ length taken
  pub changes : t.changes ≡ changes_in P taken

-- these steps more
pub record CountsAll (P : Plan) (old : Tally) (taken : List Step) (new : Tally) : Type 0 where
  pub steps : new.steps ≡ old.steps + length taken
  pub changes : new.changes ≡ old.changes + changes_in P taken

-- what is counted once the steps are taken that are left is as much as it was
pub record CountsOn (P : Plan) (old : Tally) (before : List Step) (new : Tally) (left : List Step) : Type 0 where
  pub steps : new.steps + length left ≡ old.steps + length before
  pub changes : new.changes + changes_in P left ≡ old.changes + changes_in P before
