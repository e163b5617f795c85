-- What a share counts of a step.
use Rattle.std.proofs.Common.{◌≡◌, suc, ◌+◌, Bool, true, false, List, [], ◌∷◌, length, ap, arith, ◌∙◌}
use Rattle.std.specs.Prelude.{cond, MatchBool}
use Rattle.std.proofs.lemmas.List.Sums.{sum_by-cons}
use Rattle.meter_core.specs.Changing.{is_changing}
use Rattle.meter_theory.specs.Plan.{Plan}
use Rattle.meter_theory.specs.Steps.{Step}
use Rattle.meter_live.specs.Changes.{changes_of}
use Rattle.meter_live.specs.Tally.{Tally, Counts, CountsAll, CountsOn, CountsOnly, EndsWith, HasSeen, IsUnused, changes_in}

chosen : (A B : Type 0) (b c : Bool) → b ≡ c → MatchBool c A B → MatchBool b A B
chosen A B true true e h = h
chosen A B false false e h = h
chosen A B true false e h = absurd (cc e)
chosen A B false true e h = absurd (cc e)

pub counts_quiet : (P : Plan) (old new : Tally) (step : Step) → is_changing P step ≡ false → new.steps ≡ old.steps + 1 → new.changes ≡ old.changes → new.written ≡ old.written → Counts P old step new
counts_quiet P old new step quiet steps changes written =
    let none : changes_of P step ≡ 0 = ap (λ b. cond b 1 0) quiet in record {
      steps = steps;
      changes = omega (arith, changes, none);
      written = chosen _ _ (is_changing P step) false quiet written;
    }

pub counts_loud : (P : Plan) (old new : Tally) (step : Step) → is_changing P step ≡ true → new.steps ≡ old.steps + 1 → new.changes ≡ old.changes + 1 → EndsWith new.written step
    → HasSeen new new.written → Counts P old step new
counts_loud P old new step loud steps changes ends seen =
    let one : changes_of P step ≡ 1 = ap (λ b. cond b 1 0) loud in record {
      steps = steps;
      changes = omega (arith, changes, one);
      written = chosen _ _ (is_changing P step) true loud (ends, seen);
    }

-- the first of the steps that are left was taken
pub counts_next : (P : Plan) (old new : Tally) (step : Step) (before left : List Step) → before ≡ step ∷ left → Counts P old step new → CountsOn P old before new left
counts_next P old new step before left is counts =
    let long : length before ≡ suc (length left) = ap length is in
    let more : changes_in P before ≡ changes_of P step + changes_in P left = ap (changes_in P) is ∙ sum_by-cons (changes_of P) step left in record {
      steps = omega (arith, counts.steps, long);
      changes = omega (arith, counts.changes, more);
    }

-- and then further ones
pub counts_on : (P : Plan) (first second third : Tally) (all some left : List Step) → CountsOn P first all second some → CountsOn P second some third left → CountsOn P first all third left
counts_on P first second third all some left early late = record {
  steps = late.steps ∙ early.steps;
  changes = late.changes ∙ early.changes;
}

-- none is left
pub counts_all : (P : Plan) (old new : Tally) (steps left : List Step) → left ≡ [] → CountsOn P old steps new left → CountsAll P old steps new
counts_all P old new steps left none counts =
    let long : length left ≡ 0 = ap length none in
    let more : changes_in P left ≡ 0 = ap (changes_in P) none in record {
      steps = omega (arith, counts.steps, long);
      changes = omega (arith, counts.changes, more);
    }

-- where none was counted before
pub counts_only : (P : Plan) (old new : Tally) (steps : List Step) → IsUnused old → CountsAll P old steps new → CountsOnly P steps new
counts_only P old new steps unused counts = record {
  steps = omega (arith, counts.steps, unused.steps);
  changes = omega (arith, counts.changes, unused.changes);
}
