-- Runs of steps, one after another.
use Rattle.std.specs.Prelude.{◌≡◌, ℕ, ◌+◌, ◌<◌, List, [], ◌∷◌, ◌++◌, map, take, length, get_or}
use Rattle.std.proofs.Common.{refl, sym, subst, ap, ap₂, ◌∙◌}
use Rattle.std.proofs.lemmas.List.{length-map, map_more, map_push, take-map}
use Rattle.meter_theory.specs.State.{State}
use Rattle.meter_theory.specs.Plan.{Plan}
use Rattle.meter_theory.specs.Steps as theory
use Rattle.meter_theory.specs.Steps.{next}
use Rattle.meter_theory.specs.Replies.{reply_to, run, replies}
use Rattle.meter_core.specs.Stops.{IsStopped}
use Rattle.meter_core.specs.StepView.{step_of, reply_of}
use Rattle.meter_core.specs.declared.step.Step.{Step}
use Rattle.meter_core.specs.declared.reply.Reply.{Reply}

run_append : (P : Plan) (s : State) (l m : List theory.Step) → run P s (l ++ m) ≡ run P (run P s l) m
run_append P s [] m = refl
run_append P s (step ∷ l) m = run_append P (next P s step) l m

replies_append : (P : Plan) (s : State) (l m : List theory.Step) → replies P s (l ++ m) ≡ replies P s l ++ replies P (run P s l) m
replies_append P s [] m = refl
replies_append P s (step ∷ l) m = ap (λ rs. reply_to P s step ∷ rs) (replies_append P (next P s step) l m)

-- the state after one step more
pub run_more : (P : Plan) (s now new : State) (steps : List Step) (i : ℕ) (step : Step) → i < length steps → step ≡ get_or steps i step →
    now ≡ run P s (map step_of (take i steps)) → new ≡ next P now (step_of step) → new ≡ run P s (map step_of (take (i + 1) steps))
run_more P s now new steps i step within is before after =
    after ∙ (ap₂ (next P) before (ap step_of is)
    ∙ (sym (run_append P s (map step_of (take i steps)) (step_of (get_or steps i step) ∷ []))
    ∙ ap (run P s) (sym (map_more step_of steps i step within))))

-- the replies after one step more
pub replies_more : (P : Plan) (s now : State) (steps : List Step) (i : ℕ) (step : Step) (rs : List Reply) (r : Reply) → i < length steps → step ≡ get_or steps i step →
    now ≡ run P s (map step_of (take i steps)) → map reply_of rs ≡ replies P s (map step_of (take i steps)) → reply_of r ≡ reply_to P now (step_of step) →
    map reply_of (rs ++ r ∷ []) ≡ replies P s (map step_of (take (i + 1) steps))
replies_more P s now steps i step rs r within is before answered answer =
    map_push reply_of rs r
    ∙ (ap₂ (λ qs q. qs ++ q ∷ []) answered (answer ∙ ap₂ (reply_to P) before (ap step_of is))
    ∙ (sym (replies_append P s (map step_of (take i steps)) (step_of (get_or steps i step) ∷ []))
    ∙ ap (replies P s) (sym (map_more step_of steps i step within))))

-- where a run stops
pub stopped : (P : Plan) (s now new : State) (steps : List Step) (i : ℕ) (rs : List Reply) → i < length steps → length rs ≡ i → now ≡ run P s (map step_of (take i steps)) →
    map reply_of rs ≡ replies P s (map step_of (take i steps)) → new ≡ now → IsStopped P s new (map step_of steps) (map reply_of rs)
stopped P s now new steps i rs within count before answered stays = record {
  left = subst (λ n. n < length (map step_of steps)) (sym told) (subst (λ n. i < n) (sym (length-map steps step_of)) within);
  replies = answered ∙ ap (λ l. replies P s l) front;
  meter = stays ∙ (before ∙ ap (run P s) front);
}
  where
    told : length (map reply_of rs) ≡ i
    told = length-map rs reply_of ∙ count

    front : map step_of (take i steps) ≡ take (length (map reply_of rs)) (map step_of steps)
    front = sym (take-map step_of i steps) ∙ ap (λ n. take n (map step_of steps)) (sym told)
