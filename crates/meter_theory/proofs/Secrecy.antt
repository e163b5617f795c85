-- An admitted plan keeps secrecy over lists that are alike, be they of one length or different by quiet steps.
use Rattle.std.proofs.Common.{◌≡◌, ◌⊎◌, ℕ, Bool, true, false, cond, List, [], ◌∷◌, refl, sym, ap₂, subst, ◌∙◌, inl, inr}
use Rattle.std.proofs.lemmas.Bool.{cond-false}
use Rattle.meter_theory.specs.Lists.{IsIn}
use Rattle.cosem_data.specs.declared.cell.CellRef.{CellRef}
use Rattle.meter_theory.specs.State.{State}
use Rattle.meter_theory.specs.States.{IsState}
use Rattle.meter_theory.specs.Plan.{Plan, cells, held}
use Rattle.meter_theory.specs.Rights.{may_get}
use Rattle.meter_theory.specs.Steps.{Step, client_of, next}
use Rattle.meter_theory.specs.Replies.{is_step_of_client, reply_to, replies, replies_of}
use Rattle.meter_theory.specs.Edges.{Agree, IsClosed}
use Rattle.meter_theory.specs.Labels.{Labels, Labelling, labelling_of, may_learn, Admits}
use Rattle.meter_theory.specs.Sound.{IsSound}
use Rattle.meter_theory.specs.Safety.{HasCells, DifferHidden, IsQuiet, AreAlike, both_end, heads_alike, quiet_first, quiet_second, AlikeByPlace, Secrecy}
use Rattle.meter_theory.proofs.State.{value_missing, is_touched}
use Rattle.meter_theory.proofs.Agreement.{next-keys}
use Rattle.meter_theory.proofs.StepsAgree.{StepLaws}
use Rattle.meter_theory.proofs.KeepSteps.{step-keeps}
use Rattle.meter_theory.proofs.Theorem.{reply-same, are_hidden, learnable_closed, reads_learnable, learn_more, look_there, hidden_there}

-- the replies of two runs go on alike where a step of one is left out
skip_first : (P : Plan) (c : ℕ) (step : Step) (l : List Step) (s : State) → is_step_of_client c (client_of step) ≡ false → replies_of c (step ∷ l) (replies P s (step ∷ l)) ≡ replies_of c l (replies P (next P s step) l)
skip_first P c step l s h = cond-false (is_step_of_client c (client_of step)) (reply_to P s step ∷ replies_of c l (replies P (next P s step) l)) (replies_of c l (replies P (next P s step) l)) h

-- Runs over states of a set that each step keeps
module _ (P : Plan) (States : State → Type 0) (have_cells : (s : State) → States s → HasCells P s) (stays : (s : State) (step : Step) → States s → States (next P s step)) where
  quiet_agrees : (Q : Labelling) (c : ℕ) (step : Step) → IsQuiet States P Q c step → (s : State) → States s → Agree (may_learn Q c) (next P s step) s
  quiet_agrees Q c step quiet s in_set x h =
      let is = have_cells s in_set in
      elim (is_touched (held P) x) [
        | inl i ↦ quiet.changes_nothing s in_set x i h
        | inr none ↦
            value_missing (next P s step) x (λ i. none (subst (λ ks. IsIn ks x) (next-keys P s step ∙ is) i))
            ∙ sym (value_missing s x (λ i. none (subst (λ ks. IsIn ks x) is i)))
      ]

  alike-replies : StepLaws P → (Q : Labelling) (c : ℕ) → IsClosed P (may_learn Q c) →
      ((x : CellRef) → IsIn (cells P) x → may_get P c x ≡ true → may_learn Q c x ≡ true) →
      (l l' : List Step) (s t : State) → States s → States t → Agree (may_learn Q c) s t → AreAlike States P Q c l l' → replies_of c l (replies P s l) ≡ replies_of c l' (replies P t l')
  alike-replies steps Q c closed reads l l' s t is it agree both_end = refl
  alike-replies steps Q c closed reads l l' s t is it agree (heads_alike step step' {l = m} {l' = m'} (inl same) a) =
      subst (λ z. replies_of c (step ∷ m) (replies P s (step ∷ m)) ≡ replies_of c (z ∷ m') (replies P t (z ∷ m'))) same
      (equal_heads (is_step_of_client c (client_of step)) refl
      (alike-replies steps Q c closed reads m m' (next P s step) (next P t step) (stays s step is) (stays t step it)
      (steps.agrees (may_learn Q c) closed step s t (have_cells s is ∙ sym (have_cells t it)) agree) a))
    where
      equal_heads : (b : Bool) → is_step_of_client c (client_of step) ≡ b →
          replies_of c m (replies P (next P s step) m) ≡ replies_of c m' (replies P (next P t step) m') →
          cond b (reply_to P s step ∷ replies_of c m (replies P (next P s step) m)) (replies_of c m (replies P (next P s step) m))
          ≡ cond b (reply_to P t step ∷ replies_of c m' (replies P (next P t step) m')) (replies_of c m' (replies P (next P t step) m'))
      equal_heads true p rest = ap₂ (λ r rs. r ∷ rs) (reply-same P (may_learn Q c) c reads s t agree step p) rest
      equal_heads false p rest = rest
  alike-replies steps Q c closed reads l l' s t is it agree (heads_alike step step' {l = m} {l' = m'} (inr d) a) =
      let h = are_hidden P Q c closed step step' d in
      skip_first P c step m s h.other
      ∙ (alike-replies steps Q c closed reads m m' (next P s step) (next P t step') (stays s step is) (stays t step' it)
      (λ x i. steps.quiet (may_learn Q c) step s (h.quiet s) x i ∙ (agree x i ∙ sym (steps.quiet (may_learn Q c) step' t (h.quiet' t) x i))) a
      ∙ sym (skip_first P c step' m' t h.other'))
  alike-replies steps Q c closed reads l l' s t is it agree (quiet_first step {l = m} {l' = m'} q a) =
      skip_first P c step m s q.other
      ∙ alike-replies steps Q c closed reads m l' (next P s step) t (stays s step is) it (λ x i. quiet_agrees Q c step q s is x i ∙ agree x i) a
  alike-replies steps Q c closed reads l l' s t is it agree (quiet_second step {l = m} {l' = m'} q a) =
      alike-replies steps Q c closed reads l m' s (next P t step) is (stays t step it) (λ x i. agree x i ∙ sym (quiet_agrees Q c step q t it x i)) a
      ∙ sym (skip_first P c step m' t q.other)

any_values : (P : Plan) (s : State) → HasCells P s → HasCells P s
any_values P s is = is

keep_cells : (P : Plan) (s : State) (step : Step) → HasCells P s → HasCells P (next P s step)
keep_cells P s step is = next-keys P s step ∙ is

module _ (P : Plan) (policy : Labelling) (labels : Labels) (sound : IsSound P) (a : Admits P policy labels) where
  pub secrecy-labels : StepLaws P → Secrecy P (labelling_of labels)
  secrecy-labels steps = record {
    same_replies = λ c s s' l l' is is' look alike.
        alike-replies P (HasCells P) (any_values P) (keep_cells P) steps (labelling_of labels) c (learnable_closed P policy labels sound a c) (reads_learnable P policy labels sound a c) l l' s s' is is' look alike;
    same_replies_of_kinds = λ c s s' l l' is is' look alike.
        alike-replies P (IsState P) (λ t it. it.cells) (λ t step it. step-keeps P sound t step it) steps (labelling_of labels) c (learnable_closed P policy labels sound a c) (reads_learnable P policy labels sound a c) l l' s s' is is' look alike;
  }

  module _ (States : State → Type 0) where
    quiet_there : (c : ℕ) (step : Step) → IsQuiet States P policy c step → IsQuiet States P (labelling_of labels) c step
    quiet_there c step q = record {
      other = q.other;
      changes_nothing = λ s is x i h. q.changes_nothing s is x i (learn_more P policy labels sound a c x i h);
    }

    heads_there : (c : ℕ) (step step' : Step) → (step ≡ step') ⊎ DifferHidden P policy c step step' → (step ≡ step') ⊎ DifferHidden P (labelling_of labels) c step step'
    heads_there c step step' (inl same) = inl same
    heads_there c step step' (inr d) = inr (hidden_there P policy labels sound a c step step' d)

    there : (c : ℕ) (l l' : List Step) → AreAlike States P policy c l l' → AreAlike States P (labelling_of labels) c l l'
    there c l l' both_end = both_end
    there c l l' (heads_alike step step' {l = m} {l' = m'} h r) = heads_alike step step' (heads_there c step step' h) (there c m m' r)
    there c l l' (quiet_first step {l = m} q r) = quiet_first step (quiet_there c step q) (there c m l' r)
    there c l l' (quiet_second step {l' = m'} q r) = quiet_second step (quiet_there c step q) (there c l m' r)

  pub secrecy-policy : StepLaws P → Secrecy P policy
  secrecy-policy steps = record {
    same_replies = λ c s s' l l' is is' look alike.
        (secrecy-labels steps).same_replies c s s' l l' is is' (look_there P policy labels sound a c s s' is is' look) (there (HasCells P) c l l' alike);
    same_replies_of_kinds = λ c s s' l l' is is' look alike.
        (secrecy-labels steps).same_replies_of_kinds c s s' l l' is is' (look_there P policy labels sound a c s s' is.cells is'.cells look) (there (IsState P) c l l' alike);
  }

-- lists of one length that are alike place by place
pub from_places : (States : State → Type 0) (P : Plan) (Q : Labelling) (c : ℕ) (l l' : List Step) → AlikeByPlace P Q c l l' → AreAlike States P Q c l l'
from_places States P Q c [] [] h = both_end
from_places States P Q c [] (step' ∷ l') h = absurd h
from_places States P Q c (step ∷ l) [] h = absurd h
from_places States P Q c (step ∷ l) (step' ∷ l') h = heads_alike step step' h.0 (from_places States P Q c l l' h.1)
