-- Effects, one after another, by the laws of one.
use Rattle.cosem_data.proofs.Same.{same_name-true}
use Rattle.std.proofs.Common.{◌≡◌, ◌⊎◌, Bool, true, false, cond, List, [], ◌∷◌, ◌++◌, refl, sym, subst, ◌∙◌, inl, inr, Option, Some, None}
use Rattle.std.specs.List.{list_any}
use Rattle.meter_theory.specs.Lists.{IsIn}
use Rattle.cosem_data.specs.Tree.{array, no_trees}
use Rattle.meter_theory.specs.Value.{counter}
use Rattle.cosem_data.specs.declared.name.LogicalName.{LogicalName}
use Rattle.cosem_data.specs.declared.cell.CellRef.{CellRef}
use Rattle.cosem_data.specs.Cells.{same_name}
use Rattle.meter_theory.specs.State.{State, keys, value, put}
use Rattle.meter_theory.specs.Plan.{Plan, Object, buffer, entries_in_use, object_at}
use Rattle.meter_theory.specs.Steps.{Effect, Put, Capture, Clear, Captures, captures_of, captured_in, row_of, buffer_after, in_use_after, capture, clear, empties, kept, effect, effects, changed_by, changed, Step, effects_of, next}
use Rattle.meter_theory.specs.Sound.{IsSound}
use Rattle.meter_theory.specs.Edges.{Agree, IsClosed}
use Rattle.meter_theory.specs.EffectLaws.{KeepsAgreementOn, EffectLaws}
use Rattle.meter_theory.proofs.Lists.{any_in, none_in, found, one_of_key, in_append_left, in_append_right}
use Rattle.meter_theory.proofs.State.{keys-put}

-- the object of a name is of the plan, and has the name
pub object-found : (P : Plan) (n : LogicalName) (o : Object) → object_at P n ≡ Some o → IsIn P.objects o × (o.name ≡ n)
object-found P n o h =
    let r = found (λ z. same_name z.name n) P.objects o h in
    (r.0, same_name-true o.name n r.1)

-- a sound plan's objects of one name are one
pub one_named : (P : Plan) → IsSound P → (o p : Object) → IsIn P.objects o → IsIn P.objects p → o.name ≡ p.name → o ≡ p
one_named P sound = one_of_key (λ o. o.name) P.objects sound.names

pub keys-clear : (s : State) (n : LogicalName) → keys (clear s n) ≡ keys s
keys-clear s n = keys-put (put s (buffer n) (array no_trees)) (entries_in_use n) (counter 0) ∙ keys-put s (buffer n) (array no_trees)

pub keys-emptied : (s : State) (n : LogicalName) (b : Bool) → keys (cond b (clear s n) s) ≡ keys s
keys-emptied s n true = keys-clear s n
keys-emptied s n false = refl

-- An effect leaves the cells of a state.
pub effect-keys : (P : Plan) (s : State) (e : Effect) → keys (effect P s e) ≡ keys s
effect-keys P s (Put x v) = keys-put (cond (empties x) (clear s x.name) s) x (kept x v) ∙ keys-emptied s x.name (empties x)
effect-keys P s (Clear n) = keys-clear s n
effect-keys P s (Capture n) = at (captures_of (object_at P n))
  where
    at : (c : Option Captures) → keys (capture s n c) ≡ keys s
    at None = refl
    at (Some c) =
        let after = buffer_after c.entries (value s (buffer n)) (row_of s (captured_in s n c.captured)) in
        keys-put (put s (buffer n) after) (entries_in_use n) (in_use_after c.entries (value s (entries_in_use n))) ∙ keys-put s (buffer n) after

pub effects-keys : (P : Plan) (s : State) (es : List Effect) → keys (effects P s es) ≡ keys s
effects-keys P s [] = refl
effects-keys P s (e ∷ es) = effects-keys P (effect P s e) es ∙ effect-keys P s e

pub effects-append : (P : Plan) (s : State) (es fs : List Effect) → effects P s (es ++ fs) ≡ effects P (effects P s es) fs
effects-append P s [] fs = refl
effects-append P s (e ∷ es) fs = effects-append P (effect P s e) es fs

-- the effects change no cell of S
abbrev pub AreQuiet : (CellRef → Bool) → List Effect → Type 0
AreQuiet S es = (x : CellRef) → IsIn (changed es) x → S x ≡ false

pub not_both : {A : Type 0} (b : Bool) → b ≡ true → b ≡ false → A
not_both b p q = cc

pub quiet_branch : (S : CellRef → Bool) (b : Bool) (es : List Effect) → AreQuiet S es → AreQuiet S (cond b es [])
quiet_branch S true es quiet = quiet
quiet_branch S false es quiet = λ x i. absurd i

-- S meets the cells, or none of them is in S
pub meets_or_not : (S : CellRef → Bool) (xs : List CellRef) → ((x : CellRef) × IsIn xs x × (S x ≡ true)) ⊎ ((x : CellRef) → IsIn xs x → S x ≡ false)
meets_or_not S xs =
    elim (list_any S xs) as (λ b. list_any S xs ≡ b → ((x : CellRef) × IsIn xs x × (S x ≡ true)) ⊎ ((x : CellRef) → IsIn xs x → S x ≡ false)) [
      | true ↦ λ p. inl (any_in S xs p)
      | false ↦ λ p. inr (λ x i. none_in S xs x p i)
    ] refl

-- Effects, by their laws

module _ (P : Plan) (laws : EffectLaws P) (S : CellRef → Bool) where
  pub effects-agree : IsClosed P S → (es : List Effect) → KeepsAgreementOn S (λ s. effects P s es)
  effects-agree closed [] s t k agree = agree
  effects-agree closed (e ∷ es) s t k agree =
      effects-agree closed es (effect P s e) (effect P t e)
      (effect-keys P s e ∙ (k ∙ sym (effect-keys P t e))) (laws.agrees e S closed s t k agree)

  pub effects-quiet : (es : List Effect) → (s : State) → AreQuiet S es → Agree S (effects P s es) s
  effects-quiet [] s quiet x h = refl
  effects-quiet (e ∷ es) s quiet x h =
      effects-quiet es (effect P s e) (λ y i. quiet y (in_append_right (changed_by e) (changed es) y i)) x h
      ∙ laws.kept e s x (λ i. not_both (S x) h (quiet x (in_append_left (changed_by e) (changed es) x i)))

  -- Two lists of effects that are one list, or both leave S alone.
  pub agree_or_quiet : IsClosed P S → (es fs : List Effect) → (s t : State) → keys s ≡ keys t → Agree S s t →
      (es ≡ fs) ⊎ (AreQuiet S es × AreQuiet S fs) → Agree S (effects P s es) (effects P t fs)
  agree_or_quiet closed es fs s t k agree h =
      elim h [
        | inl e ↦ subst (λ gs. Agree S (effects P s es) (effects P t gs)) e (effects-agree closed es s t k agree)
        | inr q ↦ λ x i. effects-quiet es s q.0 x i ∙ (agree x i ∙ sym (effects-quiet fs t q.1 x i))
      ]

pub next-keys : (P : Plan) (s : State) (step : Step) → keys (next P s step) ≡ keys s
next-keys P s step = effects-keys P s (effects_of P s step)
