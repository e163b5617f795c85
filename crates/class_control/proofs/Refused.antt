-- What a write answers where its value was judged.
use Rattle.std.proofs.Common.{◌≡◌, ℕ, Bool, true, false, Some, None, Ok, Err, refl, sym, subst}
use Rattle.std.specs.Prelude.{if◌then◌else◌, Option}
use Rattle.cosem_data.specs.Tree.{Tree}
use Rattle.meter_theory.specs.Value.{Rule, valid_tag, meets}
use Rattle.cosem_class.specs.Objects.{FaultAs}
use Rattle.cosem_class.specs.Judged.{judged, answer_of, write_fault}
use Rattle.cosem_class.specs.declared.class.ClassFault.{ClassFault}
use Rattle.cosem_class.specs.declared.class.ClassFault.TheVariants as faults

-- no fault where the answer is none
pub none_from_ok : (fault : Option ClassFault) (unit : Unit {0}) → Ok unit ≡ answer_of fault → fault ≡ None
none_from_ok None unit e = refl
none_from_ok (Some fault) unit e = cc

-- what is judged without fault is not refused
pub accepted_as_judged : (rule : Rule) (v : Tree) (settable named : Bool) → settable ≡ true → judged rule v ≡ None → write_fault settable named (judged rule v) ≡ None
accepted_as_judged rule v true named is none = none
accepted_as_judged rule v false named is none = cc

-- what is judged is refused for its kind or its rule
pub refused_as_judged : (rule : Rule) (v : Tree) (e : ClassFault) (settable named : Bool) → settable ≡ true → Err e ≡ answer_of (judged rule v) →
    FaultAs e (write_fault settable named (judged rule v))
refused_as_judged rule v e settable named is h = at (valid_tag rule v) (meets rule v) e settable is h
  where
    at : (tag fits : Bool) (e : ClassFault) (settable : Bool) → settable ≡ true → Err e ≡ answer_of (if tag then (if fits then None else Some faults.Rule) else Some faults.Kind) →
        FaultAs e (write_fault settable named (if tag then (if fits then None else Some faults.Rule) else Some faults.Kind))
    at true true e settable is h = cc
    at true false faults.Rule true is h = refl
    at true false faults.Rule false is h = cc
    at true false _ settable is h = cc
    at false fits faults.Kind true is h = refl
    at false fits faults.Kind false is h = cc
    at false fits _ settable is h = cc

-- and never for want of memory
pub judged_without_memory : (rule : Rule) (v : Tree) (e : ClassFault) → Err e ≡ answer_of (judged rule v) → e ≡ faults.Memory → ⊥
judged_without_memory rule v e h = at (valid_tag rule v) (meets rule v) e h
  where
    at : (tag fits : Bool) (e : ClassFault) → Err e ≡ answer_of (if tag then (if fits then None else Some faults.Rule) else Some faults.Kind) → e ≡ faults.Memory → ⊥
    at true true e h m = cc
    at true false e h m = cc
    at false fits e h m = cc

-- The same where the index tells the rule

module _ (settable named : ℕ → Bool) (rule : ℕ → Rule) (v : Tree) (index k : ℕ) (is : index ≡ k) (at_k : settable k ≡ true) where
  pub accepted_at : judged (rule k) v ≡ None → write_fault (settable index) (named index) (judged (rule index) v) ≡ None
  accepted_at none = subst (λ (i : ℕ). write_fault (settable i) (named i) (judged (rule i) v) ≡ None) (sym is) (accepted_as_judged (rule k) v (settable k) (named k) at_k none)

  pub refused_at : (e : ClassFault) → Err e ≡ answer_of (judged (rule k) v) → FaultAs e (write_fault (settable index) (named index) (judged (rule index) v))
  refused_at e h = subst (λ (i : ℕ). FaultAs e (write_fault (settable i) (named i) (judged (rule i) v))) (sym is) (refused_as_judged (rule k) v e (settable k) (named k) at_k h)
