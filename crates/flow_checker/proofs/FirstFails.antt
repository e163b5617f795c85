-- The first of all failures is what labels are refused for, and nothing fails exactly where all clauses pass.
use Rattle.std.specs.Prelude.{◌≡◌, ◌↔◌, Bool, true, false, ◌&&◌, List, [], ◌∷◌, ◌++◌, flat_map, slice_get, Option, Some, option_map, Result, Ok, Err, IfOk}
use Rattle.std.proofs.Common.{Vec, Global, refl, sym, ap, subst, ◌∙◌, inl, inr, append-nil, append_assoc}
use Rattle.cosem_data.specs.declared.cell.CellRef.{CellRef}
use Rattle.cosem_data.specs.declared.memory.Memory.{Memory}
use Rattle.meter_theory.specs.Check.{AllPass, FirstFailure, Pass, admits_changer, admits_reader, clients_with_cells, influence_flows, is_labelled, keeps_policy, learn_flows}
use Rattle.meter_theory.specs.Edges.{edges}
use Rattle.meter_theory.specs.Labels.{Admits, Labels, Labelling, labelling_of, within}
use Rattle.meter_theory.specs.Plan.{Plan, cells}
use Rattle.meter_theory.specs.declared.flow.Label.{Label}
use Rattle.meter_theory.specs.declared.flow.Reach.TheVariants.{Learn}
use Rattle.meter_theory.specs.declared.flow.Refusal.{Refusal}
use Rattle.meter_theory.specs.declared.flow.Refusal.TheVariants as refusals
use Rattle.meter_theory.proofs.Admission.{refusal-right}
use Rattle.flow_checker.specs.Answer.{IsAnswer, refusal_of}
use Rattle.flow_checker.specs.Failures.{beyond, failures, lost, past_policy, unless}
use Rattle.flow_checker.specs.declared.failure.Failure.{Failure}
use Rattle.flow_checker.specs.declared.failure.Failure.TheVariants.{NotLabelled, InfluencePastPolicy, LearnPastPolicy, Changer, Reader, InfluenceEscapes, LearnEscapes}

-- the refusal of the first of failures
abbrev pub first_of : List Failure → Option Refusal
first_of fs = option_map refusal_of (slice_get fs 0)

-- One clause

-- one more passes
one-more : {A : Type 0} (test : A → Bool) (x : A) (xs : List A) → test x ≡ true → Pass test xs → Pass test (x ∷ xs)
one-more test x xs passes pass y (inl e) = subst (λ z. test z ≡ true) (sym e) passes
one-more test x xs passes pass y (inr i) = pass y i

-- the first failure is the first after one more that passes
later : {A : Type 0} (test : A → Bool) (x : A) (xs : List A) (y : A) → test x ≡ true → FirstFailure test xs y → FirstFailure test (x ∷ xs) y
later test x xs y passes first = record {
  before = x ∷ first.before;
  after = first.after;
  whole = ap (λ zs. x ∷ zs) first.whole;
  earlier = one-more test x first.before passes first.earlier;
  fails = first.fails;
}

-- Where what passes gives no failures, and what fails gives its refusal first, a list gives first the refusal of its first failure, and
-- where all pass what comes after it.
step : {A : Type 0} (test : A → Bool) (refusal : A → Refusal) (told : A → List Failure) → ((x : A) → test x ≡ true → told x ≡ []) →
    ((x : A) → test x ≡ false → (rest : List Failure) → first_of (told x ++ rest) ≡ Some (refusal x)) →
    (Goal : Option Refusal → Type 0) (rest : List Failure) (xs : List A) → ((x : A) → FirstFailure test xs x → Goal (Some (refusal x))) → (Pass test xs → Goal (first_of rest)) →
    Goal (first_of (flat_map told xs ++ rest))
step test refusal told quiet loud Goal rest [] fails passes = passes (λ y i. absurd i)
step {A} test refusal told quiet loud Goal rest (x ∷ xs) fails passes = at (test x) refl (step test refusal told quiet loud Goal rest xs)
  where
    at : (b : Bool) → test x ≡ b → (((y : A) → FirstFailure test xs y → Goal (Some (refusal y))) → (Pass test xs → Goal (first_of rest)) → Goal (first_of (flat_map told xs ++ rest))) →
        Goal (first_of ((told x ++ flat_map told xs) ++ rest))
    at true e more =
        subst (λ fs. Goal (first_of ((fs ++ flat_map told xs) ++ rest))) (sym (quiet x e))
        (more (λ y first. fails y (later test x xs y e first)) (λ pass. passes (one-more test x xs e pass)))
    at false e more =
        subst Goal (sym (ap first_of (append_assoc (told x) (flat_map told xs) rest) ∙ loud x e (flat_map told xs ++ rest)))
        (fails x (record { before = []; after = xs; whole = refl; earlier = λ y i. absurd i; fails = e }))

-- a test gives a failure where it fails
quiet : (b : Bool) (f : Failure) → b ≡ true → unless b f ≡ []
quiet b f e = ap (λ v. unless v f) e

loud : (b : Bool) (f : Failure) → b ≡ false → (rest : List Failure) → first_of (unless b f ++ rest) ≡ Some (refusal_of f)
loud b f e rest = ap (λ v. first_of (unless v f ++ rest)) e

-- and two tests give one each
quiet-both : (a b : Bool) (f g : Failure) → (a && b) ≡ true → unless a f ++ unless b g ≡ []
quiet-both true b f g e = ap (λ v. unless v g) e
quiet-both false b f g e = cc

loud-both : (a b : Bool) (f g : Failure) → refusal_of g ≡ refusal_of f → (a && b) ≡ false → (rest : List Failure) → first_of ((unless a f ++ unless b g) ++ rest) ≡ Some (refusal_of f)
loud-both true b f g same e rest = ap (λ v. first_of (unless v g ++ rest)) e ∙ ap Some same
loud-both false b f g same e rest = refl

-- the same of a clause with one failure at most for each element
once : {A : Type 0} (test : A → Bool) (failure : A → Failure) (Goal : Option Refusal → Type 0) (rest : List Failure) (xs : List A) →
    ((x : A) → FirstFailure test xs x → Goal (Some (refusal_of (failure x)))) → (Pass test xs → Goal (first_of rest)) → Goal (first_of (flat_map (λ x. unless (test x) (failure x)) xs ++ rest))
once test failure = step test (λ x. refusal_of (failure x)) (λ x. unless (test x) (failure x)) (λ x e. quiet (test x) (failure x) e) (λ x e. loud (test x) (failure x) e)

-- Plans

module _ (P : Plan) (policy : Labelling) (labels : Labels) where
  abbrev given : CellRef → Label
  given = labelling_of labels

  -- what is first of all failures is what the labels are refused for
  pub answer : IsAnswer P policy labels (first_of (failures P policy labels))
  answer =
      let Goal = IsAnswer P policy labels in
      once (is_labelled labels) NotLabelled Goal _ (cells P) (λ x first. first) (λ labelled.
      step (keeps_policy policy labels) refusals.PastPolicy (past_policy policy labels)
      (λ x e. quiet-both (within (given x).influence (policy x).influence) (within (given x).learn (policy x).learn) (past-influence x) (past-learn x) e)
      (λ x e. loud-both (within (given x).influence (policy x).influence) (within (given x).learn (policy x).learn) (past-influence x) (past-learn x) refl e)
      Goal _ (cells P) (λ x first. (labelled, first)) (λ kept.
      once (admits_changer P labels) (λ cx. Changer cx.0 cx.1) Goal _ (clients_with_cells P) (λ cx first. (labelled, kept, first)) (λ changers.
      once (admits_reader P labels) (λ cx. Reader cx.0 cx.1) Goal _ (clients_with_cells P) (λ cx first. (labelled, kept, changers, first)) (λ readers.
      once (influence_flows labels) (λ e. InfluenceEscapes e (beyond (given e.source).influence (given e.target).influence)) Goal _ (edges P) (λ e first. (labelled, kept, changers, readers, first)) (λ influence.
      subst (λ fs. Goal (first_of fs)) (append-nil (flat_map (lost labels Learn) (edges P)))
      (once (learn_flows labels) (λ e. LearnEscapes e (beyond (given e.target).learn (given e.source).learn)) Goal [] (edges P) (λ e first. (labelled, kept, changers, readers, influence, first)) (λ learn.
      record { labelled = labelled; policy_kept = kept; changers = changers; readers = readers; influence = influence; learn = learn })))))))
    where
      past-influence : CellRef → Failure
      past-influence x = InfluencePastPolicy x (beyond (given x).influence (policy x).influence)

      past-learn : CellRef → Failure
      past-learn x = LearnPastPolicy x (beyond (given x).learn (policy x).learn)

  -- nothing fails exactly where all pass
  pub nothing-fails : (failures P policy labels ≡ []) ↔ AllPass P policy labels
  nothing-fails = ((λ none. subst (λ fs. IsAnswer P policy labels (first_of fs)) none answer), (λ pass. at pass (failures P policy labels) answer))
    where
      at : AllPass P policy labels → (fs : List Failure) → IsAnswer P policy labels (first_of fs) → fs ≡ []
      at pass [] a = refl
      at pass (f ∷ fs) a = absurd (refusal-right P policy labels (refusal_of f) a pass)

-- what was found is nothing exactly where labels are admitted
pub nothing-told : (P : Plan) (policy : Labelling) (labels : Labels) (r : Result (Vec Failure Global) Memory) → (AllPass P policy labels ↔ Admits P policy labels) →
    IfOk r (λ found. found.items ≡ failures P policy labels) → IfOk r (λ found. (found.items ≡ []) ↔ Admits P policy labels)
nothing-told P policy labels (Ok found) decided are = (
  (λ none. decided.0 ((nothing-fails P policy labels).0 (sym are ∙ none))),
  (λ admits. are ∙ (nothing-fails P policy labels).1 (decided.1 admits)),
)
nothing-told P policy labels (Err e) decided are = tt
