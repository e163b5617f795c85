-- The live meter after a step.
use Rattle.std.proofs.Common.{◌≡◌, ℕ, ◌+◌, List, [], ◌∷◌, ◌++◌, length, Bool, true, false, refl, sym, ap, ◌∙◌, subst, arith, append_assoc, length-append}
use Rattle.std.specs.List.{list_all}
use Rattle.std.specs.Prelude.{cond, ◌&&◌}
use Rattle.logbook.specs.Pages.{Book}
use Rattle.meter_theory.specs.Plan.{Plan, start}
use Rattle.meter_theory.specs.Replies.{run}
use Rattle.meter_theory.specs.Steps.{Step, next}
use Rattle.meter_live.proofs.Changing.{unchanged}
use Rattle.meter_live.proofs.Trails.{run-push}
use Rattle.meter_core.specs.Changing.{is_changing}
use Rattle.meter_live.specs.Changes.{changes_of}
use Rattle.meter_live.specs.Marks.{Mark, longer}
use Rattle.meter_live.specs.Told.{Told, IsPublished, IsTold, acted, written_of}
use Rattle.meter_live.specs.Trail.{Traced, after}

both_pass : (b c d : Bool) → (b && c) ≡ true → (c ≡ true → d ≡ true) → (b && d) ≡ true
both_pass true c d all on = on all
both_pass false c d all on = all

-- one more that passes
all-push : (p : Step → Bool) (xs : List Step) (x : Step) → list_all p xs ≡ true → p x ≡ true → list_all p (xs ++ x ∷ []) ≡ true
all-push p [] x all is = ap (λ b. b && true) is
all-push p (y ∷ xs) x all is = both_pass (p y) (list_all p xs) (list_all p (xs ++ x ∷ [])) all (λ rest. all-push p xs x rest is)

published_after : (t : Told) (port : ℕ) (step : Step) (b : Bool) → is_changing t.meter.accepted.plan step ≡ b → IsPublished t
    → IsPublished (record { meter = after t.meter port step; book = t.book; published = t.published; pending = cond b (t.pending ++ step ∷ []) t.pending })
published_after t port step true is kept =
    let P = t.meter.accepted.plan in
    let one : changes_of P step ≡ 1 = ap (λ b. cond b 1 0) is in
    let all : t.published ++ (t.pending ++ step ∷ []) ≡ (t.published ++ t.pending) ++ step ∷ [] = sym (append_assoc t.published t.pending (step ∷ [])) in record {
      changing = ap (list_all (is_changing P)) all ∙ all-push (is_changing P) (t.published ++ t.pending) step kept.changing is;
      long = ap length all ∙ length-append (t.published ++ t.pending) (step ∷ []) ∙ (let e : length (t.published ++ t.pending) + 1 ≡ t.meter.changes + changes_of P step = omega (arith, kept.long, one) in e);
      state = ap (λ s. next P s step) kept.state ∙ sym (run-push P (start P) (t.published ++ t.pending) step) ∙ ap (run P (start P)) (sym all);
    }
published_after t port step false is kept =
    let P = t.meter.accepted.plan in
    let none : changes_of P step ≡ 0 = ap (λ b. cond b 1 0) is in record {
      changing = kept.changing;
      long = let e : length (t.published ++ t.pending) ≡ t.meter.changes + changes_of P step = omega (arith, kept.long, none) in e;
      state = unchanged P t.meter.state step is ∙ kept.state;
    }

-- a step keeps what a live meter keeps
pub told_after : (P : Plan) (t : Told) (port : ℕ) (step : Step) → IsTold P t → IsTold P (acted t port step)
told_after P t port step told = record {
  plan_is = told.plan_is;
  kept = published_after t port step (is_changing t.meter.accepted.plan step) refl told.kept;
}

-- a step that may not change the meter: nothing is put behind the pending ones
pub quiet_is : (t : Told) (port : ℕ) (step : Step) (meter : Traced) → is_changing t.meter.accepted.plan step ≡ false → meter ≡ after t.meter port step
    → acted t port step ≡ record { meter = meter; book = t.book; published = t.published; pending = t.pending }
quiet_is t port step meter quiet is =
    λ i. record { meter = sym is i; book = t.book; published = t.published; pending = ap (λ b. cond b (t.pending ++ step ∷ []) t.pending) quiet i }

-- one that may: it is put there
pub loud_is : (t : Told) (port : ℕ) (step : Step) (meter : Traced) (book : Book) (published pending : List Step) → is_changing t.meter.accepted.plan step ≡ true
    → meter ≡ after t.meter port step → book ≡ t.book → published ≡ t.published → pending ≡ t.pending ++ step ∷ []
    → acted t port step ≡ record { meter = meter; book = book; published = published; pending = pending }
loud_is t port step meter book published pending loud is book_is published_is pending_is =
    λ i. record { meter = sym is i; book = sym book_is i; published = sym published_is i; pending = (ap (λ b. cond b (t.pending ++ step ∷ []) t.pending) loud ∙ sym pending_is) i }

-- what is equal to it is kept
pub told_made : (P P' : Plan) (t : Told) (port : ℕ) (step : Step) (made : Told) → IsTold P t → P' ≡ P → acted t port step ≡ made → IsTold P' made
told_made P P' t port step made told plan_is is =
    subst (λ (Q : Plan). IsTold Q made) (sym plan_is) (subst (λ (m : Told). IsTold P m) is (told_after P t port step told))

-- the history is longer by a step that is put behind the pending ones
pub written_more : (t : Told) (step : Step) (old new : Mark) (book : Book) (published pending : List Step) → old ≡ written_of t → new ≡ longer old step
    → book ≡ t.book → published ≡ t.published → pending ≡ t.pending ++ step ∷ [] → new ≡ record { book = book; steps = published ++ pending }
written_more t step old new book published pending old_is new_is book_is published_is pending_is =
    let steps : (t.published ++ t.pending) ++ step ∷ [] ≡ published ++ pending
    = append_assoc t.published t.pending (step ∷ []) ∙ (λ i. sym published_is i ++ sym pending_is i) in
    new_is ∙ ap (λ m. longer m step) old_is ∙ (λ i. record { book = sym book_is i; steps = steps i })
