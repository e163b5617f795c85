-- What is kept once a batch was added to a trail's file.
use Rattle.std.proofs.Common.{◌≡◌, ◌≢◌, ◌∙◌, ◌⊎◌, ℕ, zero, suc, ◌+◌, ◌&&◌, Bool, true, false, not, List, [], ◌∷◌, ◌++◌, Some, ap, ap₂, append_assoc, arith, drop, inl, inr, length, refl, subst, sym, take}
use Rattle.std.specs.Prelude.{IsTrue}
use Rattle.std.specs.List.{AllByRecursion}
use Rattle.std.proofs.lemmas.Bool.{ne_eqb}
use Rattle.std.proofs.lemmas.List.{append-nil}
use Rattle.std.proofs.lemmas.List.Elements.{recursion_from_All}
use Rattle.meter_theory.specs.Plan.{Plan}
use Rattle.meter_theory.specs.Steps.{Step, Tick}
use Rattle.line_server.specs.Lines.{IsLine}
use Rattle.step_keeping.specs.Keeping.{IsLeft, kept_behind, ticks}
use Rattle.trail_file.specs.Rest.{EachLeft, IsBeforeOrAfter, IsFront, IsSettled}
use Rattle.trail_file.specs.Text.{Entry, is_one_line, recovered}
use Rattle.trail_lines.specs.Reading.{says}
use Rattle.trail_store.specs.Stored.{IsAtRest, kept_in, steps_in, stored}

-- a line of a trail has no newline
one-line : (text : List ℕ) → AllByRecursion (λ b. b ≢ 10) text → is_one_line text ≡ true
one-line [] h = refl
one-line (b ∷ text) h = ap₂ (λ x y. not x && y) (ne_eqb b 10 h.0) (one-line text h.1)

pub is-one-line : (text : List ℕ) → IsLine text → is_one_line text ≡ true
is-one-line text h = one-line text (recursion_from_All (λ b. b ≢ 10) text h)

pub steps-more : (P : Plan) (es fs : List Entry) → steps_in P (es ++ fs) ≡ steps_in P es ++ steps_in P fs
steps-more P [] fs = refl
steps-more P (e ∷ es) fs = ap (λ ss. says P e.1 ++ ss) (steps-more P es fs) ∙ sym (append_assoc (says P e.1) (steps_in P es) (steps_in P fs))

pub steps-of-one : (P : Plan) (note line : List ℕ) → steps_in P ((note, line) ∷ []) ≡ says P line
steps-of-one P note line = append-nil (says P line)

-- the steps of a file with a batch more
stored-more : (P : Plan) (old new : List ℕ) (batch : List Entry) (waiting : ℕ) (step : Step) → recovered new ≡ recovered old ++ batch → steps_in P batch ≡ ticks waiting ++ step ∷ [] →
    stored P new ≡ (stored P old ++ ticks waiting) ++ step ∷ []
stored-more P old new batch waiting step is steps =
    ap (steps_in P) is ∙ steps-more P (recovered old) batch ∙ ap (λ ss. stored P old ++ ss) steps ∙ sym (append_assoc (stored P old) (ticks waiting) (step ∷ []))

-- Files at rest

front-is : (front rest : List ℕ) → take (length front) (front ++ rest) ≡ front
front-is [] rest = refl
front-is (b ∷ front) rest = ap (λ f. b ∷ f) (front-is front rest)

behind-is : (front tail : List ℕ) → drop (length front + 1) (front ++ 10 ∷ tail) ≡ tail
behind-is front tail = ap (λ n. drop n (front ++ 10 ∷ tail)) one_more ∙ at front
  where
    one_more : length front + 1 ≡ suc (length front)
    one_more = omega arith

    at : (front : List ℕ) → drop (suc (length front)) (front ++ 10 ∷ tail) ≡ tail
    at [] = refl
    at (b ∷ front) = at front

pub at-rest : (seen : List ℕ) (may_leave : List ℕ → Type 0) (end : ℕ) → IsSettled seen may_leave end (recovered seen) → IsAtRest seen may_leave end
at-rest seen may_leave end s =
    let r = s.rests in
    let front : take end seen ≡ r.front = ap₂ take r.ends r.is ∙ front-is r.front (10 ∷ r.tail) in
    let tail : drop (end + 1) seen ≡ r.tail = ap₂ (λ n f. drop (n + 1) f) r.ends r.is ∙ behind-is r.front r.tail in
    (r.is ∙ ap₂ (λ f g. f ++ 10 ∷ g) (sym front) (sym tail), r.ends ∙ ap length (sym front), subst (λ f. IsFront f (recovered seen)) (sym front) r.whole, s.durable)

pub settled : (seen : List ℕ) (may_leave : List ℕ → Type 0) (end : ℕ) → IsAtRest seen may_leave end → IsSettled seen may_leave end (recovered seen)
settled seen may_leave end h = record {
  rests = record { front = take end seen; tail = drop (end + 1) seen; is = h.0; ends = h.1; whole = h.2 };
  durable = h.3;
}

-- Steps that are kept

ticks-behind : (n : ℕ) → Tick ∷ ticks n ≡ ticks n ++ Tick ∷ []
ticks-behind zero = refl
ticks-behind (suc n) = ap (λ ss. Tick ∷ ss) (ticks-behind n)

ticks-more : (n : ℕ) → ticks (n + 1) ≡ ticks n ++ Tick ∷ []
ticks-more n = ap ticks one_more ∙ ticks-behind n
  where
    one_more : n + 1 ≡ suc n
    one_more = omega arith

-- a second waits
pub tick-kept : (P : Plan) (is_open is_clean : Bool) (file : List ℕ) (n : ℕ) (step : Step) → step ≡ Tick → kept_in P is_open is_clean file (n + 1) ≡ kept_behind (kept_in P is_open is_clean file n) step
tick-kept P false is_clean file n step is = refl
tick-kept P true false file n step is = refl
tick-kept P true true file n step is =
    ap Some (ap (λ ss. stored P file ++ ss) (ticks-more n) ∙ sym (append_assoc (stored P file) (ticks n) (Tick ∷ [])) ∙ ap (λ s. (stored P file ++ ticks n) ++ s ∷ []) (sym is))

-- where it is known which steps are kept, they are those of the file and the seconds that wait
kept-is : (P : Plan) (is_open is_clean : Bool) (file : List ℕ) (n : ℕ) (all : List Step) → kept_in P is_open is_clean file n ≡ Some all → (is_clean ≡ true) × (stored P file ++ ticks n ≡ all)
kept-is P false is_clean file n all e = absurd cc
kept-is P true false file n all e = absurd cc
kept-is P true true file n all e = (refl, some (stored P file ++ ticks n) all e)
  where
    some : (a b : List Step) → Some a ≡ Some b → a ≡ b
    some a b e = cc

-- the steps of a file to which nothing was added
left-before : (P : Plan) (old c left : List ℕ) (n : ℕ) (steps all : List Step) → recovered c ≡ recovered old → stored P old ++ ticks n ≡ all → steps ≡ stored P c → IsLeft all steps
left-before P old c left n steps all same is l = (n, sym is ∙ ap (λ ss. ss ++ ticks n) (ap (steps_in P) (sym same) ∙ sym l))

module _ (P : Plan) (batch : List Entry) (n : ℕ) (step : Step) (says_all : steps_in P batch ≡ ticks n ++ step ∷ []) where
  pub added-crash : (was : Bool) (old : List ℕ) (may_leave : List ℕ → Type 0) → (IsTrue was → EachLeft may_leave (IsBeforeOrAfter (recovered old) batch)) →
      (all : List Step) → kept_in P true was old n ≡ Some all → (left : List Step) → (file : List ℕ) × may_leave file × (left ≡ stored P file) → IsLeft all left ⊎ IsLeft (all ++ step ∷ []) left
  added-crash was old may_leave crash all kept left l =
      let k = kept-is P true was old n all kept in
      elim (crash k.0 l.0 l.1) [
        | inl before ↦ inl (left-before P old l.0 [] n left all before k.1 l.2)
        | inr after ↦
            let is : stored P l.0 ≡ all ++ step ∷ [] = stored-more P old l.0 batch n step after says_all ∙ ap (λ ss. ss ++ step ∷ []) k.1 in
            inr (0, sym is ∙ sym l.2 ∙ sym (append-nil left))
      ]
