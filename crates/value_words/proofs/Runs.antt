-- The bytes in front of a text that pass a test.
use Rattle.std.proofs.Common.{◌≡◌, ℕ, suc, ◌+◌, Bool, true, false, not, ◌&&◌, cond, ltb, List, [], ◌∷◌, ◌++◌, length, take, Some, None, refl, sym, ap, ◌∙◌, arith}
use Rattle.std.specs.Prelude.{position}
use Rattle.std.specs.List.{prefix_len, position_or_len, list_all}
use Rattle.std.proofs.lemmas.Bool.{ltb-false}
use Rattle.std.proofs.lemmas.List.{take-append-drop, take_at, drop_at}
use Rattle.std.proofs.lemmas.List.Sums.{prefix_len-le-length}
use Rattle.std.proofs.lemmas.Option.{cond_some}
use Rattle.value_words.specs.Stopping.{front, past}

double : (b : Bool) → not (not b) ≡ b
double true = refl
double false = refl

run-len : (p : ℕ → Bool) (xs : List ℕ) → position_or_len (λ b. not (p b)) xs ≡ prefix_len p xs
run-len p [] = refl
run-len p (x ∷ xs) =
    ap (λ (n : ℕ). cond (not (not (p x))) (1 + n) 0) (run-len p xs)
    ∙ ap (λ (b : Bool). cond b (1 + prefix_len p xs) 0) (double (p x))

-- the first byte that fails ends the run
pub run-some : (p : ℕ → Bool) (text : List ℕ) (k : ℕ) → position (λ b. not (p b)) text ≡ Some k → k ≡ prefix_len p text
run-some p text k e =
    let q = λ (b : ℕ). not (p b) in
    let at : (ltb (position_or_len q text) (length text) ≡ true) × (position_or_len q text ≡ k) = cond_some (ltb (position_or_len q text) (length text)) (position_or_len q text) k e in
    sym at.1 ∙ run-len p text

-- where none fails, it is the whole text
pub run-none : (p : ℕ → Bool) (text : List ℕ) → position (λ b. not (p b)) text ≡ None → length text ≡ prefix_len p text
run-none p text e = at (ltb (position_or_len q text) (length text)) refl e
  where
    q : ℕ → Bool
    q b = not (p b)

    at : (b : Bool) → ltb (position_or_len q text) (length text) ≡ b → cond b (Some (position_or_len q text)) None ≡ None → length text ≡ prefix_len p text
    at true less h = cc
    at false more h = let most = prefix_len-le-length p text in let same = run-len p text in omega (arith, ltb-false (position_or_len q text) (length text) more, same, most)

pub front-past : (p : ℕ → Bool) (text : List ℕ) → front p text ++ past p text ≡ text
front-past p text = take-append-drop (prefix_len p text) text

-- each of the bytes in front passes
pub front-passes : (p : ℕ → Bool) (text : List ℕ) → list_all p (front p text) ≡ true
front-passes p [] = refl
front-passes p (c ∷ text) = at (p c) refl (front-passes p text)
  where
    at : (b : Bool) → p c ≡ b → list_all p (take (prefix_len p text) text) ≡ true → list_all p (take (cond b (1 + prefix_len p text) 0) (c ∷ text)) ≡ true
    at false is rest = refl
    at true is rest = let more : 1 + prefix_len p text ≡ suc (prefix_len p text) = omega arith in rw (more, is) rest

-- nothing that passes stands in front
abbrev pub NoneInFront : (ℕ → Bool) → List ℕ → Type 0
NoneInFront p [] = Unit {0}
NoneInFront p (c ∷ rest) = p c ≡ false

stops-there : (p : ℕ → Bool) (rest : List ℕ) → NoneInFront p rest → prefix_len p rest ≡ 0
stops-there p [] h = refl
stops-there p (c ∷ rest) h = ap (λ (b : Bool). cond b (1 + prefix_len p rest) 0) h

run-again : (p : ℕ → Bool) (s rest : List ℕ) → list_all p s ≡ true → NoneInFront p rest → length s ≡ prefix_len p (s ++ rest)
run-again p [] rest all h = sym (stops-there p rest h)
run-again p (c ∷ s) rest all h = at (p c) all (λ e. run-again p s rest e h)
  where
    at : (b : Bool) → (b && list_all p s) ≡ true → (list_all p s ≡ true → length s ≡ prefix_len p (s ++ rest)) → suc (length s) ≡ cond b (1 + prefix_len p (s ++ rest)) 0
    at false e again = absurd cc
    at true e again = let more = again e in omega arith

-- bytes that pass are the run in front of what does not
pub front-again : (p : ℕ → Bool) (s rest : List ℕ) → list_all p s ≡ true → NoneInFront p rest → front p (s ++ rest) ≡ s
front-again p s rest all h = take_at s rest (prefix_len p (s ++ rest)) (run-again p s rest all h)

pub past-again : (p : ℕ → Bool) (s rest : List ℕ) → list_all p s ≡ true → NoneInFront p rest → past p (s ++ rest) ≡ rest
past-again p s rest all h = drop_at s rest (prefix_len p (s ++ rest)) (run-again p s rest all h)
