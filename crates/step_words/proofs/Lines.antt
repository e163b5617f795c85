-- What is made of a text line by line, as a loop does.
use Rattle.std.proofs.Common.{◌≡◌, ℕ, suc, ◌+◌, ◌<◌, ◌≤◌, Bool, true, false, not, cond, ltb, eqb, List, [], ◌∷◌, ◌++◌, length, take, drop, Some, None, Result, Ok, Err, refl, sym, ap, ◌∙◌, append_assoc, arith}
use Rattle.std.specs.Prelude.{position}
use Rattle.std.specs.List.{slice_split, onto_first, join_with_byte, position_or_len}
use Rattle.std.proofs.lemmas.Bool.{ltb-true, ltb-false}
use Rattle.std.proofs.lemmas.Option.{cond_some}
use Rattle.value_words.specs.Stopping.{◌>>=◌}
use Rattle.step_words.specs.declared.fault.TextFault.{TextFault}
use Rattle.step_words.specs.declared.fault.TextFault.TheVariants as faults
use Rattle.step_words.specs.declared.texts.Way.{Way}
use Rattle.step_words.specs.Texts.{Fails, placed, line_at, lines_at}

-- the lines that newlines part
abbrev pub lines_of : List ℕ → List (List ℕ)
lines_of text = slice_split (λ b. eqb b 10) text

-- ---- the first line of a text

none_split : (text : List ℕ) → length text ≤ position_or_len (λ b. eqb b 10) text → lines_of text ≡ text ∷ []
none_split [] h = refl
none_split (c ∷ text) h = at (eqb c 10) h (λ k. none_split text k)
  where
    at : (b : Bool) → suc (length text) ≤ cond (not b) (1 + position_or_len (λ x. eqb x 10) text) 0 → (length text ≤ position_or_len (λ x. eqb x 10) text → lines_of text ≡ text ∷ [])
        → cond b ([] ∷ lines_of text) (onto_first c (lines_of text)) ≡ (c ∷ text) ∷ []
    at true k again = absurd (omega arith)
    at false k again = ap (onto_first c) (again (omega arith))

some_split : (text : List ℕ) → position_or_len (λ b. eqb b 10) text < length text
    → lines_of text ≡ take (position_or_len (λ b. eqb b 10) text) text ∷ lines_of (drop (suc (position_or_len (λ b. eqb b 10) text)) text)
some_split [] h = absurd (omega arith)
some_split (c ∷ text) h = at (eqb c 10) h (λ k. some_split text k)
  where
    at : (b : Bool) → cond (not b) (1 + position_or_len (λ x. eqb x 10) text) 0 < suc (length text)
        → (position_or_len (λ x. eqb x 10) text < length text → lines_of text ≡ take (position_or_len (λ x. eqb x 10) text) text ∷ lines_of (drop (suc (position_or_len (λ x. eqb x 10) text)) text))
        → cond b ([] ∷ lines_of text) (onto_first c (lines_of text))
        ≡ take (cond (not b) (1 + position_or_len (λ x. eqb x 10) text) 0) (c ∷ text) ∷ lines_of (drop (suc (cond (not b) (1 + position_or_len (λ x. eqb x 10) text) 0)) (c ∷ text))
    at true k again = refl
    at false k again =
        let more : 1 + position_or_len (λ x. eqb x 10) text ≡ suc (position_or_len (λ x. eqb x 10) text) = omega arith in
        rw more (ap (onto_first c) (again (omega arith)))

pub last_line : (text : List ℕ) → position (λ b. eqb b 10) text ≡ None → lines_of text ≡ text ∷ []
last_line text e = at (ltb (position_or_len (λ b. eqb b 10) text) (length text)) refl e
  where
    at : (b : Bool) → ltb (position_or_len (λ x. eqb x 10) text) (length text) ≡ b → cond b (Some (position_or_len (λ x. eqb x 10) text)) None ≡ None → lines_of text ≡ text ∷ []
    at true less h = absurd cc
    at false more h = none_split text (ltb-false (position_or_len (λ x. eqb x 10) text) (length text) more)

pub first_line : (text : List ℕ) (k : ℕ) → position (λ b. eqb b 10) text ≡ Some k → lines_of text ≡ take k text ∷ lines_of (drop (k + 1) text)
first_line text k e =
    let at : (ltb (position_or_len (λ b. eqb b 10) text) (length text) ≡ true) × (position_or_len (λ b. eqb b 10) text ≡ k) = cond_some (ltb (position_or_len (λ b. eqb b 10) text) (length text)) (position_or_len (λ b. eqb b 10) text) k e in
    let more : suc (position_or_len (λ b. eqb b 10) text) ≡ k + 1 = omega (arith, at.1) in
    some_split text (ltb-true (position_or_len (λ b. eqb b 10) text) (length text) at.0)
    ∙ ap (λ (n : ℕ). take n text ∷ lines_of (drop (suc (position_or_len (λ b. eqb b 10) text)) text)) at.1
    ∙ ap (λ (n : ℕ). take k text ∷ lines_of (drop n text)) more

pub some_line : (text : List ℕ) → 0 < length (lines_of text)
some_line [] = omega arith
some_line (c ∷ text) = at (eqb c 10) (lines_of text)
  where
    onto : (ls : List (List ℕ)) → 0 < length (onto_first c ls)
    onto [] = omega arith
    onto (l ∷ ls) = omega arith

    at : (b : Bool) (ls : List (List ℕ)) → 0 < length (cond b ([] ∷ ls) (onto_first c ls))
    at true ls = omega arith
    at false ls = onto ls

-- ---- one line after the other

-- what was made before, and what is made of the lines that are left
abbrev pub with_front : List ℕ → Result (List (List ℕ)) TextFault → Result (List ℕ) TextFault
with_front front made = made >>= λ lines. Ok (front ++ join_with_byte 10 lines)

abbrev behind_first : Way → ℕ → List (List ℕ) → List ℕ → Result (List (List ℕ)) TextFault
behind_first way number lines first = lines_at way (number + 1) lines >>= λ others. Ok (first ∷ others)

-- one line more, before others
more_joined : (way : Way) (number : ℕ) (front x : List ℕ) (lines : List (List ℕ)) → 0 < length lines
    → with_front front (lines_at way number lines >>= λ others. Ok (x ∷ others)) ≡ with_front ((front ++ x) ++ 10 ∷ []) (lines_at way number lines)
more_joined way number front x [] some = absurd (omega arith)
more_joined way number front x (l ∷ ls) some = at (placed number (length l) (line_at way l)) (lines_at way (number + 1) ls)
  where
    at : (r : Result (List ℕ) TextFault) (s : Result (List (List ℕ)) TextFault)
        → with_front front ((r >>= λ first. s >>= λ others. Ok (first ∷ others)) >>= λ others. Ok (x ∷ others)) ≡ with_front ((front ++ x) ++ 10 ∷ []) (r >>= λ first. s >>= λ others. Ok (first ∷ others))
    at (Err e) s = refl
    at (Ok y) (Err e) = refl
    at (Ok y) (Ok ys) =
        ap (λ (t : List ℕ). let r : Result (List ℕ) TextFault = Ok t in r)
        (sym (append_assoc (front ++ x) (10 ∷ []) (join_with_byte 10 (y ∷ ys)) ∙ append_assoc front x (10 ∷ join_with_byte 10 (y ∷ ys))))

pub line_more : (way : Way) (number : ℕ) (rest line behind front x : List ℕ) (total : Result (List ℕ) TextFault) → lines_of rest ≡ line ∷ lines_of behind
    → placed number (length line) (line_at way line) ≡ Ok x
    → total ≡ with_front front (lines_at way number (lines_of rest))
    → total ≡ with_front ((front ++ x) ++ 10 ∷ []) (lines_at way (number + 1) (lines_of behind))
line_more way number rest line behind front x total first made so_far =
    so_far
    ∙ ap (λ (ls : List (List ℕ)). with_front front (lines_at way number ls)) first
    ∙ ap (λ (r : Result (List ℕ) TextFault). with_front front (r >>= behind_first way number (lines_of behind))) made
    ∙ more_joined way (number + 1) front x (lines_of behind) (some_line behind)

fails_as : {X Y : Type 0} (e : TextFault) (made : Result X TextFault) (total : Result Y TextFault) → (made ≡ Err e → total ≡ Err e) → Fails e made → Fails e total
fails_as faults.Memory made total h f = tt
fails_as (faults.At line column what) made total h f = h f

pub line_fails : (way : Way) (number : ℕ) (rest line : List ℕ) (lines : List (List ℕ)) (front : List ℕ) (e : TextFault) (total : Result (List ℕ) TextFault) → lines_of rest ≡ line ∷ lines
    → Fails e (placed number (length line) (line_at way line))
    → total ≡ with_front front (lines_at way number (lines_of rest))
    → Fails e total
line_fails way number rest line lines front e total first fault so_far =
    fails_as e (placed number (length line) (line_at way line)) total
    (λ f. so_far
    ∙ ap (λ (ls : List (List ℕ)). with_front front (lines_at way number ls)) first
    ∙ ap (λ (r : Result (List ℕ) TextFault). with_front front (r >>= behind_first way number lines)) f)
    fault

pub last_made : (way : Way) (number : ℕ) (rest front x : List ℕ) (total : Result (List ℕ) TextFault) → lines_of rest ≡ rest ∷ []
    → placed number (length rest) (line_at way rest) ≡ Ok x
    → total ≡ with_front front (lines_at way number (lines_of rest))
    → total ≡ Ok (front ++ x)
last_made way number rest front x total last made so_far =
    so_far
    ∙ ap (λ (ls : List (List ℕ)). with_front front (lines_at way number ls)) last
    ∙ ap (λ (r : Result (List ℕ) TextFault). with_front front (r >>= behind_first way number [])) made
