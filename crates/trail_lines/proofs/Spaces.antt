-- A line is taken apart at its first space.
use Rattle.std.proofs.Common.{◌≡◌, ◌∙◌, ℕ, suc, ◌+◌, ◌<◌, not, cond, eqb, ltb, List, [], ◌∷◌, None, Some, ap, arith, drop, length, refl, take}
use Rattle.std.specs.Prelude.{unwrap_or}
use Rattle.std.specs.List.{position_or_len}
use Rattle.std.proofs.lemmas.Bool.{lt-ltb, ne_eqb}
use Rattle.std.proofs.lemmas.List.{length-append}
use Rattle.meter_theory.specs.Plan.{Plan}
use Rattle.line_server.specs.Spelling.{first_space, line_of}
use Rattle.label_certificate.proofs.Joined.{Lacks}
use Rattle.trail_lines.specs.Reading.{own_at, own_by, trail_line_of}
use Rattle.trail_lines.specs.Writing.{worded}
use Rattle.trail_lines.specs.declared.line.TrailLine.{TrailLine}
use Rattle.trail_lines.specs.declared.line.TrailLine.TheVariants.{Said}

space_behind : (word text : List ℕ) → Lacks 32 word → position_or_len (λ c. eqb c 32) (worded word text) ≡ length word
space_behind [] text h = refl
space_behind (c ∷ word) text h =
    ap (λ b. cond (not b) (1 + position_or_len (λ x. eqb x 32) (worded word text)) 0) (ne_eqb c 32 h.0)
    ∙ ap (λ n. 1 + n) (space_behind word text h.1) ∙ omega arith

-- the first space stands behind a word without one
pub space-is : (word text : List ℕ) → Lacks 32 word → first_space (worded word text) ≡ Some (length word)
space-is word text h =
    let more : length word < length (worded word text) = omega (arith, length-append word (32 ∷ text)) in
    ap (λ k. cond (ltb k (length (worded word text))) (Some k) None) (space_behind word text h)
    ∙ ap (λ b. cond b (Some (length word)) None) (lt-ltb (length word) (length (worded word text)) more)

pub word-is : (word text : List ℕ) → take (length word) (worded word text) ≡ word
word-is [] text = refl
word-is (c ∷ word) text = ap (λ w. c ∷ w) (word-is word text)

pub text-is : (word text : List ℕ) → drop (length word + 1) (worded word text) ≡ text
text-is word text = ap (λ n. drop n (worded word text)) one_more ∙ at word
  where
    one_more : length word + 1 ≡ suc (length word)
    one_more = omega arith

    at : (word : List ℕ) → drop (suc (length word)) (worded word text) ≡ text
    at [] = refl
    at (c ∷ word) = at word

-- what a line says by its own words
own-is : (word text : List ℕ) → Lacks 32 word → own_at (worded word text) (first_space (worded word text)) ≡ own_by word text
own-is word text h =
    ap (own_at (worded word text)) (space-is word text h)
    ∙ ap (λ w. own_by w (drop (length word + 1) (worded word text))) (word-is word text)
    ∙ ap (own_by word) (text-is word text)

-- a line that begins with a word of the trail alone says what that does
pub own-said : (P : Plan) (word text : List ℕ) (said : TrailLine) → Lacks 32 word → own_by word text ≡ Some said → trail_line_of P (worded word text) ≡ said
own-said P word text said h is = ap (λ o. unwrap_or o (Said (line_of P (worded word text)))) (own-is word text h ∙ is)

-- and any other what it says as a step line
pub step-said : (P : Plan) (word text : List ℕ) → Lacks 32 word → own_by word text ≡ None → trail_line_of P (worded word text) ≡ Said (line_of P (worded word text))
step-said P word text h none = ap (λ o. unwrap_or o (Said (line_of P (worded word text)))) (own-is word text h ∙ none)
