-- A whole text of steps in words is made into the same text again.
use Rattle.std.proofs.Common.{◌≡◌, ℕ, suc, ◌+◌, ◌<◌, Bool, true, false, cond, eqb, List, [], ◌∷◌, ◌++◌, length, Result, Ok, Err, refl, sym, ap, subst, ◌∙◌, arith}
use Rattle.std.specs.List.{AllByRecursion, onto_first, join_with_byte}
use Rattle.std.proofs.lemmas.List.Splits.{join_with_byte-slice_split}
use Rattle.value_words.specs.declared.stop.Stop.{Stop}
use Rattle.value_words.specs.declared.stop.Stop.TheVariants as stop
use Rattle.value_words.specs.Stopping.{◌>>=◌}
use Rattle.value_words.proofs.Steps.{bind_ok, done, ok_is}
use Rattle.step_words.specs.declared.fault.Asked.{Asked}
use Rattle.step_words.specs.declared.fault.TextFault.{TextFault}
use Rattle.step_words.specs.declared.texts.Way.TheVariants.{Encode, Decode}
use Rattle.step_words.specs.Texts.{placed, line_at, lines_at, encoded, decoded}
use Rattle.step_words.specs.TextLaws.{EncodedIsDecoded}
use Rattle.step_words.proofs.Lines.{lines_of, some_line}
use Rattle.step_words.proofs.Rounds.{IsLine, line_takes}

-- a line of which something was made
placed_ok : (number size : ℕ) (r : Result (List ℕ) (Stop Asked)) (x : List ℕ) → placed number size r ≡ Ok x → r ≡ Ok x
placed_ok number size (Ok y) x e = ap (λ (z : List ℕ). let r : Result (List ℕ) (Stop Asked) = Ok z in r) (ok_is y x e)
placed_ok number size (Err stop.Memory) x e = absurd cc
placed_ok number size (Err (stop.At left what)) x e = absurd cc

-- ---- lines

-- lines with no newline in them
abbrev AreLines : List (List ℕ) → Type 0
AreLines lines = AllByRecursion IsLine lines

-- the lines of a text have no newline
split_lines : (text : List ℕ) → AreLines (lines_of text)
split_lines [] = (tt, tt)
split_lines (c ∷ text) = at (eqb c 10) refl (lines_of text) (split_lines text)
  where
    onto : (ls : List (List ℕ)) → eqb c 10 ≡ false → AreLines ls → AreLines (onto_first c ls)
    onto [] is h = ((is, tt), tt)
    onto (l ∷ ls) is h = ((is, h.0), h.1)

    at : (b : Bool) → eqb c 10 ≡ b → (ls : List (List ℕ)) → AreLines ls → AreLines (cond b ([] ∷ ls) (onto_first c ls))
    at true is ls h = (tt, h)
    at false is ls h = onto ls is h

split_last : (line : List ℕ) → IsLine line → lines_of line ≡ line ∷ []
split_last [] h = refl
split_last (c ∷ line) h =
    ap (λ (b : Bool). cond b ([] ∷ lines_of line) (onto_first c (lines_of line))) h.0
    ∙ ap (onto_first c) (split_last line h.1)

split_first : (line rest : List ℕ) → IsLine line → lines_of (line ++ 10 ∷ rest) ≡ line ∷ lines_of rest
split_first [] rest h = refl
split_first (c ∷ line) rest h =
    ap (λ (b : Bool). cond b ([] ∷ lines_of (line ++ 10 ∷ rest)) (onto_first c (lines_of (line ++ 10 ∷ rest)))) h.0
    ∙ ap (onto_first c) (split_first line rest h.1)

-- lines that are joined are parted again
split_joined : (lines : List (List ℕ)) → 0 < length lines → AreLines lines → lines_of (join_with_byte 10 lines) ≡ lines
split_joined [] some h = absurd (omega arith)
split_joined (l ∷ []) some h = split_last l h.0
split_joined (l ∷ m ∷ ls) some h =
    split_first l (join_with_byte 10 (m ∷ ls)) h.0
    ∙ ap (λ (rest : List (List ℕ)). l ∷ rest) (split_joined (m ∷ ls) (omega arith) h.1)

-- ---- texts

-- lines of which the others are made again
record AreMade (number : ℕ) (lines made : List (List ℕ)) : Type 0 where
  again : lines_at Decode number made ≡ Ok lines
  are_lines : AreLines made
  as_many : length made ≡ length lines

lines_take : (number : ℕ) (lines made : List (List ℕ)) → AreLines lines → lines_at Encode number lines ≡ Ok made → AreMade number lines made
lines_take number [] made h e = subst (AreMade number []) (ok_is {A = List (List ℕ)} [] made e) (record { again = refl; are_lines = tt; as_many = refl })
lines_take number (line ∷ lines) made h e =
    let a = bind_ok (placed number (length line) (line_at Encode line)) (λ first. lines_at Encode (number + 1) lines >>= λ others. Ok (first ∷ others)) made e in
    let b = bind_ok (lines_at Encode (number + 1) lines) (λ others. Ok (a.0 ∷ others)) made a.2 in
    let one = line_takes line a.0 h.0 (placed_ok number (length line) (line_at Encode line) a.0 a.1) in
    let more = lines_take (number + 1) lines b.0 h.1 b.1 in
    subst (AreMade number (line ∷ lines)) (ok_is (a.0 ∷ b.0) made b.2)
    (record {
      again =
          ap (λ (r : Result (List ℕ) (Stop Asked)). placed number (length a.0) r >>= λ first. lines_at Decode (number + 1) b.0 >>= λ others. Ok (first ∷ others)) one.0
          ∙ ap (λ (r : Result (List (List ℕ)) TextFault). r >>= λ others. Ok (line ∷ others)) more.again;
      are_lines = (one.1, more.are_lines);
      as_many = ap suc more.as_many;
    })

pub encoded_is_decoded : EncodedIsDecoded
unfolding encoded decoded
encoded_is_decoded text made e =
    let b = bind_ok (lines_at Encode 1 (lines_of text)) (λ lines. Ok (join_with_byte 10 lines)) made e in
    let m = lines_take 1 (lines_of text) b.0 (split_lines text) b.1 in
    let some : 0 < length b.0 = omega (arith, some_line text, m.as_many) in
    let lines : lines_of made ≡ b.0 = ap lines_of (sym (ok_is (join_with_byte 10 b.0) made b.2)) ∙ split_joined b.0 some m.are_lines in
    ap (λ (ls : List (List ℕ)). lines_at Decode 1 ls >>= λ made. Ok (join_with_byte 10 made)) lines
    ∙ ap (λ (r : Result (List (List ℕ)) TextFault). r >>= λ made. Ok (join_with_byte 10 made)) m.again
    ∙ ap (λ (t : List ℕ). done t) (join_with_byte-slice_split 10 text)
