-- Bytes in quotes are read from their texts, and from no others.
use Rattle.std.proofs.Common.{◌≡◌, ℕ, zero, suc, ◌+◌, ◌*◌, ◌/◌, ◌%◌, ◌<◌, Bool, true, false, ◌&&◌, cond, eqb, List, [], ◌∷◌, ◌++◌, length, Option, Some, None, Result, Ok, refl, sym, ap, ◌∙◌, append_assoc, arith, inl, inr}
use Rattle.std.specs.Prelude.{option_and_then, slice_index}
use Rattle.std.specs.List.{AllByRecursion}
use Rattle.std.proofs.lemmas.Bool.{and_parts, eqb-true}
use Rattle.std.proofs.lemmas.Bool.Decides.{nat_tests}
use Rattle.std.proofs.lemmas.List.{length-append}
use Rattle.hex.specs.Hex.{encode_upper, encode_with, upper_digits}
use Rattle.value_words.specs.declared.fault.Asked.{Asked}
use Rattle.value_words.specs.declared.fault.Asked.TheVariants as asked
use Rattle.value_words.specs.declared.stop.Stop.{Stop}
use Rattle.value_words.specs.Words.{is_plain, letter_words, letters_words}
use Rattle.value_words.specs.Stopping.{◌>>=◌, found, mark_at, read_map}
use Rattle.value_words.specs.WordReading.{digit_value, escaped, escape_at, letter_at, letters_step, letters_at, quoted_at}
use Rattle.value_words.proofs.Steps.{bind_ok, ok_is, then_some, some_is, found_ok, mapped, read_again, chosen, done}
use Rattle.value_words.proofs.Behind.{mark_takes}
use Rattle.value_words.proofs.Octets.{digit_takes, digit_again, byte_digits}

-- ---- what is read stands there

abbrev unless_plain : ℕ → Option ℕ
unless_plain b = cond (is_plain b) None (Some b)

escaped_takes : (slash x high low b : ℕ) → escaped slash x high low ≡ Some b → (slash ∷ x ∷ high ∷ low ∷ []) ≡ letter_words b
unfolding encode_with
escaped_takes slash x high low b e = at (eqb slash 92 && eqb x 120) refl e
  where
    byte : (h l : ℕ) → digit_value high ≡ Some h → digit_value low ≡ Some l → unless_plain (16 * h + l) ≡ Some b → (slash ≡ 92) × (x ≡ 120) → (slash ∷ x ∷ high ∷ low ∷ []) ≡ letter_words b
    byte h l dh dl is marks =
        let same : 16 * h + l ≡ h * 16 + l = omega arith in
        let not_plain : (is_plain (h * 16 + l) ≡ false) × (h * 16 + l ≡ b) = plain (is_plain (h * 16 + l)) (h * 16 + l) refl (ap unless_plain (sym same) ∙ is) in
        ap (λ (s : ℕ). s ∷ x ∷ high ∷ low ∷ []) marks.0
        ∙ ap (λ (y : ℕ). 92 ∷ y ∷ high ∷ low ∷ []) marks.1
        ∙ ap (λ (t : List ℕ). 92 ∷ 120 ∷ t) (sym (byte_digits high low h l (digit_takes high h dh) (digit_takes low l dl)))
        ∙ sym (ap (λ (c : Bool). cond c ((h * 16 + l) ∷ []) (92 ∷ 120 ∷ encode_upper ((h * 16 + l) ∷ []))) not_plain.0)
        ∙ ap letter_words not_plain.1
      where
        plain : (p : Bool) (v : ℕ) → is_plain v ≡ p → cond p None (Some v) ≡ Some b → (p ≡ false) × (v ≡ b)
        plain true v is e = absurd cc
        plain false v is e = (refl, some_is v b e)

    at : (p : Bool) → (eqb slash 92 && eqb x 120) ≡ p
        → cond p (option_and_then (λ h. option_and_then (λ l. unless_plain (16 * h + l)) (digit_value low)) (digit_value high)) None ≡ Some b → (slash ∷ x ∷ high ∷ low ∷ []) ≡ letter_words b
    at false p h = absurd cc
    at true p h =
        let marks = and_parts (eqb slash 92) (eqb x 120) p in
        let one = then_some (λ h. option_and_then (λ l. unless_plain (16 * h + l)) (digit_value low)) (digit_value high) b h in
        let two = then_some (λ l. unless_plain (16 * one.0 + l)) (digit_value low) b one.2 in
        byte one.0 two.0 one.1 two.1 two.2 (eqb-true slash 92 marks.0, eqb-true x 120 marks.1)

escape_takes : (text : List ℕ) (b : ℕ) (rest : List ℕ) → escape_at text ≡ Ok (b, rest) → text ≡ letter_words b ++ rest
escape_takes [] b rest e = absurd cc
escape_takes (s ∷ []) b rest e = absurd cc
escape_takes (s ∷ x ∷ []) b rest e = absurd cc
escape_takes (s ∷ x ∷ h ∷ []) b rest e = absurd cc
escape_takes (s ∷ x ∷ h ∷ l ∷ text) b rest e =
    let f = found_ok asked.Letter (s ∷ x ∷ h ∷ l ∷ text) (escaped s x h l) text b rest e in
    ap (λ (t : List ℕ). t ++ text) (escaped_takes s x h l b f.0) ∙ ap (λ (t : List ℕ). letter_words b ++ t) f.1

-- what stands for a byte, or the closing quote
abbrev quote_or : Option ℕ → List ℕ
quote_or None = 34 ∷ []
quote_or (Some b) = letter_words b

letter_takes : (text : List ℕ) (o : Option ℕ) (rest : List ℕ) → letter_at text ≡ Ok (o, rest) → text ≡ quote_or o ++ rest
unfolding letter_at
letter_takes [] o rest e = absurd cc
letter_takes (b ∷ text) o rest e =
    elim (chosen (eqb b 34) _ _ (Ok (o, rest)) e) [
      | inl p ↦
          let is = ok_is {A = Option ℕ × List ℕ} (None, text) (o, rest) p.1 in
          ap (λ (x : ℕ). x ∷ text) (eqb-true b 34 p.0) ∙ ap (λ (x : Option ℕ × List ℕ). quote_or x.0 ++ x.1) is
      | inr p ↦ elim (chosen (is_plain b) _ _ (Ok (o, rest)) p.1) [
        | inl q ↦
            let is = ok_is {A = Option ℕ × List ℕ} (Some b, text) (o, rest) q.1 in
            sym (ap (λ (c : Bool). cond c (b ∷ []) (92 ∷ 120 ∷ encode_upper (b ∷ [])) ++ text) q.0) ∙ ap (λ (x : Option ℕ × List ℕ). quote_or x.0 ++ x.1) is
        | inr q ↦
            let m = mapped Some (escape_at (b ∷ text)) o rest q.1 in
            escape_takes (b ∷ text) m.0 rest m.1 ∙ ap (λ (x : Option ℕ). quote_or x ++ rest) m.2
      ]
    ]

letters_take : (n : ℕ) (text s rest : List ℕ) → letters_at n text ≡ Ok (s, rest) → text ≡ letters_words s ++ rest
unfolding letters_at
letters_take zero text s rest e = absurd cc
letters_take (suc n) text s rest e =
    let b = bind_ok (letter_at text) (λ l. letters_step (letters_at n) l.0 l.1) (s, rest) e in
    letter_takes text b.0.0 b.0.1 b.1 ∙ on b.0.0 b.0.1 b.2 (λ u h. letters_take n b.0.1 u rest h)
  where
    on : (o : Option ℕ) (after : List ℕ) → letters_step (letters_at n) o after ≡ Ok (s, rest) → ((u : List ℕ) → letters_at n after ≡ Ok (u, rest) → after ≡ letters_words u ++ rest) → quote_or o ++ after ≡ letters_words s ++ rest
    on None after h more = ap (λ (x : List ℕ × List ℕ). letters_words x.0 ++ x.1) (ok_is {A = List ℕ × List ℕ} ([], after) (s, rest) h)
    on (Some c) after h more =
        let m = mapped (λ u. c ∷ u) (letters_at n after) s rest h in
        ap (λ (t : List ℕ). letter_words c ++ t) (more m.0 m.1)
        ∙ sym (append_assoc (letter_words c) (letters_words m.0) rest)
        ∙ ap (λ (t : List ℕ). letters_words t ++ rest) m.2

pub quoted_takes : (text s rest : List ℕ) → quoted_at text ≡ Ok (s, rest) → text ≡ 34 ∷ (letters_words s ++ rest)
unfolding quoted_at
quoted_takes text s rest e =
    let b = bind_ok (mark_at asked.Quote (34 ∷ []) text) (λ left. letters_at (length left) left) (s, rest) e in
    mark_takes asked.Quote (34 ∷ []) text b.0 b.1 ∙ ap (λ (t : List ℕ). 34 ∷ t) (letters_take (length b.0) b.0 s rest b.2)

-- ---- what stands there is read

letter_again : (b : ℕ) (rest : List ℕ) → b < 256 → letter_at (letter_words b ++ rest) ≡ Ok (Some b, rest)
unfolding letter_at encode_with
letter_again b rest small = at (is_plain b) refl
  where
    quote : is_plain b ≡ true → eqb b 34 ≡ false
    quote is = grind (arith, nat_tests)

    escape : is_plain b ≡ false → escaped 92 120 (slice_index upper_digits (b / 16)) (slice_index upper_digits (b % 16)) ≡ Some b
    escape is =
        let one = digit_again (b / 16) (omega arith) in
        let two = digit_again (b % 16) (omega arith) in
        let whole : 16 * (b / 16) + b % 16 ≡ b = omega arith in
        rw (one, two) (ap unless_plain whole ∙ ap (λ (c : Bool). cond c None (Some b)) is)

    at : (p : Bool) → is_plain b ≡ p → letter_at (cond p (b ∷ []) (92 ∷ 120 ∷ encode_upper (b ∷ [])) ++ rest) ≡ Ok (Some b, rest)
    at true is =
        let other = read_map Some (escape_at (b ∷ rest)) in
        ap (λ (c : Bool). cond c (done {A = Option ℕ × List ℕ} (None, rest)) (cond (is_plain b) (done {A = Option ℕ × List ℕ} (Some b, rest)) other)) (quote is)
        ∙ ap (λ (c : Bool). cond c (done {A = Option ℕ × List ℕ} (Some b, rest)) other) is
    at false is =
        ap (λ (o : Option ℕ). read_map Some (found asked.Letter (92 ∷ 120 ∷ slice_index upper_digits (b / 16) ∷ slice_index upper_digits (b % 16) ∷ rest) o rest)) (escape is)

letters_again : (n : ℕ) (s rest : List ℕ) → length s < n → AllByRecursion (λ b. b < 256) s → letters_at n (letters_words s ++ rest) ≡ Ok (s, rest)
unfolding letters_at letter_at
letters_again zero s rest lt h = absurd (omega arith)
letters_again (suc n) [] rest lt h = refl
letters_again (suc n) (b ∷ s) rest lt h =
    let after = letters_words s ++ rest in
    ap (letters_at (suc n)) (append_assoc (letter_words b) (letters_words s) rest)
    ∙ ap (λ (r : Result (Option ℕ × List ℕ) (Stop Asked)). r >>= λ l. letters_step (letters_at n) l.0 l.1) (letter_again b after h.0)
    ∙ read_again (λ u. b ∷ u) (letters_at n after) s rest (letters_again n s rest (omega arith) h.1)

letter_some : (b : ℕ) → 0 < length (letter_words b)
unfolding encode_with
letter_some b = at (is_plain b)
  where
    at : (p : Bool) → 0 < length (cond p (b ∷ []) (92 ∷ 120 ∷ encode_upper (b ∷ [])))
    at true = omega arith
    at false = omega arith

letters_long : (s : List ℕ) → length s < length (letters_words s)
letters_long [] = omega arith
letters_long (b ∷ s) =
    let more = letters_long s in
    let one = letter_some b in
    omega (arith, more, one, length-append (letter_words b) (letters_words s))

pub quoted_again : (s rest : List ℕ) → AllByRecursion (λ b. b < 256) s → quoted_at (34 ∷ (letters_words s ++ rest)) ≡ Ok (s, rest)
unfolding quoted_at
quoted_again s rest h =
    let long = letters_long s in
    letters_again (length (letters_words s ++ rest)) s rest (omega (arith, long, length-append (letters_words s) rest)) h
