-- What is made of a line in words is made into the same line again.
use Rattle.std.proofs.Common.{◌≡◌, ℕ, ◌-◌, ◌/◌, ◌%◌, ◌<◌, Bool, true, false, cond, eqb, List, [], ◌∷◌, ◌++◌, length, Option, Some, Result, Ok, Err, refl, sym, ap, subst, ◌∙◌, arith, inl, inr}
use Rattle.std.specs.Prelude.{slice_index, option_and_then, is_some}
use Rattle.std.specs.List.{AllByRecursion}
use Rattle.std.specs.Result.{result_ok}
use Rattle.std.proofs.lemmas.Bool.{eqb-true}
use Rattle.std.proofs.lemmas.List.{append-nil, length-append, take_at}
use Rattle.hex.specs.Hex.{encode_upper, encode_with, upper_digits}
use Rattle.hex.proofs.HexLemmas.{decode_of-encode_upper}
use Rattle.cosem_data.specs.Tree.{Tree}
use Rattle.cosem_axdr.specs.Canonical.{canonical}
use Rattle.cosem_axdr.specs.Reading.{data_at}
use Rattle.cosem_axdr.specs.declared.fault.ReadFault.{ReadFault}
use Rattle.cosem_axdr.proofs.Prefixes.{written_is_read}
use Rattle.value_text.specs.Texts.{bytes_in, value_in, whole}
use Rattle.value_words.specs.Words.{value_words}
use Rattle.value_words.specs.declared.stop.Stop.{Stop}
use Rattle.value_words.specs.declared.stop.Stop.TheVariants as stop
use Rattle.value_words.specs.Stopping.{◌>>=◌, stops}
use Rattle.value_words.specs.WordReading.{digit_value}
use Rattle.value_words.proofs.Steps.{bind_ok, done, ok_is, chosen}
use Rattle.value_words.proofs.Octets.{digit_again}
use Rattle.step_words.specs.declared.fault.Asked.{Asked}
use Rattle.step_words.specs.declared.fault.Asked.TheVariants as asked
use Rattle.step_words.specs.declared.head.Head.{Head}
use Rattle.step_words.specs.declared.head.Head.TheVariants.{Input, Client, NamedTick, Whole}
use Rattle.step_words.specs.declared.texts.Way.TheVariants.{Encode, Decode}
use Rattle.step_words.specs.Parts.{ended, value_at}
use Rattle.step_words.specs.RequestReading.{asked_bytes}
use Rattle.step_words.specs.StepLines.{seconds_in, head_at, up_to, or_seconds, no_seconds, hex_at, encoded_step, ask_words, ask_step, input_step, words_at, decoded_step}
use Rattle.step_words.specs.Texts.{spared, with_return, ends_in_return, made_of, line_at}
use Rattle.step_words.proofs.Ranges.{AreBytes}
use Rattle.step_words.proofs.Stops.{ended_ok}
use Rattle.step_words.proofs.Bytes.{each_byte, canonical_bytes}
use Rattle.step_words.proofs.Given.{value_takes}
use Rattle.step_words.proofs.Asks.{asked_takes}
use Rattle.step_words.proofs.Fronts.{Fits, head_takes}

-- ---- hex digits

-- no newline is in a line
abbrev pub IsLine : List ℕ → Type 0
IsLine text = AllByRecursion (λ b. eqb b 10 ≡ false) text

digit_in_line : (d : ℕ) → d < 16 → eqb (slice_index upper_digits d) 10 ≡ false
digit_in_line d low = at (eqb (slice_index upper_digits d) 10) refl
  where
    at : (b : Bool) → eqb (slice_index upper_digits d) 10 ≡ b → b ≡ false
    at false is = refl
    at true is = let wrong : digit_value 10 ≡ Some d = ap digit_value (sym (eqb-true (slice_index upper_digits d) 10 is)) ∙ digit_again d low in absurd cc

hex_in_line : (s : List ℕ) → AreBytes s → IsLine (encode_upper s)
unfolding encode_with
hex_in_line [] h = tt
hex_in_line (b ∷ s) h =
    let low : b < 256 = h.0 in
    (digit_in_line (b / 16) (omega arith), (digit_in_line (b % 16) (omega arith), hex_in_line s h.1))

hex_again : (s : List ℕ) → AreBytes s → bytes_in (encode_upper s) ≡ Some s
hex_again s h = ap result_ok (decode_of-encode_upper s (each_byte s h))

-- ---- behind the front

-- hex of which the words are made again
abbrev IsHexOf : Head → List ℕ → List ℕ → Type 0
IsHexOf h text hex = (words_at h hex ≡ Ok text) × IsLine hex × Fits h hex

value_is : (t : Tree) → whole (data_at 16 (canonical t ++ [])) ≡ Some t → AreBytes (canonical t) → value_in (encode_upper (canonical t)) ≡ Some t
value_is t read low =
    ap (λ (o : Option (List ℕ)). option_and_then (λ bytes. whole (data_at 16 bytes)) o) (hex_again (canonical t) low)
    ∙ ap (λ (s : List ℕ). whole (data_at 16 s)) (sym (append-nil (canonical t)))
    ∙ read

input_hex : (text hex : List ℕ) → hex_at Input text ≡ Ok hex → IsHexOf Input text hex
unfolding hex_at words_at
input_hex text hex e =
    let v = bind_ok (value_at text) (λ x. ended (encode_upper (canonical x.0)) x.1) hex e in
    let t = v.0.0 in
    let taken = value_takes text t v.0.1 v.1 in
    let end = ended_ok (encode_upper (canonical t)) v.0.1 hex v.2 in
    let low = canonical_bytes t taken.1.ranges in
    let read : whole (data_at 16 (canonical t ++ [])) ≡ Some t =
    ap (λ (r : Result (Tree × List ℕ) ReadFault). whole r) (written_is_read t [] taken.1.lengths taken.1.ranges taken.1.nested) in
    let is : text ≡ value_words t = taken.0 ∙ ap (λ (s : List ℕ). value_words t ++ s) end.0 ∙ append-nil (value_words t) in
    subst (IsHexOf Input text) end.1 (
      ap (input_step (encode_upper (canonical t))) (value_is t read low) ∙ ap (λ (s : List ℕ). done s) (sym is),
      hex_in_line (canonical t) low,
      tt,
    )

some_asked : (text bytes : List ℕ) → 0 < length bytes → ask_step text (Some bytes) ≡ Ok (ask_words bytes)
some_asked text [] some = absurd (omega arith)
some_asked text (b ∷ bytes) some = refl

client_hex : (text hex : List ℕ) → hex_at Client text ≡ Ok hex → IsHexOf Client text hex
unfolding hex_at words_at
client_hex text hex e =
    let b = bind_ok (asked_bytes text) (λ bytes. Ok (encode_upper bytes)) hex e in
    let told = asked_takes text b.0 b.1 in
    subst (IsHexOf Client text) (ok_is (encode_upper b.0) hex b.2) (
      ap (ask_step (encode_upper b.0)) (hex_again b.0 told.are_bytes) ∙ some_asked (encode_upper b.0) b.0 told.some ∙ ap (λ (s : List ℕ). done s) told.said,
      hex_in_line b.0 told.are_bytes,
      tt,
    )

seconds_ok : (r : Result (List ℕ) (Stop Asked)) (bytes : List ℕ) → or_seconds r ≡ Ok bytes → r ≡ Ok bytes
seconds_ok (Ok x) bytes e = e
seconds_ok (Err stop.Memory) bytes e = absurd cc
seconds_ok (Err (stop.At left asked.Service)) bytes e = absurd cc
seconds_ok (Err (stop.At left _)) bytes e = absurd cc

named_tick_hex : (text hex : List ℕ) → hex_at NamedTick text ≡ Ok hex → IsHexOf NamedTick text hex
unfolding hex_at words_at
named_tick_hex text hex e =
    let b = bind_ok (or_seconds (asked_bytes text)) (λ bytes. no_seconds (encode_upper bytes)) hex e in
    let told = asked_takes text b.0 (seconds_ok (asked_bytes text) b.0 b.1) in
    let digits = encode_upper b.0 in
    elim (chosen (is_some (seconds_in digits)) (stops asked.NoSeconds digits) (Ok digits) (Ok hex) b.2) [
      | inl p ↦ let wrong = p.1 in absurd cc
      | inr p ↦
          subst (IsHexOf NamedTick text) (ok_is digits hex p.1) (
            ap (ask_step digits) (hex_again b.0 told.are_bytes) ∙ some_asked digits b.0 told.some ∙ ap (λ (s : List ℕ). done s) told.said,
            hex_in_line b.0 told.are_bytes,
            p.0,
          )
    ]

hex_takes : (h : Head) (text hex : List ℕ) → Fits h text → hex_at h text ≡ Ok hex → IsHexOf h text hex
unfolding hex_at words_at
hex_takes Input text hex fits e = input_hex text hex e
hex_takes Client text hex fits e = client_hex text hex e
hex_takes NamedTick text hex fits e = named_tick_hex text hex e
hex_takes Whole text hex fits e = subst (IsHexOf Whole text) (ok_is {A = List ℕ} [] hex e) (ap (λ (s : List ℕ). done s) (sym fits), tt, refl)

-- ---- steps

up_to_front : (first rest : List ℕ) → up_to (first ++ rest) rest ≡ first
up_to_front first rest = take_at first rest (length (first ++ rest) - length rest) (omega (arith, length-append first rest))

-- a step in words, and the step line that is made of it
record IsStep (text made : List ℕ) : Type 0 where
  first : List ℕ
  rest : List ℕ
  hex : List ℕ
  is : text ≡ first ++ rest
  made_is : made ≡ first ++ hex
  some : 0 < length first
  in_line : IsLine hex
  again : decoded_step made ≡ Ok text

-- a front and the hex behind it are made into that front and the words
front_again : (h : Head) (first rest hex : List ℕ) → head_at (first ++ hex) ≡ Ok (h, hex) → words_at h hex ≡ Ok rest → decoded_step (first ++ hex) ≡ Ok (first ++ rest)
unfolding decoded_step
front_again h first rest hex read made =
    ap (λ (r : Result (Head × List ℕ) (Stop Asked)). r >>= λ head. words_at head.0 head.1 >>= λ words. Ok (up_to (first ++ hex) head.1 ++ words)) read
    ∙ ap (λ (r : Result (List ℕ) (Stop Asked)). r >>= λ words. Ok (up_to (first ++ hex) hex ++ words)) made
    ∙ ap (λ (s : List ℕ). done (s ++ rest)) (up_to_front first hex)

step_takes : (text made : List ℕ) → encoded_step text ≡ Ok made → IsStep text made
unfolding encoded_step
step_takes text made e =
    let h = bind_ok (head_at text) (λ head. hex_at head.0 head.1 >>= λ hex. Ok (up_to text head.1 ++ hex)) made e in
    let x = bind_ok (hex_at h.0.0 h.0.1) (λ hex. Ok (up_to text h.0.1 ++ hex)) made h.2 in
    let f = head_takes text h.0.0 h.0.1 h.1 in
    let hex = hex_takes h.0.0 h.0.1 x.0 f.fits x.1 in
    let made_is : made ≡ f.first ++ x.0 =
    sym (ok_is (up_to text h.0.1 ++ x.0) made x.2)
    ∙ ap (λ (s : List ℕ). up_to s h.0.1 ++ x.0) f.is
    ∙ ap (λ (s : List ℕ). s ++ x.0) (up_to_front f.first h.0.1) in
    record {
      first = f.first;
      rest = h.0.1;
      hex = x.0;
      is = f.is;
      made_is = made_is;
      some = f.some;
      in_line = hex.1;
      again = ap decoded_step made_is ∙ front_again h.0.0 f.first h.0.1 x.0 (f.again x.0 hex.2) hex.0 ∙ ap (λ (s : List ℕ). done s) (sym f.is);
    }

-- ---- lines

returned : (text : List ℕ) (r : Result (List ℕ) (Stop Asked)) (x : List ℕ) → with_return text r ≡ Ok x → r ≡ Ok x
returned text (Ok y) x e = e
returned text (Err stop.Memory) x e = absurd cc
returned text (Err (stop.At left what)) x e =
    elim (chosen (ends_in_return text) (Err (stop.At 1 asked.Newline)) (Err (stop.At left what)) (Ok x) e) [
      | inl p ↦ let wrong = p.1 in absurd cc
      | inr p ↦ let wrong = p.1 in absurd cc
    ]

front_in_line : (first rest : List ℕ) → IsLine (first ++ rest) → IsLine first
front_in_line [] rest h = tt
front_in_line (b ∷ first) rest h = (h.0, front_in_line first rest h.1)

joined_in_line : (first rest : List ℕ) → IsLine first → IsLine rest → IsLine (first ++ rest)
joined_in_line [] rest h k = k
joined_in_line (b ∷ first) rest h k = (h.0, joined_in_line first rest h.1 k)

-- a line that is made into another line again
abbrev pub IsMade : List ℕ → List ℕ → Type 0
IsMade line made = (line_at Decode made ≡ Ok line) × IsLine made

line_again : (c : ℕ) (text made : List ℕ) (first hex : List ℕ) → eqb c 35 ≡ false → made ≡ (c ∷ first) ++ hex → decoded_step made ≡ Ok (c ∷ text) → line_at Decode made ≡ Ok (c ∷ text)
line_again c text made first hex other is again =
    ap (line_at Decode) is
    ∙ ap (λ (b : Bool). cond b (Ok ((c ∷ first) ++ hex)) (with_return ((c ∷ first) ++ hex) (made_of Decode ((c ∷ first) ++ hex)))) other
    ∙ ap (λ (r : Result (List ℕ) (Stop Asked)). with_return ((c ∷ first) ++ hex) (spared ((c ∷ first) ++ hex) r)) (ap decoded_step (sym is) ∙ again)

made_line : (c : ℕ) (text made first rest hex : List ℕ) → eqb c 35 ≡ false → IsLine (c ∷ text) → c ∷ text ≡ first ++ rest → made ≡ first ++ hex → 0 < length first → IsLine hex → decoded_step made ≡ Ok (c ∷ text) → IsMade (c ∷ text) made
made_line c text made [] rest hex other line is made_is some in_line again = absurd (omega arith)
made_line c text made (d ∷ first) rest hex other line is made_is some in_line again =
    let same : c ≡ d = cc in (
      line_again c text made first hex other (made_is ∙ ap (λ (x : ℕ). (x ∷ first) ++ hex) (sym same)) again,
      subst IsLine (sym made_is) (joined_in_line (d ∷ first) hex (front_in_line (d ∷ first) rest (subst IsLine is line)) in_line),
    )

-- a line in words is made into a line of which it is made again
pub line_takes : (line made : List ℕ) → IsLine line → line_at Encode line ≡ Ok made → IsMade line made
line_takes [] made h e = subst (IsMade []) (ok_is {A = List ℕ} [] made e) (refl, tt)
line_takes (c ∷ text) made h e =
    elim (chosen (eqb c 35) (Ok (c ∷ text)) (with_return (c ∷ text) (encoded_step (c ∷ text))) (Ok made) e) [
      | inl p ↦ subst (IsMade (c ∷ text)) (ok_is (c ∷ text) made p.1) (ap (λ (b : Bool). cond b (Ok (c ∷ text)) (with_return (c ∷ text) (made_of Decode (c ∷ text)))) p.0, h)
      | inr p ↦
          let s = step_takes (c ∷ text) made (returned (c ∷ text) (encoded_step (c ∷ text)) made p.1) in
          made_line c text made s.first s.rest s.hex p.0 h s.is s.made_is s.some s.in_line s.again
    ]
