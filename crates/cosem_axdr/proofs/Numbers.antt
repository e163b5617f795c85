-- A number, a length or a string that is read is one that stands there, and one that stands there is read.
use Rattle.std.proofs.Common.{◌≡◌, ℕ, ℤ, zero, suc, ◌+◌, ◌^◌, ◌<◌, ◌≤◌, ◌/◌, ◌%◌, Bool, true, false, cond, ltb, eqb, List, [], ◌∷◌, ◌++◌, length, get_or, take, drop, Result, Ok, Err, refl, sym, ap, subst, ◌∙◌, append_assoc, arith, inl, inr, ◌⊎◌, FitsSigned}
use Rattle.std.specs.Int.{Width, w8, w16, w32, w64, byte_len, from_be_bytes, to_be_bytes, bytes_high_first, cast_signed, cast_unsigned}
use Rattle.std.specs.List.{AllByRecursion}
use Rattle.std.proofs.lemmas.Bool.{cases_lt, ltb-true, ltb-false, le-ltb, lt-ltb, eqb-true}
use Rattle.std.proofs.lemmas.List.{take_at, drop_at, take-append-drop, length-append, length-take, get_or-drop, get_or-take, get_or_past}
use Rattle.std.proofs.lemmas.Nat.{be_bytes_2, be_bytes_4, be_bytes_8, from_be_bytes-to_be_bytes_2, from_be_bytes-to_be_bytes_4, from_be_bytes-to_be_bytes_8}
use Rattle.std.proofs.lemmas.Int.{ints, of_z-to_z, to_z-of_z}
use Rattle.cosem_axdr.specs.declared.fault.ReadFault.{ReadFault}
use Rattle.cosem_axdr.specs.declared.fault.ReadFault.TheVariants.{Short}
use Rattle.cosem_axdr.specs.Grammar.{Form, itself, one, two, three, four, limit_of, length_in, IsLength, IsSigned, IsString}
use Rattle.cosem_axdr.specs.Reading.{◌>>=◌, unsigned_at, signed_at, three_at, length_at, string_at}

abbrev pub IsBytes : List ℕ → Type 0
IsBytes bytes = (i : ℕ) → get_or bytes i 0 < 256

pub IsBytes-drop : (n : ℕ) (bytes : List ℕ) → IsBytes bytes → IsBytes (drop n bytes)
IsBytes-drop n bytes h i = rw get_or-drop (h (n + i))

pub IsBytes-take : (n : ℕ) (bytes : List ℕ) → IsBytes bytes → IsBytes (take n bytes)
IsBytes-take n bytes h i =
    elim (cases_lt i n) [
      | inl lt ↦ rw (get_or-take n bytes i 0 lt) (h i)
      | inr le ↦ rw (get_or_past (take n bytes) i 0 (omega (arith, length-take n bytes))) (omega arith)
    ]

pub IsBytes-rest : (b : ℕ) (bytes : List ℕ) → IsBytes (b ∷ bytes) → IsBytes bytes
IsBytes-rest b bytes h i = h (suc i)

pub IsBytes-behind : (text rest : List ℕ) → IsBytes (text ++ rest) → IsBytes rest
IsBytes-behind [] rest h = h
IsBytes-behind (b ∷ text) rest h = IsBytes-behind text rest (λ i. h (suc i))

pub IsBytes-all : (bytes : List ℕ) → IsBytes bytes → AllByRecursion (λ b. b < 256) bytes
IsBytes-all [] h = tt
IsBytes-all (b ∷ bytes) h = (h 0, IsBytes-all bytes (λ i. h (suc i)))

-- the value of a step that did not fail
pub bind_ok : {A B : Type 0} (r : Result A ReadFault) (f : A → Result B ReadFault) (y : B) → (r >>= f) ≡ Ok y → (x : A) × (r ≡ Ok x) × (f x ≡ Ok y)
bind_ok (Ok x) f y e = (x, refl, e)
bind_ok (Err d) f y e = absurd cc

-- a test that did not fail
pub guard_ok : {A : Type 0} (b : Bool) (d : ReadFault) (x y : A) → cond b (Err d) (Ok x) ≡ Ok y → (b ≡ false) × (x ≡ y)
guard_ok true d x y e = absurd cc
guard_ok false d x y e = (refl, cc)

pub chosen : {A : Type 0} (b : Bool) (x y z : A) → cond b x y ≡ z → ((b ≡ true) × (x ≡ z)) ⊎ ((b ≡ false) × (y ≡ z))
chosen true x y z e = inl (refl, e)
chosen false x y z e = inr (refl, e)

abbrev pub done : {A : Type 0} → A → Result A ReadFault
done x = Ok x

pub ok_is : {A : Type 0} (x y : A) → done x ≡ done y → x ≡ y
ok_is x y e = cc

-- ---- numbers

pub record IsWide (w : Width) : Type 0 where
  pub len : (n : ℕ) → length (to_be_bytes w n) ≡ byte_len w
  pub back : (bytes : List ℕ) → length bytes ≡ byte_len w → IsBytes bytes → to_be_bytes w (from_be_bytes w bytes) ≡ bytes
  pub again : (n : ℕ) → n < 256 ^ byte_len w → from_be_bytes w (to_be_bytes w n) ≡ n
  pub below : (bytes : List ℕ) → IsBytes bytes → from_be_bytes w bytes < 256 ^ byte_len w

back8 : (bytes : List ℕ) → length bytes ≡ 1 → IsBytes bytes → to_be_bytes w8 (from_be_bytes w8 bytes) ≡ bytes
back8 [] len fits = absurd (omega arith)
back8 (b ∷ []) len fits = let small : b < 256 = fits 0 in let same : b % 256 ≡ b = omega arith in ap (λ (n : ℕ). n ∷ []) same
back8 (b ∷ c ∷ bytes) len fits = absurd (omega arith)

again8 : (n : ℕ) → n < 256 → from_be_bytes w8 (to_be_bytes w8 n) ≡ n
again8 n lt = omega arith

pub wide8 : IsWide w8
wide8 = record {
  len = λ n. refl;
  back = back8;
  again = again8;
  below = λ bytes fits. fits 0;
}

pub wide16 : IsWide w16
wide16 = record {
  len = λ n. refl;
  back = λ bytes len fits. be_bytes_2 bytes _ len fits refl;
  again = λ n lt. from_be_bytes-to_be_bytes_2 n lt;
  below = λ bytes fits. omega (arith, fits 0, fits 1);
}

pub wide32 : IsWide w32
wide32 = record {
  len = λ n. refl;
  back = λ bytes len fits. be_bytes_4 bytes _ len fits refl;
  again = λ n lt. from_be_bytes-to_be_bytes_4 n lt;
  below = λ bytes fits. omega (arith, fits 0, fits 1, fits 2, fits 3);
}

pub wide64 : IsWide w64
wide64 = record {
  len = λ n. refl;
  back = λ bytes len fits. be_bytes_8 bytes _ len fits refl;
  again = λ n lt. from_be_bytes-to_be_bytes_8 n lt;
  below = λ bytes fits. omega (arith, fits 0, fits 1, fits 2, fits 3, fits 4, fits 5, fits 6, fits 7);
}

-- the bytes of the number stand in front of the rest
pub unsigned_takes : (w : Width) (wide : IsWide w) (bytes : List ℕ) (n : ℕ) (rest : List ℕ) → IsBytes bytes → unsigned_at w bytes ≡ Ok (n, rest) → (bytes ≡ to_be_bytes w n ++ rest) × (n < 256 ^ byte_len w)
unsigned_takes w wide bytes n rest fits e =
    let g = guard_ok (ltb (length bytes) (byte_len w)) Short (from_be_bytes w (take (byte_len w) bytes), drop (byte_len w) bytes) (n, rest) e in
    let long : byte_len w ≤ length bytes = ltb-false _ _ g.0 in
    let n-is : from_be_bytes w (take (byte_len w) bytes) ≡ n = ap (λ (p : ℕ × List ℕ). p.0) g.1 in
    let rest-is : drop (byte_len w) bytes ≡ rest = ap (λ (p : ℕ × List ℕ). p.1) g.1 in
    let front : to_be_bytes w n ≡ take (byte_len w) bytes = rw (← n-is) (wide.back (take (byte_len w) bytes) (omega (arith, length-take (byte_len w) bytes)) (IsBytes-take (byte_len w) bytes fits)) in
    (rw (front, ← rest-is) (sym (take-append-drop (byte_len w) bytes)), rw (← n-is) (wide.below (take (byte_len w) bytes) (IsBytes-take (byte_len w) bytes fits)))

pub unsigned_again : (w : Width) (wide : IsWide w) (n : ℕ) (rest : List ℕ) → n < 256 ^ byte_len w → unsigned_at w (to_be_bytes w n ++ rest) ≡ Ok (n, rest)
unsigned_again w wide n rest lt =
    let len = wide.len n in
    let long : ltb (length (to_be_bytes w n ++ rest)) (byte_len w) ≡ false = le-ltb _ _ (omega (arith, length-append (to_be_bytes w n) rest)) in
    rw (long, take_at (to_be_bytes w n) rest (byte_len w) len, drop_at (to_be_bytes w n) rest (byte_len w) len, wide.again n lt) refl

-- ---- three bytes

tail : List ℕ → List ℕ
tail [] = []
tail (b ∷ bytes) = bytes

back_three : (bytes : List ℕ) → length bytes ≡ 3 → IsBytes bytes → bytes_high_first 3 (from_be_bytes w32 (0 ∷ bytes)) ≡ bytes
unfolding tail
back_three bytes len fits = ap tail (be_bytes_4 (0 ∷ bytes) (from_be_bytes w32 (0 ∷ bytes)) (ap suc len) (elim [ zero ↦ omega arith | suc i ↦ fits i ]) refl)

again_three : (n : ℕ) → n < 2 ^ 24 → from_be_bytes w32 (0 ∷ bytes_high_first 3 n) ≡ n
again_three n lt =
    let top : n / 256 ^ 3 % 256 ≡ 0 = omega arith in
    ap (λ (b : ℕ). from_be_bytes w32 (b ∷ bytes_high_first 3 n)) (sym top) ∙ from_be_bytes-to_be_bytes_4 n (omega arith)

three_again : (n : ℕ) (rest : List ℕ) → n < 2 ^ 24 → three_at (bytes_high_first 3 n ++ rest) ≡ Ok (n, rest)
three_again n rest lt =
    let long : ltb (length (bytes_high_first 3 n ++ rest)) 3 ≡ false = le-ltb _ _ (omega (arith, length-append (bytes_high_first 3 n) rest)) in
    rw long (ap (λ (x : ℕ). done {A = ℕ × List ℕ} (x, rest)) (again_three n lt))

-- ---- lengths

headed : (b code : ℕ) (bytes x rest : List ℕ) → eqb b code ≡ true → bytes ≡ x ++ rest → (b ∷ bytes) ≡ (code ∷ x) ++ rest
headed b code bytes x rest is e = ap (λ (c : ℕ). c ∷ bytes) (eqb-true b code is) ∙ ap (λ (y : List ℕ). code ∷ y) e

three_takes : (bytes : List ℕ) (n : ℕ) (rest : List ℕ) → IsBytes bytes → three_at bytes ≡ Ok (n, rest) → (bytes ≡ bytes_high_first 3 n ++ rest) × (n < 2 ^ 24)
three_takes bytes n rest fits e =
    let g = guard_ok (ltb (length bytes) 3) Short (from_be_bytes w32 (0 ∷ take 3 bytes), drop 3 bytes) (n, rest) e in
    let long : 3 ≤ length bytes = ltb-false _ _ g.0 in
    let n-is : from_be_bytes w32 (0 ∷ take 3 bytes) ≡ n = ap (λ (p : ℕ × List ℕ). p.0) g.1 in
    let rest-is : drop 3 bytes ≡ rest = ap (λ (p : ℕ × List ℕ). p.1) g.1 in
    let small = IsBytes-take 3 bytes fits in
    let front : bytes_high_first 3 n ≡ take 3 bytes = ap (bytes_high_first 3) (sym n-is) ∙ back_three (take 3 bytes) (omega (arith, length-take 3 bytes)) small in
    let value : from_be_bytes w32 (0 ∷ take 3 bytes) < 2 ^ 24 = omega (arith, small 0, small 1, small 2) in
    (sym (take-append-drop 3 bytes) ∙ ap (λ (x : List ℕ). x ++ drop 3 bytes) (sym front) ∙ ap (λ (x : List ℕ). bytes_high_first 3 n ++ x) rest-is, rw (← n-is) value)

pub length_takes : (bytes : List ℕ) (n : ℕ) (rest : List ℕ) → IsBytes bytes → length_at bytes ≡ Ok (n, rest) → (text : List ℕ) × IsLength n text × (bytes ≡ text ++ rest)
unfolding length_at
length_takes [] n rest fits e = absurd cc
length_takes (b ∷ bytes) n rest fits e =
    let inside = IsBytes-rest b bytes fits in
    elim (chosen (ltb b 128) _ _ (Ok (n, rest)) e) [
      | inl p ↦
          let is = ok_is (b, bytes) (n, rest) p.1 in
          let same : b ≡ n = ap (λ (x : ℕ × List ℕ). x.0) is in
          (b ∷ [], (itself, omega (arith, ltb-true b 128 p.0), ap (λ (x : ℕ). x ∷ []) same), ap (λ (x : List ℕ). b ∷ x) (ap (λ (x : ℕ × List ℕ). x.1) is))
      | inr p ↦ elim (chosen (eqb b 129) _ _ (Ok (n, rest)) p.1) [
        | inl q ↦ let t = unsigned_takes w8 wide8 bytes n rest inside q.1 in (129 ∷ to_be_bytes w8 n, (one, t.1, refl), headed b 129 bytes (to_be_bytes w8 n) rest q.0 t.0)
        | inr q ↦ elim (chosen (eqb b 130) _ _ (Ok (n, rest)) q.1) [
          | inl r ↦ let t = unsigned_takes w16 wide16 bytes n rest inside r.1 in (130 ∷ to_be_bytes w16 n, (two, t.1, refl), headed b 130 bytes (to_be_bytes w16 n) rest r.0 t.0)
          | inr r ↦ elim (chosen (eqb b 131) _ _ (Ok (n, rest)) r.1) [
            | inl u ↦ let t = three_takes bytes n rest inside u.1 in (131 ∷ bytes_high_first 3 n, (three, t.1, refl), headed b 131 bytes (bytes_high_first 3 n) rest u.0 t.0)
            | inr u ↦ elim (chosen (eqb b 132) _ _ (Ok (n, rest)) u.1) [
              | inl v ↦ let t = unsigned_takes w32 wide32 bytes n rest inside v.1 in (132 ∷ to_be_bytes w32 n, (four, t.1, refl), headed b 132 bytes (to_be_bytes w32 n) rest v.0 t.0)
              | inr v ↦ let wrong = v.1 in absurd cc
            ]
          ]
        ]
      ]
    ]

again_in : (form : Form) (n : ℕ) (rest : List ℕ) → n < limit_of form → length_at (length_in form n ++ rest) ≡ Ok (n, rest)
unfolding length_at
again_in itself n rest lt = rw (lt-ltb n 128 lt) refl
again_in one n rest lt = unsigned_again w8 wide8 n rest lt
again_in two n rest lt = unsigned_again w16 wide16 n rest lt
again_in three n rest lt = three_again n rest lt
again_in four n rest lt = unsigned_again w32 wide32 n rest lt

pub length_again : (n : ℕ) (text rest : List ℕ) → IsLength n text → length_at (text ++ rest) ≡ Ok (n, rest)
length_again n text rest h = ap (λ (x : List ℕ). length_at (x ++ rest)) h.2 ∙ again_in h.0 n rest h.1

-- ---- strings

pub string_takes : (bytes s rest : List ℕ) → IsBytes bytes → string_at bytes ≡ Ok (s, rest) → (text : List ℕ) × IsString s text × (bytes ≡ text ++ rest)
unfolding string_at
string_takes bytes s rest fits e =
    let b = bind_ok (length_at bytes) (λ n. cond (ltb (length n.1) n.0) (Err Short) (Ok (take n.0 n.1, drop n.0 n.1))) (s, rest) e in
    let n = b.0 in
    let h = length_takes bytes n.0 n.1 fits b.1 in
    let g = guard_ok (ltb (length n.1) n.0) Short (take n.0 n.1, drop n.0 n.1) (s, rest) b.2 in
    let long : n.0 ≤ length n.1 = ltb-false _ _ g.0 in
    let s-is : take n.0 n.1 ≡ s = ap (λ (p : List ℕ × List ℕ). p.0) g.1 in
    let rest-is : drop n.0 n.1 ≡ rest = ap (λ (p : List ℕ × List ℕ). p.1) g.1 in
    let len : length (take n.0 n.1) ≡ n.0 = omega (arith, length-take n.0 n.1) in
    let len-is : n.0 ≡ length s = sym len ∙ ap length s-is in
    let small : IsBytes n.1 = IsBytes-behind h.0 n.1 (subst IsBytes h.2 fits) in
    let parts : n.1 ≡ s ++ rest = sym (take-append-drop n.0 n.1) ∙ ap (λ (x : List ℕ). x ++ drop n.0 n.1) s-is ∙ ap (λ (x : List ℕ). s ++ x) rest-is in
    let letters : AllByRecursion (λ x. x < 256) s = subst (AllByRecursion (λ x. x < 256)) s-is (IsBytes-all (take n.0 n.1) (IsBytes-take n.0 n.1 small)) in
    (h.0 ++ s, (letters, h.0, subst (λ (k : ℕ). IsLength k h.0) len-is h.1, refl), h.2 ∙ ap (λ (x : List ℕ). h.0 ++ x) parts ∙ sym (append_assoc h.0 s rest))

pub string_again : (s text rest : List ℕ) → IsString s text → string_at (text ++ rest) ≡ Ok (s, rest)
unfolding string_at
string_again s text rest h =
    let long : ltb (length (s ++ rest)) (length s) ≡ false = le-ltb _ _ (omega (arith, length-append s rest)) in
    let regrouped : text ++ rest ≡ h.1 ++ (s ++ rest) = ap (λ (x : List ℕ). x ++ rest) h.3 ∙ append_assoc h.1 s rest in
    ap string_at regrouped ∙ rw (length_again (length s) h.1 (s ++ rest) h.2, long, take_at s rest (length s) refl, drop_at s rest (length s) refl) refl

-- ---- signed numbers

pub record IsSignedWide (w : Width) : Type 0 where
  pub wide : IsWide w
  pub fits : (n : ℕ) → n < 256 ^ byte_len w → FitsSigned w (cast_signed w n)
  pub undo : (n : ℕ) → n < 256 ^ byte_len w → cast_unsigned w (cast_signed w n) ≡ n
  pub small : (z : ℤ) → FitsSigned w z → cast_unsigned w z < 256 ^ byte_len w
  pub redo : (z : ℤ) → FitsSigned w z → cast_signed w (cast_unsigned w z) ≡ z

pub signed8 : IsSignedWide w8
signed8 = record { wide = wide8; fits = λ n lt. omega (arith, ints); undo = λ n lt. of_z-to_z w8 n lt; small = λ z fits. omega (arith, ints); redo = λ z fits. to_z-of_z w8 z fits }

pub signed16 : IsSignedWide w16
signed16 = record { wide = wide16; fits = λ n lt. omega (arith, ints); undo = λ n lt. of_z-to_z w16 n lt; small = λ z fits. omega (arith, ints); redo = λ z fits. to_z-of_z w16 z fits }

pub signed32 : IsSignedWide w32
signed32 = record { wide = wide32; fits = λ n lt. omega (arith, ints); undo = λ n lt. of_z-to_z w32 n lt; small = λ z fits. omega (arith, ints); redo = λ z fits. to_z-of_z w32 z fits }

pub signed64 : IsSignedWide w64
signed64 = record { wide = wide64; fits = λ n lt. omega (arith, ints); undo = λ n lt. of_z-to_z w64 n lt; small = λ z fits. omega (arith, ints); redo = λ z fits. to_z-of_z w64 z fits }

pub signed_takes : (w : Width) (wide : IsSignedWide w) (bytes : List ℕ) (z : ℤ) (rest : List ℕ) → IsBytes bytes → signed_at w bytes ≡ Ok (z, rest) → (text : List ℕ) × IsSigned w z text × (bytes ≡ text ++ rest)
signed_takes w wide bytes z rest fits e =
    let b = bind_ok (unsigned_at w bytes) (λ n. Ok (cast_signed w n.0, n.1)) (z, rest) e in
    let t = unsigned_takes w wide.wide bytes b.0.0 b.0.1 fits b.1 in
    subst (λ (x : ℤ × List ℕ). (text : List ℕ) × IsSigned w x.0 text × (bytes ≡ text ++ x.1)) (ok_is (cast_signed w b.0.0, b.0.1) (z, rest) b.2)
    (to_be_bytes w b.0.0, (wide.fits b.0.0 t.1, ap (to_be_bytes w) (sym (wide.undo b.0.0 t.1))), t.0)

pub signed_again : (w : Width) (wide : IsSignedWide w) (z : ℤ) (text rest : List ℕ) → IsSigned w z text → signed_at w (text ++ rest) ≡ Ok (z, rest)
signed_again w wide z text rest h =
    let again : unsigned_at w (text ++ rest) ≡ Ok (cast_unsigned w z, rest) = ap (λ (x : List ℕ). unsigned_at w (x ++ rest)) h.1 ∙ unsigned_again w wide.wide (cast_unsigned w z) rest (wide.small z h.0) in
    ap (λ (r : Result (ℕ × List ℕ) ReadFault). r >>= λ n. Ok (cast_signed w n.0, n.1)) again ∙ ap (λ (x : ℤ). Ok (x, rest)) (wide.redo z h.0)
