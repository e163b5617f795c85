-- Fields that are read are those that stand there, and those that stand there are read.
use Rattle.std.proofs.Common.{◌≡◌, ℕ, zero, suc, ◌+◌, ◌^◌, ◌%◌, ◌<◌, ◌≤◌, Bool, true, false, cond, ltb, eqb, List, [], ◌∷◌, ◌++◌, length, take, drop, Option, Some, None, refl, sym, ap, subst, ◌∙◌, append_assoc, append-nil, arith, inl, inr, ◌⊎◌}
use Rattle.std.specs.Prelude.{option_map, ◌&&◌}
use Rattle.std.specs.Int.{Width, w8, w16, byte_len, from_be_bytes, to_be_bytes}
use Rattle.std.proofs.lemmas.Bool.{cases_lt, ltb-true, ltb-false, le-ltb, lt-ltb, eqb-true, eq-eqb}
use Rattle.std.proofs.lemmas.List.{take_at, drop_at, take-append-drop, length-append, length-take, length-drop, get_or-drop, get_or-take, get_or_past}
use Rattle.std.proofs.lemmas.Nat.{be_bytes_2, from_be_bytes-to_be_bytes_2}
use Rattle.acse_association.specs.Fields.{Field, Form, itself, one, two, form_limit, length_in, IsLength, IsField, IsFields, IsAarq, ◌>>=◌, number_at, length_at, counted_at, field_at, fields_within, fields_at, content_at, aarq_at}
use Rattle.acse_association.specs.Laws.{AreBytes, FieldsAreRead, AarqIsRead, OneAarq}

-- ---- bytes

pub AreBytes-drop : (n : ℕ) (bytes : List ℕ) → AreBytes bytes → AreBytes (drop n bytes)
AreBytes-drop n bytes h i = rw get_or-drop (h (n + i))

pub AreBytes-take : (n : ℕ) (bytes : List ℕ) → AreBytes bytes → AreBytes (take n bytes)
AreBytes-take n bytes h i =
    elim (cases_lt i n) [
      | inl lt ↦ rw (get_or-take n bytes i 0 lt) (h i)
      | inr le ↦ rw (get_or_past (take n bytes) i 0 (omega (arith, length-take n bytes))) (omega arith)
    ]

pub AreBytes-rest : (b : ℕ) (bytes : List ℕ) → AreBytes (b ∷ bytes) → AreBytes bytes
AreBytes-rest b bytes h i = h (suc i)

pub AreBytes-behind : (text rest : List ℕ) → AreBytes (text ++ rest) → AreBytes rest
AreBytes-behind [] rest h = h
AreBytes-behind (b ∷ text) rest h = AreBytes-behind text rest (λ i. h (suc i))

-- ---- steps

-- the value of a step that read something
pub bind_some : {A B : Type 0} (r : Option A) (f : A → Option B) (y : B) → (r >>= f) ≡ Some y → (x : A) × (r ≡ Some x) × (f x ≡ Some y)
bind_some (Some x) f y e = (x, refl, e)
bind_some None f y e = absurd cc

-- the value of what was mapped
map_some : {A B : Type 0} (f : A → B) (r : Option A) (y : B) → option_map f r ≡ Some y → (x : A) × (r ≡ Some x) × (f x ≡ y)
map_some f (Some x) y e = (x, refl, cc)
map_some f None y e = absurd cc

bind-map : {A B : Type 0} (r : Option A) (f : A → B) → (r >>= λ x. Some (f x)) ≡ option_map f r
bind-map (Some x) f = refl
bind-map None f = refl

-- a test that something passed
pub unless_some : {A : Type 0} (b : Bool) (x y : A) → cond b None (Some x) ≡ Some y → (b ≡ false) × (x ≡ y)
unless_some true x y e = absurd cc
unless_some false x y e = (refl, cc)

pub when_some : {A : Type 0} (b : Bool) (x y : A) → cond b (Some x) None ≡ Some y → (b ≡ true) × (x ≡ y)
when_some true x y e = (refl, cc)
when_some false x y e = absurd cc

chosen : {A : Type 0} (b : Bool) (x y z : A) → cond b x y ≡ z → ((b ≡ true) × (x ≡ z)) ⊎ ((b ≡ false) × (y ≡ z))
chosen true x y z e = inl (refl, e)
chosen false x y z e = inr (refl, e)

pub some_is : {A : Type 0} (x y : A) → Some x ≡ Some y → x ≡ y
some_is x y e = cc

-- ---- lengths

record IsWide (w : Width) : Type 0 where
  len : (n : ℕ) → length (to_be_bytes w n) ≡ byte_len w
  back : (bytes : List ℕ) → length bytes ≡ byte_len w → AreBytes bytes → to_be_bytes w (from_be_bytes w bytes) ≡ bytes
  again : (n : ℕ) → n < 256 ^ byte_len w → from_be_bytes w (to_be_bytes w n) ≡ n
  below : (bytes : List ℕ) → AreBytes bytes → from_be_bytes w bytes < 256 ^ byte_len w

back8 : (bytes : List ℕ) → length bytes ≡ 1 → AreBytes bytes → to_be_bytes w8 (from_be_bytes w8 bytes) ≡ bytes
back8 [] len fits = absurd (omega arith)
back8 (b ∷ []) len fits = let small : b < 256 = fits 0 in let same : b % 256 ≡ b = omega arith in ap (λ (n : ℕ). n ∷ []) same
back8 (b ∷ c ∷ bytes) len fits = absurd (omega arith)

again8 : (n : ℕ) → n < 256 → from_be_bytes w8 (to_be_bytes w8 n) ≡ n
again8 n lt = omega arith

wide8 : IsWide w8
wide8 = record { len = λ n. refl; back = back8; again = again8; below = λ bytes fits. fits 0 }

wide16 : IsWide w16
wide16 = record {
  len = λ n. refl;
  back = λ bytes len fits. be_bytes_2 bytes _ len fits refl;
  again = λ n lt. from_be_bytes-to_be_bytes_2 n lt;
  below = λ bytes fits. omega (arith, fits 0, fits 1);
}

-- the bytes of the number stand in front of the rest
number_takes : (w : Width) (wide : IsWide w) (bytes : List ℕ) (n : ℕ) (rest : List ℕ) → AreBytes bytes → number_at w bytes ≡ Some (n, rest) → (bytes ≡ to_be_bytes w n ++ rest) × (n < 256 ^ byte_len w)
number_takes w wide bytes n rest fits e =
    let g = unless_some (ltb (length bytes) (byte_len w)) (from_be_bytes w (take (byte_len w) bytes), drop (byte_len w) bytes) (n, rest) e in
    let long : byte_len w ≤ length bytes = ltb-false _ _ g.0 in
    let n-is : from_be_bytes w (take (byte_len w) bytes) ≡ n = ap (λ (p : ℕ × List ℕ). p.0) g.1 in
    let rest-is : drop (byte_len w) bytes ≡ rest = ap (λ (p : ℕ × List ℕ). p.1) g.1 in
    let front : to_be_bytes w n ≡ take (byte_len w) bytes = rw (← n-is) (wide.back (take (byte_len w) bytes) (omega (arith, length-take (byte_len w) bytes)) (AreBytes-take (byte_len w) bytes fits)) in
    (rw (front, ← rest-is) (sym (take-append-drop (byte_len w) bytes)), rw (← n-is) (wide.below (take (byte_len w) bytes) (AreBytes-take (byte_len w) bytes fits)))

number_again : (w : Width) (wide : IsWide w) (n : ℕ) (rest : List ℕ) → n < 256 ^ byte_len w → number_at w (to_be_bytes w n ++ rest) ≡ Some (n, rest)
number_again w wide n rest lt =
    let len = wide.len n in
    let long : ltb (length (to_be_bytes w n ++ rest)) (byte_len w) ≡ false = le-ltb _ _ (omega (arith, length-append (to_be_bytes w n) rest)) in
    rw (long, take_at (to_be_bytes w n) rest (byte_len w) len, drop_at (to_be_bytes w n) rest (byte_len w) len, wide.again n lt) refl

headed : (b code : ℕ) (bytes x rest : List ℕ) → eqb b code ≡ true → bytes ≡ x ++ rest → (b ∷ bytes) ≡ (code ∷ x) ++ rest
headed b code bytes x rest is e = ap (λ (c : ℕ). c ∷ bytes) (eqb-true b code is) ∙ ap (λ (y : List ℕ). code ∷ y) e

length_takes : (bytes : List ℕ) (n : ℕ) (rest : List ℕ) → AreBytes bytes → length_at bytes ≡ Some (n, rest) → (text : List ℕ) × IsLength n text × (bytes ≡ text ++ rest)
unfolding length_at
length_takes [] n rest fits e = absurd cc
length_takes (b ∷ bytes) n rest fits e =
    let inside = AreBytes-rest b bytes fits in
    elim (chosen (ltb b 128) _ _ (Some (n, rest)) e) [
      | inl p ↦
          let is = some_is (b, bytes) (n, rest) p.1 in
          let same : b ≡ n = ap (λ (x : ℕ × List ℕ). x.0) is in
          (b ∷ [], (itself, omega (arith, ltb-true b 128 p.0), ap (λ (x : ℕ). x ∷ []) same), ap (λ (x : List ℕ). b ∷ x) (ap (λ (x : ℕ × List ℕ). x.1) is))
      | inr p ↦ elim (chosen (eqb b 129) _ _ (Some (n, rest)) p.1) [
        | inl q ↦ let t = number_takes w8 wide8 bytes n rest inside q.1 in (129 ∷ to_be_bytes w8 n, (one, t.1, refl), headed b 129 bytes (to_be_bytes w8 n) rest q.0 t.0)
        | inr q ↦ elim (chosen (eqb b 130) _ _ (Some (n, rest)) q.1) [
          | inl r ↦ let t = number_takes w16 wide16 bytes n rest inside r.1 in (130 ∷ to_be_bytes w16 n, (two, t.1, refl), headed b 130 bytes (to_be_bytes w16 n) rest r.0 t.0)
          | inr r ↦ let wrong = r.1 in absurd cc
        ]
      ]
    ]

again_in : (form : Form) (n : ℕ) (rest : List ℕ) → n < form_limit form → length_at (length_in form n ++ rest) ≡ Some (n, rest)
unfolding length_at
again_in itself n rest lt = rw (lt-ltb n 128 lt) refl
again_in one n rest lt = number_again w8 wide8 n rest lt
again_in two n rest lt = number_again w16 wide16 n rest lt

length_again : (n : ℕ) (text rest : List ℕ) → IsLength n text → length_at (text ++ rest) ≡ Some (n, rest)
length_again n text rest h = ap (λ (x : List ℕ). length_at (x ++ rest)) h.2 ∙ again_in h.0 n rest h.1

-- ---- contents

counted_takes : (bytes content rest : List ℕ) → AreBytes bytes → counted_at bytes ≡ Some (content, rest) → (head : List ℕ) × IsLength (length content) head × (bytes ≡ head ++ (content ++ rest))
unfolding counted_at
counted_takes bytes content rest fits e =
    let b = bind_some (length_at bytes) (λ n. cond (ltb (length n.1) n.0) None (Some (take n.0 n.1, drop n.0 n.1))) (content, rest) e in
    let n = b.0 in
    let h = length_takes bytes n.0 n.1 fits b.1 in
    let g = unless_some (ltb (length n.1) n.0) (take n.0 n.1, drop n.0 n.1) (content, rest) b.2 in
    let long : n.0 ≤ length n.1 = ltb-false _ _ g.0 in
    let content-is : take n.0 n.1 ≡ content = ap (λ (p : List ℕ × List ℕ). p.0) g.1 in
    let rest-is : drop n.0 n.1 ≡ rest = ap (λ (p : List ℕ × List ℕ). p.1) g.1 in
    let len : length (take n.0 n.1) ≡ n.0 = omega (arith, length-take n.0 n.1) in
    let len-is : n.0 ≡ length content = sym len ∙ ap length content-is in
    let parts : n.1 ≡ content ++ rest = sym (take-append-drop n.0 n.1) ∙ ap (λ (x : List ℕ). x ++ drop n.0 n.1) content-is ∙ ap (λ (x : List ℕ). content ++ x) rest-is in
    (h.0, subst (λ (k : ℕ). IsLength k h.0) len-is h.1, h.2 ∙ ap (λ (x : List ℕ). h.0 ++ x) parts)

counted_again : (content head rest : List ℕ) → IsLength (length content) head → counted_at (head ++ (content ++ rest)) ≡ Some (content, rest)
unfolding counted_at
counted_again content head rest h =
    let long : ltb (length (content ++ rest)) (length content) ≡ false = le-ltb _ _ (omega (arith, length-append content rest)) in
    rw (length_again (length content) head (content ++ rest) h, long, take_at content rest (length content) refl, drop_at content rest (length content) refl) refl

-- ---- fields

pub field_takes : (bytes : List ℕ) (field : Field) (rest : List ℕ) → AreBytes bytes → field_at bytes ≡ Some (field, rest) → (text : List ℕ) × IsField field text × (bytes ≡ text ++ rest)
unfolding field_at
field_takes [] field rest fits e = absurd cc
field_takes (tag ∷ bytes) field rest fits e =
    let m = map_some (λ (c : List ℕ × List ℕ). let f : Field = record { tag = tag; content = c.0 } in (f, c.1)) (counted_at bytes) (field, rest) e in
    let h = counted_takes bytes m.0.0 m.0.1 (AreBytes-rest tag bytes fits) m.1 in
    let made : Field = record { tag = tag; content = m.0.0 } in
    subst (λ (x : Field × List ℕ). (text : List ℕ) × IsField x.0 text × ((tag ∷ bytes) ≡ text ++ x.1)) m.2
    (tag ∷ (h.0 ++ m.0.0), (h.0, h.1, refl), ap (λ (x : List ℕ). tag ∷ x) (h.2 ∙ sym (append_assoc h.0 m.0.0 m.0.1)))

pub field_again : (field : Field) (text rest : List ℕ) → IsField field text → field_at (text ++ rest) ≡ Some (field, rest)
unfolding field_at
field_again field text rest h =
    let regrouped : text ++ rest ≡ field.tag ∷ (h.0 ++ (field.content ++ rest)) = ap (λ (x : List ℕ). x ++ rest) h.2 ∙ ap (λ (x : List ℕ). field.tag ∷ x) (append_assoc h.0 field.content rest) in
    ap field_at regrouped ∙ ap (λ (r : Option (List ℕ × List ℕ)). option_map (λ c. (let f : Field = record { tag = field.tag; content = c.0 } in f, c.1)) r) (counted_again field.content h.0 rest h.1)

-- a field takes bytes
field-long : (field : Field) (text : List ℕ) → IsField field text → 1 ≤ length text
field-long field text h = omega (arith, ap length h.2)

pub fields_takes : (n : ℕ) (bytes : List ℕ) (fields : List Field) → AreBytes bytes → fields_within n bytes ≡ Some fields → IsFields fields bytes
unfolding fields_within
fields_takes zero [] fields fits e = subst (λ (x : List Field). IsFields x []) (some_is [] fields e) refl
fields_takes (suc n) [] fields fits e = subst (λ (x : List Field). IsFields x []) (some_is [] fields e) refl
fields_takes zero (b ∷ bytes) fields fits e = absurd cc
fields_takes (suc n) (b ∷ bytes) fields fits e =
    let first = bind_some (field_at (b ∷ bytes)) (λ first. fields_within n first.1 >>= λ others. Some (first.0 ∷ others)) fields e in
    let others = bind_some (fields_within n first.0.1) (λ others. Some (first.0.0 ∷ others)) fields first.2 in
    let h = field_takes (b ∷ bytes) first.0.0 first.0.1 fits first.1 in
    let inside = AreBytes-behind h.0 first.0.1 (subst AreBytes h.2 fits) in
    subst (λ (x : List Field). IsFields x (b ∷ bytes)) (some_is (first.0.0 ∷ others.0) fields others.2)
    (h.0, first.0.1, h.1, fields_takes n first.0.1 others.0 inside others.1, h.2)

-- the reading of bytes that are not empty, in one step
within-step : (n : ℕ) (bytes : List ℕ) → 1 ≤ length bytes → fields_within (suc n) bytes ≡ (field_at bytes >>= λ first. fields_within n first.1 >>= λ others. Some (first.0 ∷ others))
unfolding fields_within
within-step n [] long = absurd (omega arith)
within-step n (b ∷ bytes) long = refl

within-none : (n : ℕ) → fields_within n [] ≡ Some []
unfolding fields_within
within-none zero = refl
within-none (suc n) = refl

pub fields_again : (fields : List Field) (bytes : List ℕ) (n : ℕ) → IsFields fields bytes → length bytes ≤ n → fields_within n bytes ≡ Some fields
fields_again [] bytes n h le = ap (fields_within n) h ∙ within-none n
fields_again (field ∷ fields) bytes zero h le =
    absurd (omega (arith, field-long field h.0 h.2, length-append h.0 h.1, ap length h.4))
fields_again (field ∷ fields) bytes (suc n) h le =
    let long = field-long field h.0 h.2 in
    let sizes = length-append h.0 h.1 in
    let whole = ap length h.4 in
    let others = fields_again fields h.1 n h.3 (omega arith) in
    let first : field_at bytes ≡ Some (field, h.1) = ap field_at h.4 ∙ field_again field h.0 h.1 h.2 in
    within-step n bytes (omega arith) ∙ rw (first, others) refl

-- ---- what is behind is shorter

number-shorter : (w : Width) (bytes : List ℕ) (n : ℕ) (rest : List ℕ) → number_at w bytes ≡ Some (n, rest) → length rest ≤ length bytes
number-shorter w bytes n rest e =
    let g = unless_some (ltb (length bytes) (byte_len w)) (from_be_bytes w (take (byte_len w) bytes), drop (byte_len w) bytes) (n, rest) e in
    let rest-is : drop (byte_len w) bytes ≡ rest = ap (λ (p : ℕ × List ℕ). p.1) g.1 in
    rw (← rest-is) (omega (arith, length-drop (byte_len w) bytes))

length-shorter : (bytes : List ℕ) (n : ℕ) (rest : List ℕ) → length_at bytes ≡ Some (n, rest) → length rest ≤ length bytes
unfolding length_at
length-shorter [] n rest e = absurd cc
length-shorter (b ∷ bytes) n rest e =
    elim (chosen (ltb b 128) _ _ (Some (n, rest)) e) [
      | inl p ↦ let is : bytes ≡ rest = ap (λ (x : ℕ × List ℕ). x.1) (some_is (b, bytes) (n, rest) p.1) in rw (← is) (omega arith)
      | inr p ↦ elim (chosen (eqb b 129) _ _ (Some (n, rest)) p.1) [
        | inl q ↦ let h = number-shorter w8 bytes n rest q.1 in omega arith
        | inr q ↦ elim (chosen (eqb b 130) _ _ (Some (n, rest)) q.1) [
          | inl r ↦ let h = number-shorter w16 bytes n rest r.1 in omega arith
          | inr r ↦ let wrong = r.1 in absurd cc
        ]
      ]
    ]

field-shorter : (bytes : List ℕ) (field : Field) (rest : List ℕ) → field_at bytes ≡ Some (field, rest) → length rest < length bytes
unfolding field_at counted_at
field-shorter [] field rest e = absurd cc
field-shorter (tag ∷ bytes) field rest e =
    let m = map_some (λ (c : List ℕ × List ℕ). let f : Field = record { tag = tag; content = c.0 } in (f, c.1)) (counted_at bytes) (field, rest) e in
    let b = bind_some (length_at bytes) (λ n. cond (ltb (length n.1) n.0) None (Some (take n.0 n.1, drop n.0 n.1))) m.0 m.1 in
    let g = unless_some (ltb (length b.0.1) b.0.0) (take b.0.0 b.0.1, drop b.0.0 b.0.1) m.0 b.2 in
    let rest-is : drop b.0.0 b.0.1 ≡ rest = ap (λ (p : List ℕ × List ℕ). p.1) g.1 ∙ ap (λ (x : Field × List ℕ). x.1) m.2 in
    let short = length-shorter bytes b.0.0 b.0.1 b.1 in
    rw (← rest-is) (omega (arith, length-drop b.0.0 b.0.1))

-- reading doesn't change with the number of fields that may come, where it is large enough
pub within-enough : (n m : ℕ) (bytes : List ℕ) → length bytes ≤ n → length bytes ≤ m → fields_within n bytes ≡ fields_within m bytes
within-enough n m [] a b = within-none n ∙ sym (within-none m)
within-enough zero m (b ∷ bytes) h k = absurd (omega arith)
within-enough (suc n) zero (b ∷ bytes) h k = absurd (omega arith)
within-enough (suc n) (suc m) (b ∷ bytes) h k =
    let at : (r : Option (Field × List ℕ)) → field_at (b ∷ bytes) ≡ r → (r >>= λ first. fields_within n first.1 >>= λ others. Some (first.0 ∷ others)) ≡ (r >>= λ first. fields_within m first.1 >>= λ others. Some (first.0 ∷ others)) =
    λ r. elim r as (λ q. field_at (b ∷ bytes) ≡ q → (q >>= λ first. fields_within n first.1 >>= λ others. Some (first.0 ∷ others)) ≡ (q >>= λ first. fields_within m first.1 >>= λ others. Some (first.0 ∷ others))) [
      | None ↦ λ e. refl
      | Some x ↦ λ e. ap (λ (o : Option (List Field)). o >>= λ others. Some (x.0 ∷ others)) (within-enough n m x.1 (omega (arith, field-shorter (b ∷ bytes) x.0 x.1 e)) (omega (arith, field-shorter (b ∷ bytes) x.0 x.1 e)))
    ] in
    within-step n (b ∷ bytes) (omega arith) ∙ at (field_at (b ∷ bytes)) refl ∙ sym (within-step m (b ∷ bytes) (omega arith))

-- ---- one field, and an AARQ

pub both : (a b : Bool) → (a && b) ≡ true → (a ≡ true) × (b ≡ true)
both true true e = (refl, refl)
both true false e = absurd cc
both false b e = absurd cc

no-bytes : (bytes : List ℕ) → eqb (length bytes) 0 ≡ true → bytes ≡ []
no-bytes [] e = refl
no-bytes (b ∷ bytes) e = absurd (omega (arith, eqb-true _ _ e))

pub content_takes : (tag : ℕ) (bytes content : List ℕ) → AreBytes bytes → content_at tag bytes ≡ Some content → IsField (record { tag = tag; content = content }) bytes
unfolding content_at
content_takes tag bytes content fits e =
    let b = bind_some (field_at bytes) (λ field. cond (eqb field.0.tag tag && eqb (length field.1) 0) (Some field.0.content) None) content e in
    let g = when_some (eqb b.0.0.tag tag && eqb (length b.0.1) 0) b.0.0.content content b.2 in
    let tests = both _ _ g.0 in
    let h = field_takes bytes b.0.0 b.0.1 fits b.1 in
    let whole : bytes ≡ h.0 ++ [] = h.2 ∙ ap (λ (x : List ℕ). h.0 ++ x) (no-bytes b.0.1 tests.1) in
    let all : bytes ≡ h.0 = whole ∙ append-nil h.0 in
    let in-tag : IsField (record { tag = tag; content = b.0.0.content }) bytes = (h.1.0, h.1.1, all ∙ h.1.2 ∙ ap (λ (t : ℕ). t ∷ (h.1.0 ++ b.0.0.content)) (eqb-true _ _ tests.0)) in
    subst (λ (x : List ℕ). IsField (record { tag = tag; content = x }) bytes) g.1 in-tag

pub content_again : (tag : ℕ) (bytes content : List ℕ) → IsField (record { tag = tag; content = content }) bytes → content_at tag bytes ≡ Some content
unfolding content_at
content_again tag bytes content h =
    let field : Field = record { tag = tag; content = content } in
    let read : field_at bytes ≡ Some (field, []) = ap field_at (sym (append-nil bytes)) ∙ field_again field bytes [] h in
    rw (read, eq-eqb tag tag refl) refl

aarq_takes : (fields : List Field) (bytes : List ℕ) → AreBytes bytes → aarq_at bytes ≡ Some fields → IsAarq fields bytes
aarq_takes fields bytes fits e =
    let b = bind_some (content_at 0x60 bytes) fields_at fields e in
    let h = content_takes 0x60 bytes b.0 fits b.1 in
    let inside = AreBytes-behind h.0 b.0 (AreBytes-rest 0x60 (h.0 ++ b.0) (subst AreBytes h.2 fits)) in
    (b.0, fields_takes (length b.0) b.0 fields inside b.2, h)

aarq_again : (fields : List Field) (bytes : List ℕ) → IsAarq fields bytes → aarq_at bytes ≡ Some fields
aarq_again fields bytes h = rw (content_again 0x60 bytes h.0 h.2) (fields_again fields h.0 (length h.0) h.1 (omega arith))

-- ---- the laws

pub fields_are_read : FieldsAreRead
fields_are_read = λ fields bytes fits. (fields_takes (length bytes) bytes fields fits, λ h. fields_again fields bytes (length bytes) h (omega arith))

pub aarq_is_read : AarqIsRead
aarq_is_read = λ fields bytes fits. (aarq_takes fields bytes fits, aarq_again fields bytes)

pub one_aarq : OneAarq
one_aarq = λ fields others bytes h k. some_is fields others (sym (aarq_again fields bytes h) ∙ aarq_again others bytes k)

-- ---- one more field

-- what is read of bytes that are not empty
pub fields-more : (bytes : List ℕ) (field : Field) (behind : List ℕ) → field_at bytes ≡ Some (field, behind) → fields_at bytes ≡ option_map (λ fields. field ∷ fields) (fields_at behind)
fields-more [] field behind e = absurd (omega (arith, field-shorter [] field behind e))
fields-more (b ∷ bytes) field behind e =
    let short = field-shorter (b ∷ bytes) field behind e in
    let same = within-enough (length bytes) (length behind) behind (omega arith) (omega arith) in
    within-step (length bytes) (b ∷ bytes) (omega arith) ∙ rw (e, same) (bind-map (fields_at behind) (λ fields. field ∷ fields))

pub fields-stop : (bytes : List ℕ) → 1 ≤ length bytes → field_at bytes ≡ None → fields_at bytes ≡ None
fields-stop [] long e = absurd (omega arith)
fields-stop (b ∷ bytes) long e = within-step (length bytes) (b ∷ bytes) long ∙ rw e refl

pub fields-none : fields_at [] ≡ Some []
fields-none = within-none 0
