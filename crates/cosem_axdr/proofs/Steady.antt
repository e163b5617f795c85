-- Reading goes from left to right: what is taken, and what is wrong, never depends on the bytes behind it.
use Rattle.std.proofs.Common.{◌≡◌, ◌≢◌, ◌⊎◌, inl, inr, ℕ, zero, suc, ◌-◌, ◌<◌, ◌≤◌, Bool, true, false, cond, not, ltb, eqb, false-eqb, List, [], ◌∷◌, ◌++◌, length, take, drop, replicate, All, Option, Some, None, Result, Ok, Err, refl, sym, ap, subst, ◌∙◌, append_assoc, append-nil, arith}
use Rattle.std.specs.Int.{Width, w8, w16, w32, w64, byte_len, from_be_bytes, cast_signed}
use Rattle.std.proofs.lemmas.Bool.{cases_lt, ltb-true, ltb-false, le-ltb}
use Rattle.std.proofs.lemmas.List.{take_at, drop_at, drop_all, take-append-drop, length-append, length-take, length-replicate, nil_from_length}
use Rattle.std.proofs.lemmas.List.Elements.{All-nil, All-cons, All-append, All-replicate}
use Rattle.cosem_data.specs.Tree.{Tree, null_data, array, structure, boolean, double_long, double_long_unsigned, octet_string, visible_string, integer, long, unsigned, long_unsigned, long64, long64_unsigned, enumerated, trees}
use Rattle.cosem_data.specs.Kinds.{tag_of}
use Rattle.cosem_data.specs.declared.kind.Kind.{Kind}
use Rattle.cosem_data.specs.declared.kind.Kind.TheVariants.{NullData, Array, Structure, Boolean, DoubleLong, DoubleLongUnsigned, OctetString, VisibleString, Integer, Long, Unsigned, LongUnsigned, Long64, Long64Unsigned, Enumerated}
use Rattle.cosem_axdr.specs.declared.fault.ReadFault.{ReadFault}
use Rattle.cosem_axdr.specs.declared.fault.ReadFault.TheVariants.{Short, UnknownTag, TooDeep, Length}
use Rattle.cosem_axdr.specs.Reading.{◌>>=◌, Reader, unsigned_at, signed_at, three_at, length_at, string_at, kind_of_tag, parts_at, read_map, content_at, kind_content_at, value_with, items_at, data_at}
use Rattle.cosem_axdr.specs.Laws.{IsBadByte}
use Rattle.cosem_axdr.proofs.Values.{tag_takes}
use Rattle.cosem_axdr.proofs.Numbers.{bind_ok, guard_ok, chosen, done, ok_is}

abbrev pub AreBytes : List ℕ → Type 0
AreBytes bytes = All (λ b. b < 256) bytes

-- what was taken stands in front, and is taken whatever follows it
pub record Takes {A : Type 0} (r : Reader A) (bytes : List ℕ) (x : A) (rest : List ℕ) : Type 0 where
  pub text : List ℕ
  pub front : bytes ≡ text ++ rest
  pub again : (more : List ℕ) → r (text ++ more) ≡ Ok (x, more)

-- a first bad byte
pub record Faults {A : Type 0} (r : Reader A) (bytes : List ℕ) (fault : ReadFault) : Type 0 where
  pub before : List ℕ
  pub byte : ℕ
  pub behind : List ℕ
  pub is : bytes ≡ before ++ byte ∷ behind
  pub bad : IsBadByte fault byte
  pub short : r before ≡ Err Short
  pub again : (more : List ℕ) → r (before ++ byte ∷ more) ≡ Err fault

-- bytes that complete what is there
pub record Completes {A : Type 0} (r : Reader A) (bytes : List ℕ) : Type 0 where
  pub more : List ℕ
  pub are_bytes : AreBytes more
  pub value : A
  pub read : r (bytes ++ more) ≡ Ok (value, [])

pub record IsSteady {A : Type 0} (r : Reader A) : Type 0 where
  pub takes : (bytes : List ℕ) (x : A) (rest : List ℕ) → r bytes ≡ Ok (x, rest) → Takes r bytes x rest
  pub faults : (bytes : List ℕ) (fault : ReadFault) → r bytes ≡ Err fault → fault ≢ Short → Faults r bytes fault
  pub completes : (bytes : List ℕ) → r bytes ≡ Err Short → Completes r bytes

-- the byte in front is bad
record IsBadAt {A : Type 0} (byte : ℕ) (r : Reader A) : Type 0 where
  fault : ReadFault
  other : fault ≢ Short
  bad : IsBadByte fault byte
  always : (bytes : List ℕ) → r bytes ≡ Err fault

-- how reading goes on behind a byte
abbrev IsGoodAt : {A : Type 0} → ℕ → Reader A → Type 0
IsGoodAt byte r = IsSteady r ⊎ IsBadAt byte r

abbrev failed : {A : Type 0} → ReadFault → Result A ReadFault
failed f = Err f

err_is : {A : Type 0} (f g : ReadFault) → failed {A = A} f ≡ failed g → f ≡ g
err_is f g e = cc

is_short : (f : ReadFault) → (f ≡ Short) ⊎ (f ≢ Short)
is_short Short = inl refl
is_short _ = inr (λ e. cc)

same_steady : {A : Type 0} (r s : Reader A) → ((bytes : List ℕ) → r bytes ≡ s bytes) → IsSteady r → IsSteady s
same_steady r s same h = record {
  takes = λ bytes x rest e. let t = h.takes bytes x rest (same bytes ∙ e) in record { text = t.text; front = t.front; again = λ more. sym (same (t.text ++ more)) ∙ t.again more };
  faults = λ bytes fault e other. let t = h.faults bytes fault (same bytes ∙ e) other in record { before = t.before; byte = t.byte; behind = t.behind; is = t.is; bad = t.bad; short = sym (same t.before) ∙ t.short; again = λ more. sym (same (t.before ++ t.byte ∷ more)) ∙ t.again more };
  completes = λ bytes e. let t = h.completes bytes (same bytes ∙ e) in record { more = t.more; are_bytes = t.are_bytes; value = t.value; read = sym (same (bytes ++ t.more)) ∙ t.read };
}

-- ---- from nothing

from_nothing : {A : Type 0} (r : Reader A) → IsSteady r → (read : Result (A × List ℕ) ReadFault) → r [] ≡ read → Completes r []
from_nothing r h (Ok x) is =
    let t = h.takes [] x.0 x.1 is in
    let none : x.1 ≡ [] = nil_from_length x.1 (omega (arith, ap length t.front, length-append t.text x.1)) in
    record { more = []; are_bytes = All-nil (λ b. b < 256); value = x.0; read = is ∙ ap (λ (rest : List ℕ). done (x.0, rest)) none }
from_nothing r h (Err f) is =
    elim (is_short f) [
      | inl short ↦ h.completes [] (is ∙ ap (λ (g : ReadFault). Err g) short)
      | inr other ↦ let t = h.faults [] f is other in absurd (omega (arith, ap length t.is, length-append t.before (t.byte ∷ t.behind)))
    ]

-- ---- a value that takes no bytes

nothing_steady : {A : Type 0} (x : A) → IsSteady (λ bytes. Ok (x, bytes))
nothing_steady {A} x = record {
  takes = λ bytes y rest e. let is = ok_is (x, bytes) (y, rest) e in record { text = []; front = ap (λ (p : A × List ℕ). p.1) is; again = λ more. ap (λ (p : A × List ℕ). done {A = A × List ℕ} (p.0, more)) is };
  faults = λ bytes fault e other. absurd cc;
  completes = λ bytes e. absurd cc;
}

-- ---- one after the other

abbrev seq : {A B : Type 0} → Reader A → (A → Reader B) → Reader B
seq r k bytes = r bytes >>= λ x. k x.0 x.1

seq_takes : {A B : Type 0} (r : Reader A) (k : A → Reader B) → IsSteady r → ((x : A) → IsSteady (k x)) → (bytes : List ℕ) (y : B) (rest : List ℕ) → seq r k bytes ≡ Ok (y, rest) → Takes (seq r k) bytes y rest
seq_takes {A} {B} r k first then bytes y rest e =
    let a = bind_ok (r bytes) (λ x. k x.0 x.1) (y, rest) e in
    let one = first.takes bytes a.0.0 a.0.1 a.1 in
    let two = (then a.0.0).takes a.0.1 y rest a.2 in
    record {
      text = one.text ++ two.text;
      front = one.front ∙ ap (λ (z : List ℕ). one.text ++ z) two.front ∙ sym (append_assoc one.text two.text rest);
      again = λ more. ap (seq r k) (append_assoc one.text two.text more) ∙ ap (λ (q : Result (A × List ℕ) ReadFault). q >>= λ x. k x.0 x.1) (one.again (two.text ++ more)) ∙ two.again more;
    }

seq_faults : {A B : Type 0} (r : Reader A) (k : A → Reader B) → IsSteady r → ((x : A) → IsSteady (k x)) → (bytes : List ℕ) (fault : ReadFault) (read : Result (A × List ℕ) ReadFault) → r bytes ≡ read
    → (read >>= λ x. k x.0 x.1) ≡ Err fault → fault ≢ Short → Faults (seq r k) bytes fault
seq_faults {A} r k first then bytes fault (Ok x) is e other =
    let one = first.takes bytes x.0 x.1 is in
    let two = (then x.0).faults x.1 fault e other in
    record {
      before = one.text ++ two.before;
      byte = two.byte;
      behind = two.behind;
      is = one.front ∙ ap (λ (z : List ℕ). one.text ++ z) two.is ∙ sym (append_assoc one.text two.before (two.byte ∷ two.behind));
      bad = two.bad;
      short = ap (λ (q : Result (A × List ℕ) ReadFault). q >>= λ x. k x.0 x.1) (one.again two.before) ∙ two.short;
      again = λ more. ap (seq r k) (append_assoc one.text two.before (two.byte ∷ more)) ∙ ap (λ (q : Result (A × List ℕ) ReadFault). q >>= λ x. k x.0 x.1) (one.again (two.before ++ two.byte ∷ more)) ∙ two.again more;
    }
seq_faults {A} {B} r k first then bytes fault (Err f) is e other =
    let one = first.faults bytes fault (is ∙ ap (λ (g : ReadFault). Err g) (err_is {A = B × List ℕ} f fault e)) other in
    record {
      before = one.before;
      byte = one.byte;
      behind = one.behind;
      is = one.is;
      bad = one.bad;
      short = ap (λ (q : Result (A × List ℕ) ReadFault). q >>= λ x. k x.0 x.1) one.short;
      again = λ more. ap (λ (q : Result (A × List ℕ) ReadFault). q >>= λ x. k x.0 x.1) (one.again more);
    }

seq_completes : {A B : Type 0} (r : Reader A) (k : A → Reader B) → IsSteady r → ((x : A) → IsSteady (k x)) → (bytes : List ℕ) (read : Result (A × List ℕ) ReadFault) → r bytes ≡ read
    → (read >>= λ x. k x.0 x.1) ≡ Err Short → Completes (seq r k) bytes
seq_completes {A} r k first then bytes (Ok x) is e =
    let one = first.takes bytes x.0 x.1 is in
    let two = (then x.0).completes x.1 e in
    record {
      more = two.more;
      are_bytes = two.are_bytes;
      value = two.value;
      read =
          ap (λ (z : List ℕ). seq r k (z ++ two.more)) one.front ∙ ap (seq r k) (append_assoc one.text x.1 two.more)
          ∙ ap (λ (q : Result (A × List ℕ) ReadFault). q >>= λ x. k x.0 x.1) (one.again (x.1 ++ two.more)) ∙ two.read;
    }
seq_completes {A} {B} r k first then bytes (Err f) is e =
    let one = first.completes bytes (is ∙ ap (λ (g : ReadFault). Err g) (err_is {A = B × List ℕ} f Short e)) in
    let taken = first.takes (bytes ++ one.more) one.value [] one.read in
    let two = from_nothing (k one.value) (then one.value) (k one.value []) refl in
    record {
      more = one.more ++ two.more;
      are_bytes = All-append (λ b. b < 256) one.more two.more one.are_bytes two.are_bytes;
      value = two.value;
      read =
          ap (seq r k) (sym (append_assoc bytes one.more two.more)) ∙ ap (λ (z : List ℕ). seq r k (z ++ two.more)) (taken.front ∙ append-nil taken.text)
          ∙ ap (λ (q : Result (A × List ℕ) ReadFault). q >>= λ x. k x.0 x.1) (taken.again two.more) ∙ two.read;
    }

seq_steady : {A B : Type 0} (r : Reader A) (k : A → Reader B) → IsSteady r → ((x : A) → IsSteady (k x)) → IsSteady (seq r k)
seq_steady r k first then = record {
  takes = seq_takes r k first then;
  faults = λ bytes fault e other. seq_faults r k first then bytes fault (r bytes) refl e other;
  completes = λ bytes e. seq_completes r k first then bytes (r bytes) refl e;
}

map_steady : {A B : Type 0} (f : A → B) (r : Reader A) → IsSteady r → IsSteady (λ bytes. read_map f (r bytes))
map_steady f r h = seq_steady r (λ x bytes. Ok (f x, bytes)) h (λ x. nothing_steady (f x))

-- ---- so many bytes

abbrev fixed : {A : Type 0} → ℕ → (List ℕ → A) → Reader A
fixed n f bytes = cond (ltb (length bytes) n) (Err Short) (Ok (f (take n bytes), drop n bytes))

fixed_takes : {A : Type 0} (n : ℕ) (f : List ℕ → A) (bytes : List ℕ) (x : A) (rest : List ℕ) → fixed n f bytes ≡ Ok (x, rest) → Takes (fixed n f) bytes x rest
fixed_takes {A} n f bytes x rest e =
    let g = guard_ok (ltb (length bytes) n) Short (f (take n bytes), drop n bytes) (x, rest) e in
    let long : n ≤ length bytes = ltb-false _ _ g.0 in
    let len : length (take n bytes) ≡ n = omega (arith, length-take n bytes) in
    record {
      text = take n bytes;
      front = sym (take-append-drop n bytes) ∙ ap (λ (p : A × List ℕ). take n bytes ++ p.1) g.1;
      again = λ more.
          let enough : ltb (length (take n bytes ++ more)) n ≡ false = le-ltb _ _ (omega (arith, length-append (take n bytes) more)) in
          rw (enough, take_at (take n bytes) more n len, drop_at (take n bytes) more n len) (ap (λ (p : A × List ℕ). done {A = A × List ℕ} (p.0, more)) g.1);
    }

fixed_faults : {A : Type 0} (n : ℕ) (f : List ℕ → A) (bytes : List ℕ) (fault : ReadFault) → fixed n f bytes ≡ Err fault → fault ≢ Short → Faults (fixed n f) bytes fault
fixed_faults n f bytes fault e other =
    elim (chosen (ltb (length bytes) n) _ _ (Err fault) e) [
      | inl p ↦ let is = p.1 in absurd (other cc)
      | inr p ↦ let is = p.1 in absurd cc
    ]

fixed_completes : {A : Type 0} (n : ℕ) (f : List ℕ → A) (bytes : List ℕ) → fixed n f bytes ≡ Err Short → Completes (fixed n f) bytes
fixed_completes {A} n f bytes e =
    let more : List ℕ = replicate (n - length bytes) 0 in
    elim (chosen (ltb (length bytes) n) _ _ (Err Short) e) [
      | inl p ↦
          let few : length bytes < n = ltb-true _ _ p.0 in
          let whole : length (bytes ++ more) ≡ n = omega (arith, length-append bytes more, length-replicate {A = ℕ} (n - length bytes) 0) in
          let enough : ltb (length (bytes ++ more)) n ≡ false = le-ltb _ _ (omega arith) in
          record {
            more = more;
            are_bytes = All-replicate (λ b. b < 256) (n - length bytes) 0 (omega arith);
            value = f (take n (bytes ++ more));
            read = rw enough (ap (λ (z : List ℕ). done {A = A × List ℕ} (f (take n (bytes ++ more)), z)) (drop_all n (bytes ++ more) (omega arith)));
          }
      | inr p ↦ let is = p.1 in absurd cc
    ]

fixed_steady : {A : Type 0} (n : ℕ) (f : List ℕ → A) → IsSteady (fixed n f)
fixed_steady n f = record { takes = fixed_takes n f; faults = fixed_faults n f; completes = fixed_completes n f }

unsigned_steady : (w : Width) → IsSteady (unsigned_at w)
unsigned_steady w = fixed_steady (byte_len w) (from_be_bytes w)

signed_steady : (w : Width) → IsSteady (signed_at w)
signed_steady w = map_steady (cast_signed w) (unsigned_at w) (unsigned_steady w)

three_steady : IsSteady three_at
three_steady = fixed_steady 3 (λ bytes. from_be_bytes w32 (0 ∷ bytes))

-- ---- the byte in front decides how to go on

abbrev headed : {A : Type 0} → (ℕ → Reader A) → Reader A
headed r [] = Err Short
headed r (b ∷ bytes) = r b bytes

headed_takes : {A : Type 0} (r : ℕ → Reader A) → ((b : ℕ) → IsGoodAt b (r b)) → (bytes : List ℕ) (x : A) (rest : List ℕ) → headed r bytes ≡ Ok (x, rest) → Takes (headed r) bytes x rest
headed_takes r good [] x rest e = absurd cc
headed_takes r good (b ∷ bytes) x rest e =
    elim (good b) [
      | inl h ↦ let t = h.takes bytes x rest e in record { text = b ∷ t.text; front = ap (λ (z : List ℕ). b ∷ z) t.front; again = t.again }
      | inr h ↦ let wrong = sym (h.always bytes) ∙ e in absurd cc
    ]

headed_faults : {A : Type 0} (r : ℕ → Reader A) → ((b : ℕ) → IsGoodAt b (r b)) → (bytes : List ℕ) (fault : ReadFault) → headed r bytes ≡ Err fault → fault ≢ Short → Faults (headed r) bytes fault
headed_faults {A} r good [] fault e other = absurd (other (sym (err_is {A = A × List ℕ} Short fault e)))
headed_faults {A} r good (b ∷ bytes) fault e other =
    elim (good b) [
      | inl h ↦
          let t = h.faults bytes fault e other in
          record { before = b ∷ t.before; byte = t.byte; behind = t.behind; is = ap (λ (z : List ℕ). b ∷ z) t.is; bad = t.bad; short = t.short; again = t.again }
      | inr h ↦
          let same : h.fault ≡ fault = err_is {A = A × List ℕ} h.fault fault (sym (h.always bytes) ∙ e) in
          record { before = []; byte = b; behind = bytes; is = refl; bad = subst (λ (f : ReadFault). IsBadByte f b) same h.bad; short = refl; again = λ more. h.always more ∙ sym (h.always bytes) ∙ e }
    ]

headed_completes : {A : Type 0} (r : ℕ → Reader A) → ((b : ℕ) → IsGoodAt b (r b)) → (first : ℕ) → first < 256 → IsSteady (r first) → (bytes : List ℕ) → headed r bytes ≡ Err Short → Completes (headed r) bytes
headed_completes r good first small steady [] e =
    let t = from_nothing (r first) steady (r first []) refl in
    record { more = first ∷ t.more; are_bytes = All-cons (λ b. b < 256) first t.more small t.are_bytes; value = t.value; read = t.read }
headed_completes {A} r good first small steady (b ∷ bytes) e =
    elim (good b) [
      | inl h ↦ let t = h.completes bytes e in record { more = t.more; are_bytes = t.are_bytes; value = t.value; read = t.read }
      | inr h ↦ absurd (h.other (err_is {A = A × List ℕ} h.fault Short (sym (h.always bytes) ∙ e)))
    ]

headed_steady : {A : Type 0} (r : ℕ → Reader A) → ((b : ℕ) → IsGoodAt b (r b)) → (first : ℕ) → first < 256 → IsSteady (r first) → IsSteady (headed r)
headed_steady r good first small steady = record { takes = headed_takes r good; faults = headed_faults r good; completes = headed_completes r good first small steady }

-- ---- lengths and strings

abbrev length_behind : ℕ → Reader ℕ
length_behind b bytes = cond (ltb b 128) (Ok (b, bytes)) (cond (eqb b 129) (unsigned_at w8 bytes) (cond (eqb b 130) (unsigned_at w16 bytes) (cond (eqb b 131) (three_at bytes) (cond (eqb b 132) (unsigned_at w32 bytes) (Err Length)))))

pick : {A : Type 0} (byte : ℕ) (b : Bool) (r s : Reader A) → (b ≡ true → IsGoodAt byte r) → (b ≡ false → IsGoodAt byte s) → IsGoodAt byte (λ bytes. cond b (r bytes) (s bytes))
pick byte true r s h k = h refl
pick byte false r s h k = k refl

no_length : (b : ℕ) → ltb b 128 ≡ false → eqb b 129 ≡ false → eqb b 130 ≡ false → eqb b 131 ≡ false → eqb b 132 ≡ false → IsBadByte Length b
no_length b p q r u v =
    elim (cases_lt 132 b) [
      | inl lt ↦ inr lt
      | inr le ↦ inl (omega (arith, ltb-false b 128 p, false-eqb b 129 (sym q), false-eqb b 130 (sym r), false-eqb b 131 (sym u), false-eqb b 132 (sym v)))
    ]

length_good : (b : ℕ) → IsGoodAt b (length_behind b)
length_good b =
    pick b (ltb b 128) (λ bytes. Ok (b, bytes)) _ (λ p. inl (nothing_steady b)) (λ p.
    pick b (eqb b 129) (unsigned_at w8) _ (λ q. inl (unsigned_steady w8)) (λ q.
    pick b (eqb b 130) (unsigned_at w16) _ (λ r. inl (unsigned_steady w16)) (λ r.
    pick b (eqb b 131) three_at _ (λ u. inl three_steady) (λ u.
    pick b (eqb b 132) (unsigned_at w32) (λ bytes. Err Length) (λ v. inl (unsigned_steady w32)) (λ v. inr (record { fault = Length; other = λ e. cc; bad = no_length b p q r u v; always = λ bytes. refl }))))))

length_same : (bytes : List ℕ) → headed length_behind bytes ≡ length_at bytes
unfolding length_at
length_same [] = refl
length_same (b ∷ bytes) = refl

length_steady : IsSteady length_at
length_steady = same_steady (headed length_behind) length_at length_same (headed_steady length_behind length_good 0 (omega arith) (nothing_steady 0))

string_steady : IsSteady string_at
unfolding string_at
string_steady = seq_steady length_at (λ n. fixed n (λ s. s)) length_steady (λ n. fixed_steady n (λ s. s))

-- ---- values

-- what reads the parts, or tells at once that they are too deep
abbrev AreGood : Reader (List Tree) → Type 0
AreGood items = IsSteady items ⊎ ((bytes : List ℕ) → items bytes ≡ Err TooDeep)

map_items : (f : List Tree → Tree) (items : Reader (List Tree)) → AreGood items → (b : ℕ) → IsBadByte TooDeep b → IsGoodAt b (λ bytes. read_map f (items bytes))
map_items f items (inl h) b bad = inl (map_steady f items h)
map_items f items (inr h) b bad = inr (record { fault = TooDeep; other = λ e. cc; bad = bad; always = λ bytes. ap (λ (q : Result (List Tree × List ℕ) ReadFault). read_map f q) (h bytes) })

content_good : (items : Reader (List Tree)) → AreGood items → (b : ℕ) (k : Kind) → b ≡ tag_of k → IsGoodAt b (content_at items k)
unfolding content_at
content_good items h b NullData e = inl (nothing_steady null_data)
content_good items h b Array e = map_items (λ ts. array (trees ts)) items h b (inl e)
content_good items h b Structure e = map_items (λ ts. structure (trees ts)) items h b (inr e)
content_good items h b Boolean e = inl (map_steady (λ n. boolean (not (eqb n 0))) (unsigned_at w8) (unsigned_steady w8))
content_good items h b DoubleLong e = inl (map_steady double_long (signed_at w32) (signed_steady w32))
content_good items h b DoubleLongUnsigned e = inl (map_steady double_long_unsigned (unsigned_at w32) (unsigned_steady w32))
content_good items h b OctetString e = inl (map_steady octet_string string_at string_steady)
content_good items h b VisibleString e = inl (map_steady visible_string string_at string_steady)
content_good items h b Integer e = inl (map_steady integer (signed_at w8) (signed_steady w8))
content_good items h b Long e = inl (map_steady long (signed_at w16) (signed_steady w16))
content_good items h b Unsigned e = inl (map_steady unsigned (unsigned_at w8) (unsigned_steady w8))
content_good items h b LongUnsigned e = inl (map_steady long_unsigned (unsigned_at w16) (unsigned_steady w16))
content_good items h b Long64 e = inl (map_steady long64 (signed_at w64) (signed_steady w64))
content_good items h b Long64Unsigned e = inl (map_steady long64_unsigned (unsigned_at w64) (unsigned_steady w64))
content_good items h b Enumerated e = inl (map_steady enumerated (unsigned_at w8) (unsigned_steady w8))

kind_good : (items : Reader (List Tree)) → AreGood items → (b : ℕ) (k : Option Kind) → kind_of_tag b ≡ k → IsGoodAt b (kind_content_at items k)
kind_good items h b None is = inr (record { fault = UnknownTag; other = λ e. cc; bad = is; always = λ bytes. refl })
kind_good items h b (Some k) is = content_good items h b k (tag_takes b k is)

value_same : (items : Reader (List Tree)) (bytes : List ℕ) → headed (λ b. kind_content_at items (kind_of_tag b)) bytes ≡ value_with items bytes
value_same items [] = refl
value_same items (b ∷ bytes) = refl

null_steady : (items : Reader (List Tree)) → IsSteady (kind_content_at items (kind_of_tag 0))
unfolding kind_of_tag content_at
null_steady items = nothing_steady null_data

value_steady : (items : Reader (List Tree)) → AreGood items → IsSteady (value_with items)
value_steady items h =
    same_steady (headed (λ b. kind_content_at items (kind_of_tag b))) (value_with items) (value_same items)
    (headed_steady (λ b. kind_content_at items (kind_of_tag b)) (λ b. kind_good items h b (kind_of_tag b) refl) 0 (omega arith) (null_steady items))

parts_steady : (value : Reader Tree) → IsSteady value → (n : ℕ) → IsSteady (parts_at value n)
unfolding parts_at
parts_steady value h zero = nothing_steady []
parts_steady value h (suc n) = seq_steady value (λ first bytes. read_map (λ others. first ∷ others) (parts_at value n bytes)) h (λ first. map_steady (λ others. first ∷ others) (parts_at value n) (parts_steady value h n))

items_good : (d : ℕ) → AreGood (items_at d)
unfolding items_at
items_good zero = inr (λ bytes. refl)
items_good (suc d) = inl (seq_steady length_at (parts_at (value_with (items_at d))) length_steady (parts_steady (value_with (items_at d)) (value_steady (items_at d) (items_good d))))

pub data_steady : (d : ℕ) → IsSteady (data_at d)
unfolding data_at
data_steady d = value_steady (items_at d) (items_good d)
