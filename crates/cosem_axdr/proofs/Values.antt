-- What is read is an encoding of the value, and an encoding of a value is read, whatever follows it.
use Rattle.std.proofs.Common.{◌≡◌, ℕ, zero, suc, ◌<◌, ◌≤◌, ◌%◌, Bool, true, false, not, cond, eqb, List, [], ◌∷◌, ◌++◌, length, Option, Some, None, Result, Ok, refl, sym, ap, subst, ◌∙◌, append_assoc, arith}
use Rattle.std.specs.Prelude.{find}
use Rattle.std.specs.Int.{Width, w8, w16, w32, w64, to_be_bytes}
use Rattle.std.proofs.lemmas.Bool.{eqb-true}
use Rattle.cosem_data.specs.Tree.{Tree, Trees, null_data, array, structure, boolean, double_long, double_long_unsigned, octet_string, visible_string, integer, long, unsigned, long_unsigned, long64, long64_unsigned, enumerated, no_trees, more_trees, trees, parts, depth, depth_of, deepest}
use Rattle.cosem_data.specs.TreeCode.{trees-parts, parts-trees}
use Rattle.cosem_data.specs.Falls.{depth_of-trees}
use Rattle.cosem_data.specs.Kinds.{kind_of, tag_of}
use Rattle.cosem_data.specs.declared.kind.Kind.{Kind}
use Rattle.cosem_data.specs.declared.kind.Kind.TheVariants.{NullData, Array, Structure, Boolean, DoubleLong, DoubleLongUnsigned, OctetString, VisibleString, Integer, Long, Unsigned, LongUnsigned, Long64, Long64Unsigned, Enumerated}
use Rattle.cosem_axdr.specs.declared.fault.ReadFault.{ReadFault}
use Rattle.cosem_axdr.specs.Grammar.{IsLength, IsUnsigned, IsSigned, IsString, IsContent, AreEncodings, IsEncoding, BeginsWith}
use Rattle.cosem_axdr.specs.Reading.{◌>>=◌, unsigned_at, signed_at, length_at, string_at, kinds, kind_of_tag, parts_at, read_map, content_at, kind_content_at, value_with, items_at, data_at}
use Rattle.cosem_axdr.proofs.Numbers.{IsBytes, IsBytes-behind, IsBytes-rest, bind_ok, done, ok_is, IsWide, wide8, wide16, wide32, wide64, unsigned_takes, unsigned_again, signed8, signed16, signed32, signed64, signed_takes, signed_again, length_takes, length_again, string_takes, string_again}

-- ---- tags

one_step : (p : Kind → Bool) (x k : Kind) (rest : Option Kind) (b : Bool) → p x ≡ b → (rest ≡ Some k → p k ≡ true) → cond b (Some x) rest ≡ Some k → p k ≡ true
one_step p x k rest true q h e = let is : x ≡ k = cc in subst (λ y. p y ≡ true) is q
one_step p x k rest false q h e = h e

find_passes : (p : Kind → Bool) (ks : List Kind) (k : Kind) → find p ks ≡ Some k → p k ≡ true
find_passes p [] k e = absurd cc
find_passes p (x ∷ ks) k e = one_step p x k (find p ks) (p x) refl (find_passes p ks k) e

pub tag_takes : (b : ℕ) (k : Kind) → kind_of_tag b ≡ Some k → b ≡ tag_of k
unfolding kind_of_tag
tag_takes b k e = sym (eqb-true (tag_of k) b (find_passes (λ k. eqb (tag_of k) b) kinds k e))

tag_again : (k : Kind) → kind_of_tag (tag_of k) ≡ Some k
unfolding kind_of_tag
tag_again NullData = refl
tag_again _ = refl

-- ---- contents

record TakesContent (d : ℕ) (k : Kind) (bytes : List ℕ) (t : Tree) (rest : List ℕ) : Type 0 where
  text : List ℕ
  is : IsContent t text
  kind : kind_of t ≡ k
  nested : depth t ≤ d
  front : bytes ≡ text ++ rest

record TakesItems (d : ℕ) (bytes : List ℕ) (ts : List Tree) (rest : List ℕ) : Type 0 where
  head : List ℕ
  body : List ℕ
  count : IsLength (length ts) head
  is : AreEncodings (trees ts) body
  nested : suc (deepest ts) ≤ d
  front : bytes ≡ (head ++ body) ++ rest

pub record TakesValue (d : ℕ) (bytes : List ℕ) (t : Tree) (rest : List ℕ) : Type 0 where
  pub text : List ℕ
  pub is : IsEncoding t text
  pub nested : depth t ≤ d
  pub front : bytes ≡ text ++ rest

mapped : {A : Type 0} (f : A → Tree) (r : Result (A × List ℕ) ReadFault) (t : Tree) (rest : List ℕ) → read_map f r ≡ Ok (t, rest) → (x : A) × (r ≡ Ok (x, rest)) × (f x ≡ t)
mapped {A} f r t rest e =
    let b = bind_ok r (λ x. Ok (f x.0, x.1)) (t, rest) e in
    let is = ok_is (f b.0.0, b.0.1) (t, rest) b.2 in
    (b.0.0, b.1 ∙ ap (λ (x : Tree × List ℕ). done {A = A × List ℕ} (b.0.0, x.1)) is, ap (λ (x : Tree × List ℕ). x.0) is)

simple : {A : Type 0} (f : A → Tree) (k : Kind) (r : Result (A × List ℕ) ReadFault) (P : A → List ℕ → Type 0) (d : ℕ) (bytes : List ℕ) (t : Tree) (rest : List ℕ)
    → ((x : A) → r ≡ Ok (x, rest) → (text : List ℕ) × P x text × (bytes ≡ text ++ rest))
    → ((x : A) (text : List ℕ) → P x text → IsContent (f x) text)
    → ((x : A) → kind_of (f x) ≡ k) → ((x : A) → depth (f x) ≡ 0)
    → read_map f r ≡ Ok (t, rest) → TakesContent d k bytes t rest
simple f k r P d bytes t rest takes content kind flat e =
    let m = mapped f r t rest e in
    let h = takes m.0 m.1 in
    subst (λ (u : Tree). TakesContent d k bytes u rest) m.2 (record { text = h.0; is = content m.0 h.0 h.1; kind = kind m.0; nested = omega (arith, flat m.0); front = h.2 })

unsigned_text : (w : Width) (wide : IsWide w) (bytes : List ℕ) (n : ℕ) (rest : List ℕ) → IsBytes bytes → unsigned_at w bytes ≡ Ok (n, rest) → (text : List ℕ) × IsUnsigned w n text × (bytes ≡ text ++ rest)
unsigned_text w wide bytes n rest fits e = let t = unsigned_takes w wide bytes n rest fits e in (to_be_bytes w n, (t.1, refl), t.0)

truth : (n : ℕ) (text : List ℕ) → IsUnsigned w8 n text → IsContent (boolean (not (eqb n 0))) text
truth n text h = let small : n < 256 = h.0 in let same : n % 256 ≡ n = omega arith in (n, small, refl, h.1 ∙ ap (λ (b : ℕ). b ∷ []) same)

abbrev ItemsTake : ℕ → Type 0
ItemsTake d = (bytes : List ℕ) (ts : List Tree) (rest : List ℕ) → IsBytes bytes → items_at d bytes ≡ Ok (ts, rest) → TakesItems d bytes ts rest

abbrev ValueTakes : ℕ → Type 0
ValueTakes d = (bytes : List ℕ) (t : Tree) (rest : List ℕ) → IsBytes bytes → value_with (items_at d) bytes ≡ Ok (t, rest) → TakesValue d bytes t rest

content_takes : (d : ℕ) → ItemsTake d → (k : Kind) (bytes : List ℕ) (t : Tree) (rest : List ℕ) → IsBytes bytes → content_at (items_at d) k bytes ≡ Ok (t, rest) → TakesContent d k bytes t rest
unfolding content_at
content_takes d items NullData bytes t rest fits e =
    let is = ok_is (null_data, bytes) (t, rest) e in
    subst (λ (x : Tree × List ℕ). TakesContent d NullData bytes x.0 x.1) is (record { text = []; is = refl; kind = refl; nested = omega arith; front = refl })
content_takes d items Array bytes t rest fits e =
    let m = mapped {A = List Tree} (λ ts. array (trees ts)) (items_at d bytes) t rest e in
    let h = items bytes m.0 rest fits m.1 in
    subst (λ (u : Tree). TakesContent d Array bytes u rest) m.2 (record { text = h.head ++ h.body; is = (h.head, h.body, subst (λ (n : ℕ). IsLength n h.head) (ap length (sym (parts-trees m.0))) h.count, h.is, refl); kind = refl; nested = omega (arith, depth_of-trees m.0, h.nested); front = h.front })
content_takes d items Structure bytes t rest fits e =
    let m = mapped {A = List Tree} (λ ts. structure (trees ts)) (items_at d bytes) t rest e in
    let h = items bytes m.0 rest fits m.1 in
    subst (λ (u : Tree). TakesContent d Structure bytes u rest) m.2 (record { text = h.head ++ h.body; is = (h.head, h.body, subst (λ (n : ℕ). IsLength n h.head) (ap length (sym (parts-trees m.0))) h.count, h.is, refl); kind = refl; nested = omega (arith, depth_of-trees m.0, h.nested); front = h.front })
content_takes d items Boolean bytes t rest fits e = simple (λ n. boolean (not (eqb n 0))) Boolean (unsigned_at w8 bytes) (IsUnsigned w8) d bytes t rest (λ x h. unsigned_text w8 wide8 bytes x rest fits h) truth (λ x. refl) (λ x. refl) e
content_takes d items DoubleLong bytes t rest fits e = simple double_long DoubleLong (signed_at w32 bytes) (IsSigned w32) d bytes t rest (λ x h. signed_takes w32 signed32 bytes x rest fits h) (λ x text h. h) (λ x. refl) (λ x. refl) e
content_takes d items DoubleLongUnsigned bytes t rest fits e = simple double_long_unsigned DoubleLongUnsigned (unsigned_at w32 bytes) (IsUnsigned w32) d bytes t rest (λ x h. unsigned_text w32 wide32 bytes x rest fits h) (λ x text h. h) (λ x. refl) (λ x. refl) e
content_takes d items OctetString bytes t rest fits e = simple octet_string OctetString (string_at bytes) IsString d bytes t rest (λ x h. string_takes bytes x rest fits h) (λ x text h. h) (λ x. refl) (λ x. refl) e
content_takes d items VisibleString bytes t rest fits e = simple visible_string VisibleString (string_at bytes) IsString d bytes t rest (λ x h. string_takes bytes x rest fits h) (λ x text h. h) (λ x. refl) (λ x. refl) e
content_takes d items Integer bytes t rest fits e = simple integer Integer (signed_at w8 bytes) (IsSigned w8) d bytes t rest (λ x h. signed_takes w8 signed8 bytes x rest fits h) (λ x text h. h) (λ x. refl) (λ x. refl) e
content_takes d items Long bytes t rest fits e = simple long Long (signed_at w16 bytes) (IsSigned w16) d bytes t rest (λ x h. signed_takes w16 signed16 bytes x rest fits h) (λ x text h. h) (λ x. refl) (λ x. refl) e
content_takes d items Unsigned bytes t rest fits e = simple unsigned Unsigned (unsigned_at w8 bytes) (IsUnsigned w8) d bytes t rest (λ x h. unsigned_text w8 wide8 bytes x rest fits h) (λ x text h. h) (λ x. refl) (λ x. refl) e
content_takes d items LongUnsigned bytes t rest fits e = simple long_unsigned LongUnsigned (unsigned_at w16 bytes) (IsUnsigned w16) d bytes t rest (λ x h. unsigned_text w16 wide16 bytes x rest fits h) (λ x text h. h) (λ x. refl) (λ x. refl) e
content_takes d items Long64 bytes t rest fits e = simple long64 Long64 (signed_at w64 bytes) (IsSigned w64) d bytes t rest (λ x h. signed_takes w64 signed64 bytes x rest fits h) (λ x text h. h) (λ x. refl) (λ x. refl) e
content_takes d items Long64Unsigned bytes t rest fits e = simple long64_unsigned Long64Unsigned (unsigned_at w64 bytes) (IsUnsigned w64) d bytes t rest (λ x h. unsigned_text w64 wide64 bytes x rest fits h) (λ x text h. h) (λ x. refl) (λ x. refl) e
content_takes d items Enumerated bytes t rest fits e = simple enumerated Enumerated (unsigned_at w8 bytes) (IsUnsigned w8) d bytes t rest (λ x h. unsigned_text w8 wide8 bytes x rest fits h) (λ x text h. h) (λ x. refl) (λ x. refl) e

-- ---- values

kind_takes : (d : ℕ) → ItemsTake d → (b : ℕ) (bytes : List ℕ) (t : Tree) (rest : List ℕ) (found : Option Kind) → kind_of_tag b ≡ found → IsBytes bytes → kind_content_at (items_at d) found bytes ≡ Ok (t, rest) → TakesValue d (b ∷ bytes) t rest
kind_takes d items b bytes t rest None is fits e = absurd cc
kind_takes d items b bytes t rest (Some k) is fits e =
    let h = content_takes d items k bytes t rest fits e in
    record { text = tag_of (kind_of t) ∷ h.text; is = (h.text, h.is, refl); nested = h.nested; front = ap (λ (c : ℕ). c ∷ bytes) (tag_takes b k is ∙ ap tag_of (sym h.kind)) ∙ ap (λ (x : List ℕ). tag_of (kind_of t) ∷ x) h.front }

value_from_items : (d : ℕ) → ItemsTake d → ValueTakes d
value_from_items d items [] t rest fits e = absurd cc
value_from_items d items (b ∷ bytes) t rest fits e = kind_takes d items b bytes t rest (kind_of_tag b) refl (IsBytes-rest b bytes fits) e

record TakesParts (d n : ℕ) (bytes : List ℕ) (ts : List Tree) (rest : List ℕ) : Type 0 where
  body : List ℕ
  is : AreEncodings (trees ts) body
  count : length ts ≡ n
  nested : deepest ts ≤ d
  front : bytes ≡ body ++ rest

parts_take : (d : ℕ) → ValueTakes d → (n : ℕ) (bytes : List ℕ) (ts : List Tree) (rest : List ℕ) → IsBytes bytes → parts_at (value_with (items_at d)) n bytes ≡ Ok (ts, rest) → TakesParts d n bytes ts rest
unfolding parts_at
parts_take d value zero bytes ts rest fits e =
    subst (λ (x : List Tree × List ℕ). TakesParts d 0 bytes x.0 x.1) (ok_is ([], bytes) (ts, rest) e) (record { body = []; is = refl; count = refl; nested = omega arith; front = refl })
parts_take d value (suc n) bytes ts rest fits e =
    let a = bind_ok (value_with (items_at d) bytes) (λ first. parts_at (value_with (items_at d)) n first.1 >>= λ others. Ok (first.0 ∷ others.0, others.1)) (ts, rest) e in
    let b = bind_ok (parts_at (value_with (items_at d)) n a.0.1) (λ others. Ok (a.0.0 ∷ others.0, others.1)) (ts, rest) a.2 in
    let one = value bytes a.0.0 a.0.1 fits a.1 in
    let inside : IsBytes a.0.1 = IsBytes-behind one.text a.0.1 (subst IsBytes one.front fits) in
    let more = parts_take d value n a.0.1 b.0.0 b.0.1 inside b.1 in
    subst (λ (x : List Tree × List ℕ). TakesParts d (suc n) bytes x.0 x.1) (ok_is (a.0.0 ∷ b.0.0, b.0.1) (ts, rest) b.2)
    (record {
      body = one.text ++ more.body;
      is = (one.is.0, more.body, one.is.1, more.is, ap (λ (x : List ℕ). x ++ more.body) one.is.2);
      count = ap suc more.count;
      nested = omega (arith, one.nested, more.nested);
      front = one.front ∙ ap (λ (x : List ℕ). one.text ++ x) more.front ∙ sym (append_assoc one.text more.body b.0.1);
    })

items_take : (d : ℕ) → ItemsTake d
unfolding items_at
items_take zero bytes ts rest fits e = absurd cc
items_take (suc d) bytes ts rest fits e =
    let a = bind_ok (length_at bytes) (λ n. parts_at (value_with (items_at d)) n.0 n.1) (ts, rest) e in
    let h = length_takes bytes a.0.0 a.0.1 fits a.1 in
    let inside : IsBytes a.0.1 = IsBytes-behind h.0 a.0.1 (subst IsBytes h.2 fits) in
    let more = parts_take d (value_from_items d (items_take d)) a.0.0 a.0.1 ts rest inside a.2 in
    record {
      head = h.0;
      body = more.body;
      count = subst (λ (n : ℕ). IsLength n h.0) (sym more.count) h.1;
      is = more.is;
      nested = omega (arith, more.nested);
      front = h.2 ∙ ap (λ (x : List ℕ). h.0 ++ x) more.front ∙ sym (append_assoc h.0 more.body rest);
    }

-- what is read is an encoding of the value, nested no deeper
pub data_takes : (d : ℕ) (bytes : List ℕ) (t : Tree) (rest : List ℕ) → IsBytes bytes → data_at d bytes ≡ Ok (t, rest) → TakesValue d bytes t rest
unfolding data_at
data_takes d bytes t rest fits e = value_from_items d (items_take d) bytes t rest fits e

-- ---- again

read_again : {A : Type 0} (f : A → Tree) (r : Result (A × List ℕ) ReadFault) (x : A) (rest : List ℕ) → r ≡ Ok (x, rest) → read_map f r ≡ Ok (f x, rest)
read_again {A} f r x rest e = ap (λ (q : Result (A × List ℕ) ReadFault). read_map f q) e

items_again : (ts : Trees) (d : ℕ) (head body rest : List ℕ) → IsLength (length (parts ts)) head → parts_at (value_with (items_at d)) (length (parts ts)) (body ++ rest) ≡ Ok (parts ts, rest) → items_at (suc d) ((head ++ body) ++ rest) ≡ Ok (parts ts, rest)
unfolding items_at
items_again ts d head body rest count more =
    ap (λ (x : List ℕ). length_at x >>= λ n. parts_at (value_with (items_at d)) n.0 n.1) (append_assoc head body rest)
    ∙ ap (λ (r : Result (ℕ × List ℕ) ReadFault). r >>= λ n. parts_at (value_with (items_at d)) n.0 n.1) (length_again (length (parts ts)) head (body ++ rest) count)
    ∙ more

unsigned_again_in : (w : Width) (wide : IsWide w) (n : ℕ) (text rest : List ℕ) → IsUnsigned w n text → unsigned_at w (text ++ rest) ≡ Ok (n, rest)
unsigned_again_in w wide n text rest h = ap (λ (x : List ℕ). unsigned_at w (x ++ rest)) h.1 ∙ unsigned_again w wide n rest h.0

truth_again : (b : Bool) (text rest : List ℕ) → IsContent (boolean b) text → read_map (λ n. boolean (not (eqb n 0))) (unsigned_at w8 (text ++ rest)) ≡ Ok (boolean b, rest)
truth_again b text rest h =
    let small : h.0 < 256 = h.1 in
    let same : h.0 % 256 ≡ h.0 = omega arith in
    read_again (λ n. boolean (not (eqb n 0))) (unsigned_at w8 (text ++ rest)) h.0 rest (unsigned_again_in w8 wide8 h.0 text rest (small, h.3 ∙ ap (λ (c : ℕ). c ∷ []) (sym same)))
    ∙ ap (λ (c : Bool). done {A = Tree × List ℕ} (boolean c, rest)) (sym h.2)

mutual
  unfolding content_at parts_at

  content_again : (t : Tree) (d : ℕ) (text rest : List ℕ) → IsContent t text → depth t ≤ d → content_at (items_at d) (kind_of t) (text ++ rest) ≡ Ok (t, rest)
  content_again null_data d text rest h le = ap (λ (x : List ℕ). done {A = Tree × List ℕ} (null_data, x ++ rest)) h
  content_again (array ts) zero text rest h le = absurd (omega arith)
  content_again (array ts) (suc d) text rest h le =
      ap (λ (x : List ℕ). read_map {A = List Tree} (λ us. array (trees us)) (items_at (suc d) (x ++ rest))) h.4
      ∙ read_again {A = List Tree} (λ us. array (trees us)) (items_at (suc d) ((h.0 ++ h.1) ++ rest)) (parts ts) rest (items_again ts d h.0 h.1 rest h.2 (parts_again ts d h.1 rest h.3 (omega arith)))
      ∙ ap (λ (us : Trees). done {A = Tree × List ℕ} (array us, rest)) (trees-parts ts)
  content_again (structure ts) zero text rest h le = absurd (omega arith)
  content_again (structure ts) (suc d) text rest h le =
      ap (λ (x : List ℕ). read_map {A = List Tree} (λ us. structure (trees us)) (items_at (suc d) (x ++ rest))) h.4
      ∙ read_again {A = List Tree} (λ us. structure (trees us)) (items_at (suc d) ((h.0 ++ h.1) ++ rest)) (parts ts) rest (items_again ts d h.0 h.1 rest h.2 (parts_again ts d h.1 rest h.3 (omega arith)))
      ∙ ap (λ (us : Trees). done {A = Tree × List ℕ} (structure us, rest)) (trees-parts ts)
  content_again (boolean b) d text rest h le = truth_again b text rest h
  content_again (double_long z) d text rest h le = read_again double_long (signed_at w32 (text ++ rest)) z rest (signed_again w32 signed32 z text rest h)
  content_again (double_long_unsigned n) d text rest h le = read_again double_long_unsigned (unsigned_at w32 (text ++ rest)) n rest (unsigned_again_in w32 wide32 n text rest h)
  content_again (octet_string s) d text rest h le = read_again octet_string (string_at (text ++ rest)) s rest (string_again s text rest h)
  content_again (visible_string s) d text rest h le = read_again visible_string (string_at (text ++ rest)) s rest (string_again s text rest h)
  content_again (integer z) d text rest h le = read_again integer (signed_at w8 (text ++ rest)) z rest (signed_again w8 signed8 z text rest h)
  content_again (long z) d text rest h le = read_again long (signed_at w16 (text ++ rest)) z rest (signed_again w16 signed16 z text rest h)
  content_again (unsigned n) d text rest h le = read_again unsigned (unsigned_at w8 (text ++ rest)) n rest (unsigned_again_in w8 wide8 n text rest h)
  content_again (long_unsigned n) d text rest h le = read_again long_unsigned (unsigned_at w16 (text ++ rest)) n rest (unsigned_again_in w16 wide16 n text rest h)
  content_again (long64 z) d text rest h le = read_again long64 (signed_at w64 (text ++ rest)) z rest (signed_again w64 signed64 z text rest h)
  content_again (long64_unsigned n) d text rest h le = read_again long64_unsigned (unsigned_at w64 (text ++ rest)) n rest (unsigned_again_in w64 wide64 n text rest h)
  content_again (enumerated n) d text rest h le = read_again enumerated (unsigned_at w8 (text ++ rest)) n rest (unsigned_again_in w8 wide8 n text rest h)

  parts_again : (ts : Trees) (d : ℕ) (text rest : List ℕ) → AreEncodings ts text → depth_of ts ≤ d → parts_at (value_with (items_at d)) (length (parts ts)) (text ++ rest) ≡ Ok (parts ts, rest)
  parts_again no_trees d text rest h le = ap (λ (x : List ℕ). done {A = List Tree × List ℕ} ([], x ++ rest)) h
  parts_again (more_trees t ts) d text rest h le =
      let behind = h.1 ++ rest in
      let regrouped : text ++ rest ≡ tag_of (kind_of t) ∷ (h.0 ++ behind) = ap (λ (x : List ℕ). x ++ rest) h.4 ∙ append_assoc (tag_of (kind_of t) ∷ h.0) h.1 rest in
      let one : value_with (items_at d) (text ++ rest) ≡ Ok (t, behind) =
      ap (value_with (items_at d)) regrouped ∙ ap (λ (k : Option Kind). kind_content_at (items_at d) k (h.0 ++ behind)) (tag_again (kind_of t)) ∙ content_again t d h.0 behind h.2 (omega arith) in
      ap (λ (r : Result (Tree × List ℕ) ReadFault). r >>= λ first. parts_at (value_with (items_at d)) (length (parts ts)) first.1 >>= λ others. Ok (first.0 ∷ others.0, others.1)) one
      ∙ ap (λ (r : Result (List Tree × List ℕ) ReadFault). r >>= λ others. Ok (t ∷ others.0, others.1)) (parts_again ts d h.1 rest h.3 (omega arith))

-- an encoding of a value that is nested no deeper is read, whatever follows it
pub data_again : (d : ℕ) (t : Tree) (text rest : List ℕ) → IsEncoding t text → depth t ≤ d → data_at d (text ++ rest) ≡ Ok (t, rest)
unfolding data_at
data_again d t text rest h le =
    ap (λ (x : List ℕ). value_with (items_at d) (x ++ rest)) h.2
    ∙ ap (λ (k : Option Kind). kind_content_at (items_at d) k (h.0 ++ rest)) (tag_again (kind_of t))
    ∙ content_again t d h.0 rest h.1 le

-- ---- the front of the bytes

pub begins_from_data : (bytes : List ℕ) (t : Tree) (rest : List ℕ) → IsBytes bytes → data_at 16 bytes ≡ Ok (t, rest) → BeginsWith bytes t rest
begins_from_data bytes t rest fits e = let h = data_takes 16 bytes t rest fits e in record { text = h.text; is = h.is; nested = h.nested; front = h.front }

pub data_from_begins : (bytes : List ℕ) (t : Tree) (rest : List ℕ) → BeginsWith bytes t rest → data_at 16 bytes ≡ Ok (t, rest)
data_from_begins bytes t rest h = ap (data_at 16) h.front ∙ data_again 16 t h.text rest h.is h.nested
