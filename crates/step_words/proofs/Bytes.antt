-- The shortest encodings of values and of requests are bytes.
use Rattle.std.proofs.Common.{ℕ, zero, suc, ◌^◌, ◌<◌, true, false, List, [], ◌∷◌, ◌++◌, length, Some, None, arith, inl, inr}
use Rattle.std.specs.Prelude.{slice_index}
use Rattle.std.specs.Int.{w8, w16, w32, w64, to_be_bytes, bytes_high_first, byte_at, cast_unsigned}
use Rattle.std.proofs.lemmas.Bool.{cases_lt, lt-ltb, le-ltb}
use Rattle.cosem_data.specs.Tree.{Tree, Trees, parts, null_data, array, structure, boolean, double_long, double_long_unsigned, octet_string, visible_string, integer, long, unsigned, long_unsigned, long64, long64_unsigned, enumerated, no_trees, more_trees}
use Rattle.cosem_data.specs.Kinds.{kind_of, tag_of}
use Rattle.cosem_data.specs.View.{tree}
use Rattle.cosem_data.specs.declared.kind.Kind.{Kind}
use Rattle.cosem_data.specs.declared.kind.Kind.TheVariants.{NullData, Array, Structure, Boolean, DoubleLong, DoubleLongUnsigned, OctetString, VisibleString, Integer, Long, Unsigned, LongUnsigned, Long64, Long64Unsigned, Enumerated}
use Rattle.cosem_axdr.specs.Grammar.{Form, itself, one, two, three, four, limit_of, length_in}
use Rattle.cosem_axdr.specs.Canonical.{shortest, content, all, canonical}
use Rattle.cosem_axdr.specs.Laws.{HasRanges, HaveRanges}
use Rattle.cosem_axdr.proofs.Numbers.{IsBytes-all}
use Rattle.meter_theory.specs.declared.refs.Descriptor.{Descriptor}
use Rattle.object_model.specs.declared.argument.Argument.{Argument}
use Rattle.object_model.specs.declared.argument.Argument.TheVariants.{Absent, Value, Unreadable}
use Rattle.xdlms_services.specs.declared.request.Request.{Request}
use Rattle.xdlms_services.specs.declared.request.Request.TheVariants.{Get, Set, Act, Next}
use Rattle.xdlms_services.specs.Requests.{front_bytes, argument_bytes, invocation_bytes, request_bytes, IsDescriptorInRange, IsArgumentInRange, CanAsk}
use Rattle.step_words.proofs.Ranges.{AreBytes}

both : (s more : List ℕ) → AreBytes s → AreBytes more → AreBytes (s ++ more)
both [] more h k = k
both (b ∷ s) more h k = (h.0, both s more h.1 k)

pub each_byte : (s : List ℕ) → AreBytes s → (i : ℕ) → slice_index s i < 256
each_byte [] h i = omega arith
each_byte (b ∷ s) h zero = h.0
each_byte (b ∷ s) h (suc i) = each_byte s h.1 i

byte_low : (i n : ℕ) → byte_at i n < 256
byte_low zero n = omega arith
byte_low (suc i) n = omega arith

high_first : (k n : ℕ) → AreBytes (bytes_high_first k n)
high_first zero n = tt
high_first (suc k) n = (byte_low k n, high_first k n)

-- ---- values

tag_low : (k : Kind) → tag_of k < 256
tag_low NullData = omega arith
tag_low Array = omega arith
tag_low Structure = omega arith
tag_low Boolean = omega arith
tag_low DoubleLong = omega arith
tag_low DoubleLongUnsigned = omega arith
tag_low OctetString = omega arith
tag_low VisibleString = omega arith
tag_low Integer = omega arith
tag_low Long = omega arith
tag_low Unsigned = omega arith
tag_low LongUnsigned = omega arith
tag_low Long64 = omega arith
tag_low Long64Unsigned = omega arith
tag_low Enumerated = omega arith

form_bytes : (form : Form) (n : ℕ) → n < limit_of form → AreBytes (length_in form n)
form_bytes itself n h = (omega arith, tt)
form_bytes one n h = (omega arith, high_first 1 n)
form_bytes two n h = (omega arith, high_first 2 n)
form_bytes three n h = (omega arith, high_first 3 n)
form_bytes four n h = (omega arith, high_first 4 n)

shortest_bytes : (n : ℕ) → AreBytes (shortest n)
unfolding shortest
shortest_bytes n =
    elim (cases_lt n 128) [
      | inl p ↦ rw (lt-ltb n 128 p) (form_bytes itself n p)
      | inr p ↦ rw (le-ltb n 128 p) (elim (cases_lt n (2 ^ 8)) [
        | inl q ↦ rw (lt-ltb n (2 ^ 8) q) (omega arith, high_first 1 n)
        | inr q ↦ rw (le-ltb n (2 ^ 8) q) (elim (cases_lt n (2 ^ 16)) [
          | inl r ↦ rw (lt-ltb n (2 ^ 16) r) (omega arith, high_first 2 n)
          | inr r ↦ rw (le-ltb n (2 ^ 16) r) (elim (cases_lt n (2 ^ 24)) [
            | inl u ↦ rw (lt-ltb n (2 ^ 24) u) (omega arith, high_first 3 n)
            | inr u ↦ rw (le-ltb n (2 ^ 24) u) (omega arith, high_first 4 n)
          ])
        ])
      ])
    ]

mutual
  content_bytes : (t : Tree) → HasRanges t → AreBytes (content t)
  content_bytes null_data r = tt
  content_bytes (array ts) r = both (shortest (length (parts ts))) (all ts) (shortest_bytes (length (parts ts))) (all_bytes ts r)
  content_bytes (structure ts) r = both (shortest (length (parts ts))) (all ts) (shortest_bytes (length (parts ts))) (all_bytes ts r)
  content_bytes (boolean true) r = (omega arith, tt)
  content_bytes (boolean false) r = (omega arith, tt)
  content_bytes (double_long z) r = high_first 4 (cast_unsigned w32 z)
  content_bytes (double_long_unsigned n) r = high_first 4 n
  content_bytes (octet_string s) r = both (shortest (length s)) s (shortest_bytes (length s)) r
  content_bytes (visible_string s) r = both (shortest (length s)) s (shortest_bytes (length s)) r
  content_bytes (integer z) r = high_first 1 (cast_unsigned w8 z)
  content_bytes (long z) r = high_first 2 (cast_unsigned w16 z)
  content_bytes (unsigned n) r = high_first 1 n
  content_bytes (long_unsigned n) r = high_first 2 n
  content_bytes (long64 z) r = high_first 8 (cast_unsigned w64 z)
  content_bytes (long64_unsigned n) r = high_first 8 n
  content_bytes (enumerated n) r = high_first 1 n

  all_bytes : (ts : Trees) → HaveRanges ts → AreBytes (all ts)
  all_bytes no_trees r = tt
  all_bytes (more_trees t ts) r = (tag_low (kind_of t), both (content t) (all ts) (content_bytes t r.0) (all_bytes ts r.1))

pub canonical_bytes : (t : Tree) → HasRanges t → AreBytes (canonical t)
canonical_bytes t r = (tag_low (kind_of t), content_bytes t r)

-- ---- requests

front_are : (service invoke : ℕ) (d : Descriptor) (rest : List ℕ) → service < 256 → invoke < 256 → IsDescriptorInRange d → AreBytes rest → AreBytes (front_bytes service invoke d ++ rest)
front_are service invoke d rest s i r h =
    both (front_bytes service invoke d) rest
    (s, (omega arith, (i, both (to_be_bytes w16 d.class_id) (d.name.0 ++ to_be_bytes w8 (cast_unsigned w8 d.index)) (high_first 2 d.class_id) (both d.name.0 (to_be_bytes w8 (cast_unsigned w8 d.index)) (IsBytes-all d.name.0 r.2) (high_first 1 (cast_unsigned w8 d.index))))))
    h

argument_are : (a : Argument) → IsArgumentInRange a → AreBytes (argument_bytes a)
argument_are Absent r = tt
argument_are (Value v) r = canonical_bytes (tree v) r
argument_are Unreadable r = tt

invocation_are : (a : Argument) → IsArgumentInRange a → AreBytes (invocation_bytes a)
invocation_are Absent r = (omega arith, tt)
invocation_are (Value v) r = (omega arith, canonical_bytes (tree v) r)
invocation_are Unreadable r = (omega arith, tt)

pub request_are_bytes : (r : Request) → CanAsk r → AreBytes (request_bytes r)
request_are_bytes (Get invoke d None) c = front_are 192 invoke d (0 ∷ []) (omega arith) c.1.0 c.1.1 (omega arith, tt)
request_are_bytes (Get invoke d (Some s)) c = front_are 192 invoke d (1 ∷ s.0 ∷ argument_bytes s.1) (omega arith) c.1.0 c.1.1 (omega arith, (c.1.2.0, argument_are s.1 c.1.2.1))
request_are_bytes (Set invoke d selected value) c = front_are 193 invoke d (0 ∷ argument_bytes value) (omega arith) c.1.0 c.1.1 (omega arith, argument_are value c.1.2)
request_are_bytes (Act invoke d a) c = front_are 195 invoke d (invocation_bytes a) (omega arith) c.1.0 c.1.1 (invocation_are a c.1.2)
request_are_bytes (Next invoke block) c = (omega arith, (omega arith, (c.1.0, high_first 4 block)))

pub request_has_bytes : (r : Request) → 0 < length (request_bytes r)
request_has_bytes (Get invoke d selection) = omega arith
request_has_bytes (Set invoke d selected value) = omega arith
request_has_bytes (Act invoke d a) = omega arith
request_has_bytes (Next invoke block) = omega arith
