-- The laws of the grammar, by way of the reader.
use Rattle.std.proofs.Common.{◌≡◌, ℕ, max, ◌^◌, ◌<◌, true, false, List, ◌++◌, length, Ok, refl, sym, ap, ◌∙◌, arith, inl, inr}
use Rattle.std.proofs.lemmas.Bool.{cases_lt, lt-ltb, le-ltb}
use Rattle.std.proofs.lemmas.List.{append_cancel_right}
use Rattle.cosem_data.specs.Tree.{Tree, Trees, null_data, array, structure, boolean, double_long, double_long_unsigned, octet_string, visible_string, integer, long, unsigned, long_unsigned, long64, long64_unsigned, enumerated, no_trees, more_trees, parts, depth}
use Rattle.cosem_axdr.specs.Grammar.{limit_of, IsLength, IsContent, AreEncodings}
use Rattle.cosem_axdr.specs.Canonical.{shortest_form, shortest, content, all, canonical, HasLengths, HaveLengths}
use Rattle.cosem_axdr.specs.Reading.{data_at}
use Rattle.cosem_axdr.specs.Laws.{NoEncodingBeginsAnother, HasRanges, HaveRanges, CanonicalIsEncoding, WrittenIsRead}
use Rattle.cosem_axdr.proofs.Numbers.{ok_is}
use Rattle.cosem_axdr.proofs.Values.{data_again}

-- what is cut off at the end leaves the same front
same_front : (a b x y : List ℕ) → a ++ x ≡ b ++ y → x ≡ y → a ≡ b
same_front a b x y e same = append_cancel_right a b y (ap (λ (z : List ℕ). a ++ z) (sym same) ∙ e)

pub no_encoding_begins_another : NoEncodingBeginsAnother
no_encoding_begins_another t u a b x y is_a is_b e =
    let d = max (depth t) (depth u) in
    let first : data_at d (a ++ x) ≡ Ok (t, x) = data_again d t a x is_a (omega arith) in
    let second : data_at d (b ++ y) ≡ Ok (u, y) = data_again d u b y is_b (omega arith) in
    let same = ok_is {A = Tree × List ℕ} (t, x) (u, y) (sym first ∙ ap (data_at d) e ∙ second) in
    (ap (λ (p : Tree × List ℕ). p.0) same, same_front a b x y e (ap (λ (p : Tree × List ℕ). p.1) same))

form_holds : (n : ℕ) → n < 2 ^ 32 → n < limit_of (shortest_form n)
form_holds n lt =
    elim (cases_lt n 128) [
      | inl p ↦ rw (lt-ltb n 128 p) p
      | inr p ↦ rw (le-ltb n 128 p) (elim (cases_lt n (2 ^ 8)) [
        | inl q ↦ rw (lt-ltb n (2 ^ 8) q) q
        | inr q ↦ rw (le-ltb n (2 ^ 8) q) (elim (cases_lt n (2 ^ 16)) [
          | inl r ↦ rw (lt-ltb n (2 ^ 16) r) r
          | inr r ↦ rw (le-ltb n (2 ^ 16) r) (elim (cases_lt n (2 ^ 24)) [
            | inl u ↦ rw (lt-ltb n (2 ^ 24) u) u
            | inr u ↦ rw (le-ltb n (2 ^ 24) u) lt
          ])
        ])
      ])
    ]

length_is : (n : ℕ) → n < 2 ^ 32 → IsLength n (shortest n)
unfolding shortest
length_is n lt = (shortest_form n, form_holds n lt, refl)

mutual
  content_is : (t : Tree) → HasLengths t → HasRanges t → IsContent t (content t)
  content_is null_data l r = refl
  content_is (array ts) l r = (shortest (length (parts ts)), all ts, length_is (length (parts ts)) l.0, parts_are ts l.1 r, refl)
  content_is (structure ts) l r = (shortest (length (parts ts)), all ts, length_is (length (parts ts)) l.0, parts_are ts l.1 r, refl)
  content_is (boolean true) l r = (1, omega arith, refl, refl)
  content_is (boolean false) l r = (0, omega arith, refl, refl)
  content_is (octet_string s) l r = (r, shortest (length s), length_is (length s) l, refl)
  content_is (visible_string s) l r = (r, shortest (length s), length_is (length s) l, refl)
  content_is (double_long z) l r = (r, refl)
  content_is (double_long_unsigned n) l r = (r, refl)
  content_is (integer z) l r = (r, refl)
  content_is (long z) l r = (r, refl)
  content_is (unsigned n) l r = (r, refl)
  content_is (long_unsigned n) l r = (r, refl)
  content_is (long64 z) l r = (r, refl)
  content_is (long64_unsigned n) l r = (r, refl)
  content_is (enumerated n) l r = (r, refl)

  parts_are : (ts : Trees) → HaveLengths ts → HaveRanges ts → AreEncodings ts (all ts)
  parts_are no_trees l r = refl
  parts_are (more_trees t ts) l r = (content t, all ts, content_is t l.0 r.0, parts_are ts l.1 r.1, refl)

pub canonical_is_encoding : CanonicalIsEncoding
canonical_is_encoding t l r = (content t, content_is t l r, refl)

pub written_is_read : WrittenIsRead
written_is_read t rest l r nested = data_again 16 t (canonical t) rest (canonical_is_encoding t l r) nested
