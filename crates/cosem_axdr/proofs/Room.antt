-- How many bytes the parts take, and that a short encoding has short lengths.
use Rattle.std.proofs.Common.{◌≡◌, ℕ, zero, suc, ◌+◌, ◌<◌, ◌≤◌, ◌^◌, List, [], ◌∷◌, ◌++◌, map, length, get_or, take, Option, Some, None, ◌⊎◌, inl, inr, sym, ap, ◌∙◌, ◌-◌, arith}
use Rattle.std.proofs.lemmas.List.{length-append}
use Rattle.cosem_data.specs.Tree.{Tree, Trees, null_data, array, structure, boolean, double_long, double_long_unsigned, octet_string, visible_string, integer, long, unsigned, long_unsigned, long64, long64_unsigned, enumerated, no_trees, more_trees, trees, parts, depth, deepest}
use Rattle.cosem_data.specs.View.{tree}
use Rattle.cosem_data.specs.declared.data.Data.{Data}
use Rattle.cosem_data.specs.declared.data.Data.TheVariants as kinds
use Rattle.cosem_axdr.specs.Canonical.{canonical, content, all, shortest, HasLengths, HaveLengths, IsRoomAfter}
use Rattle.cosem_axdr.specs.Laws.{SmallHasLengths}
use Rattle.cosem_axdr.proofs.Parts.{all_more, part_depth, part_content}

-- with one more part
pub length-all_more : (front : List ℕ) (xs : List Data) (i : ℕ) (x : Data) → i < length xs → x ≡ get_or xs i x
    → length (front ++ all (trees (map tree (take i xs)))) + length (canonical (tree x)) ≡ length (front ++ all (trees (map tree (take (i + 1) xs))))
length-all_more front xs i x lt e = omega (arith, length-append (front ++ all (trees (map tree (take i xs)))) (canonical (tree x)), ap length (all_more [] front xs i x lt e))

all_take_le : (xs : List Data) (k : ℕ) → length (all (trees (map tree (take k xs)))) ≤ length (all (trees (map tree xs)))
all_take_le [] zero = omega arith
all_take_le [] (suc k) = omega arith
all_take_le (x ∷ xs) zero = omega arith
all_take_le (x ∷ xs) (suc k) =
    let more = all_take_le xs k in
    omega (arith, length-append (canonical (tree x)) (all (trees (map tree (take k xs)))), length-append (canonical (tree x)) (all (trees (map tree xs))))

-- the first parts take no more than all
pub length-all_take : (front : List ℕ) (xs : List Data) (k : ℕ) → length (front ++ all (trees (map tree (take k xs)))) ≤ length (front ++ all (trees (map tree xs)))
length-all_take front xs k =
    let less = all_take_le xs k in
    omega (arith, length-append front (all (trees (map tree (take k xs)))), length-append front (all (trees (map tree xs))))

-- the parts of an array or a structure
pub items_depth : (value : Data) (items : List Tree) (xs : List Data) → (value ≡ kinds.Array items) ⊎ (value ≡ kinds.Structure items) → map tree xs ≡ items → depth (tree value) ≡ suc (deepest (map tree xs))
items_depth value items xs (inl is) e = ap (λ (v : Data). depth (tree v)) is ∙ ap suc (sym (part_depth items xs e))
items_depth value items xs (inr is) e = ap (λ (v : Data). depth (tree v)) is ∙ ap suc (sym (part_depth items xs e))

pub items_content : (value : Data) (items : List Tree) (xs : List Data) → (value ≡ kinds.Array items) ⊎ (value ≡ kinds.Structure items) → map tree xs ≡ items → shortest (length xs) ++ all (trees (map tree xs)) ≡ content (tree value)
items_content value items xs (inl is) e = part_content items xs e ∙ sym (ap (λ (v : Data). content (tree v)) is)
items_content value items xs (inr is) e = part_content items xs e ∙ sym (ap (λ (v : Data). content (tree v)) is)

-- behind the tag
pub behind_tag : (text : List ℕ) (room left : ℕ) (result : Option ℕ) → 1 ≤ room → left ≡ room - 1 → IsRoomAfter (length text) left result → IsRoomAfter (suc (length text)) room result
behind_tag text room left None some is h = omega arith
behind_tag text room left (Some rest) some is h = omega arith

-- ---- lengths

parts_le : (ts : Trees) → length (parts ts) ≤ length (all ts)
parts_le no_trees = omega arith
parts_le (more_trees t ts) = let more = parts_le ts in omega (arith, length-append (content t) (all ts))

mutual
  content_lengths : (t : Tree) (limit : ℕ) → limit < 2 ^ 32 → length (content t) ≤ limit → HasLengths t
  content_lengths (array ts) limit small le = (omega (arith, parts_le ts, length-append (shortest (length (parts ts))) (all ts)), all_lengths ts limit small (omega (arith, length-append (shortest (length (parts ts))) (all ts))))
  content_lengths (structure ts) limit small le = (omega (arith, parts_le ts, length-append (shortest (length (parts ts))) (all ts)), all_lengths ts limit small (omega (arith, length-append (shortest (length (parts ts))) (all ts))))
  content_lengths (octet_string s) limit small le = omega (arith, length-append (shortest (length s)) s)
  content_lengths (visible_string s) limit small le = omega (arith, length-append (shortest (length s)) s)
  content_lengths null_data limit small le = tt
  content_lengths (boolean b) limit small le = tt
  content_lengths (double_long z) limit small le = tt
  content_lengths (double_long_unsigned n) limit small le = tt
  content_lengths (integer z) limit small le = tt
  content_lengths (long z) limit small le = tt
  content_lengths (unsigned n) limit small le = tt
  content_lengths (long_unsigned n) limit small le = tt
  content_lengths (long64 z) limit small le = tt
  content_lengths (long64_unsigned n) limit small le = tt
  content_lengths (enumerated n) limit small le = tt

  all_lengths : (ts : Trees) (limit : ℕ) → limit < 2 ^ 32 → length (all ts) ≤ limit → HaveLengths ts
  all_lengths no_trees limit small le = tt
  all_lengths (more_trees t ts) limit small le =
      (content_lengths t limit small (omega (arith, length-append (content t) (all ts))), all_lengths ts limit small (omega (arith, length-append (content t) (all ts))))

-- a canonical encoding of at most 2 ^ 32 - 1 bytes has no length that four bytes can't hold
pub small_has_lengths : SmallHasLengths
small_has_lengths t limit le small = content_lengths t limit small (omega arith)
