-- Lists of values and their trees.
use Rattle.std.proofs.Common.{◌≡◌, ℕ, zero, suc, ◌+◌, ◌<◌, ◌≤◌, List, [], ◌∷◌, ◌++◌, map, length, get_or, take, drop, refl, append_assoc, ◌-◌, sym, ap, subst, ◌∙◌, arith}
use Rattle.std.specs.List.{AllByRecursion}
use Rattle.std.proofs.lemmas.List.{map_more, drop_more, take_all}
use Rattle.cosem_data.specs.Tree.{Tree, trees, depth, depth_of, deepest}
use Rattle.cosem_data.specs.Falls.{depth_of-trees}
use Rattle.cosem_data.specs.View.{tree}
use Rattle.cosem_data.specs.declared.data.Data.{Data}
use Rattle.value_words.specs.Words.{value_words, more_words}
use Rattle.value_words.specs.WordLaws.{HasRanges, HaveRanges}

pub depth_at : (xs : List Data) (i : ℕ) (x : Data) → i < length xs → x ≡ get_or xs i x → depth (tree x) ≤ deepest (map tree xs)
depth_at [] i x lt e = absurd (omega arith)
depth_at (y ∷ ys) zero x lt e = rw e (omega arith)
depth_at (y ∷ ys) (suc i) x lt e = let h = depth_at ys i x (omega arith) e in omega arith

pub part_depth : (items : List Tree) (xs : List Data) → map tree xs ≡ items → deepest (map tree xs) ≡ depth_of (trees items)
part_depth items xs e = ap deepest e ∙ sym (depth_of-trees items)

ranges-push : (ts : List Tree) (t : Tree) → HaveRanges (trees ts) → HasRanges t → HaveRanges (trees (ts ++ t ∷ []))
ranges-push [] t h r = (r, tt)
ranges-push (u ∷ us) t h r = (h.0, ranges-push us t h.1 r)

pub ranges_more : (xs : List Data) (i : ℕ) (x : Data) → i < length xs → x ≡ get_or xs i x → HaveRanges (trees (map tree (take i xs))) → HasRanges (tree x) → HaveRanges (trees (map tree (take (i + 1) xs)))
ranges_more xs i x lt e h r =
    let one : map tree (take (i + 1) xs) ≡ map tree (take i xs) ++ tree x ∷ [] = map_more tree xs i x lt ∙ ap (λ (y : Data). map tree (take i xs) ++ tree y ∷ []) (sym e) in
    subst (λ (ts : List Tree). HaveRanges (trees ts)) (sym one) (ranges-push (map tree (take i xs)) (tree x) h r)

pub part_ranges : (items : List Tree) (xs : List Data) → map tree xs ≡ items → HaveRanges (trees (map tree xs)) → HaveRanges (trees items)
part_ranges items xs e h = subst (λ (ts : List Tree). HaveRanges (trees ts)) e h

pub are_bytes : (bytes : List ℕ) → ((i : ℕ) → get_or bytes i 0 < 256) → AllByRecursion (λ b. b < 256) bytes
are_bytes [] h = tt
are_bytes (b ∷ bytes) h = (h 0, are_bytes bytes (λ i. h (suc i)))

-- the parts behind the first
tail_is : (x : Data) (xs : List Data) → take (length (x ∷ xs) - 1) (drop 1 (x ∷ xs)) ≡ xs
tail_is x xs = take_all (length (x ∷ xs) - 1) xs (omega arith)

deepest_tail : (xs ys : List Data) → ys ≡ take (length xs - 1) (drop 1 xs) → deepest (map tree ys) ≤ deepest (map tree xs)
deepest_tail [] ys e = rw e (omega arith)
deepest_tail (x ∷ xs) ys e = let is : deepest (map tree ys) ≡ deepest (map tree xs) = ap (λ (zs : List Data). deepest (map tree zs)) (e ∙ tail_is x xs) in omega arith

pub tail_depth : (xs : List Data) (i : ℕ) (x : Data) → i < length (take (length xs - 1) (drop 1 xs)) → x ≡ get_or (take (length xs - 1) (drop 1 xs)) i x → depth (tree x) ≤ deepest (map tree xs)
tail_depth xs i x lt e =
    let one = depth_at (take (length xs - 1) (drop 1 xs)) i x lt e in
    let two = deepest_tail xs (take (length xs - 1) (drop 1 xs)) refl in
    omega (arith, one, two)

-- one more part behind what is there
pub more_step : (now next whole : List ℕ) (xs : List Data) (i : ℕ) (x : Data) → i < length xs → x ≡ get_or xs i x → next ≡ (now ++ (44 ∷ 32 ∷ [])) ++ value_words (tree x)
    → now ++ more_words (trees (map tree (drop i xs))) ≡ whole → next ++ more_words (trees (map tree (drop (i + 1) xs))) ≡ whole
more_step now next whole xs i x lt e new so_far =
    let left = more_words (trees (map tree (drop (i + 1) xs))) in
    let here : drop i xs ≡ x ∷ drop (i + 1) xs = drop_more xs i x lt ∙ ap (λ (y : Data). y ∷ drop (i + 1) xs) (sym e) in
    ap (λ (t : List ℕ). t ++ left) new
    ∙ append_assoc (now ++ (44 ∷ 32 ∷ [])) (value_words (tree x)) left
    ∙ append_assoc now (44 ∷ 32 ∷ []) (value_words (tree x) ++ left)
    ∙ ap (λ (ys : List Data). now ++ more_words (trees (map tree ys))) (sym here)
    ∙ so_far
