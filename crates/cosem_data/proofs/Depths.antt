-- The depth of a value, and of the values of a list.
use Rattle.std.proofs.Common.{◌≡◌, ℕ, zero, suc, ◌+◌, ◌-◌, ◌<◌, ◌≤◌, max, List, [], ◌∷◌, map, take, length, get_or, sym, ap, ◌∙◌, nat_le, arith, ◌⊎◌, inl, inr, add-one}
use Rattle.std.proofs.lemmas.Bool.Decides.{nat_tests}
use Rattle.cosem_data.specs.Tree.{Tree, depth, deepest}
use Rattle.cosem_data.specs.View.{tree}
use Rattle.cosem_data.specs.Falls.{depth_of-trees}
use Rattle.cosem_data.specs.declared.data.Data.{Data}
use Rattle.cosem_data.specs.declared.data.Data.TheVariants as kinds

-- an array or a structure is one deeper than its parts
pub one_deeper : (d : Data) (ts : List Tree) → (d ≡ kinds.Array ts) ⊎ (d ≡ kinds.Structure ts) → depth (tree d) ≡ suc (deepest ts)
one_deeper d ts (inl e) = ap (λ (x : Data). depth (tree x)) e ∙ ap suc (depth_of-trees ts)
one_deeper d ts (inr e) = ap (λ (x : Data). depth (tree x)) e ∙ ap suc (depth_of-trees ts)

-- one level more fits where the rest fits into one less
pub one_level : (n most : ℕ) → 0 < most → nat_le n (most - 1) ≡ nat_le (suc n) most
one_level n most more = grind (arith, nat_tests)

one_more : (ds : List Data) (i : ℕ) (d : Data) → i < length ds → deepest (map tree (take (suc i) ds)) ≡ max (deepest (map tree (take i ds))) (depth (tree (get_or ds i d)))
one_more [] i d lt = absurd (omega arith)
one_more (e ∷ ds) zero d lt = omega arith
one_more (e ∷ ds) (suc i) d lt = omega (arith, one_more ds i d (omega arith))

-- the depth of the first values with one more
pub deepest-take_more : (ds : List Data) (i : ℕ) (d : Data) → i < length ds → d ≡ get_or ds i d → deepest (map tree (take (i + 1) ds)) ≡ max (deepest (map tree (take i ds))) (depth (tree d))
deepest-take_more ds i d lt at =
    ap (λ (n : ℕ). deepest (map tree (take n ds))) (add-one i) ∙ one_more ds i d lt ∙ ap (λ (x : Data). max (deepest (map tree (take i ds))) (depth (tree x))) (sym at)

some_depth : (ds : List Data) (i : ℕ) (d : Data) → i < length ds → depth (tree (get_or ds i d)) ≤ deepest (map tree ds)
some_depth [] i d lt = absurd (omega arith)
some_depth (e ∷ ds) zero d lt = omega arith
some_depth (e ∷ ds) (suc i) d lt = omega (arith, some_depth ds i d (omega arith))

-- no value is deeper than its list
pub depth-deepest : (ds : List Data) (i : ℕ) (d : Data) → i < length ds → d ≡ get_or ds i d → depth (tree d) ≤ deepest (map tree ds)
depth-deepest ds i d lt at = omega (arith, some_depth ds i d lt, ap (λ (x : Data). depth (tree x)) at)
