-- The rows of a profile in two parts, against the parts of an array.
use Rattle.std.proofs.Common.{◌≡◌, Bool, true, false, ◌&&◌, List, [], ◌∷◌, ◌++◌, map, length, take, drop, refl, sym, ap, ◌∙◌}
use Rattle.std.proofs.lemmas.List.{map-append}
use Rattle.std.specs.Cmp.Lexicographic.{pointwise}
use Rattle.cosem_data.specs.Equal.{same_data, same_parts, same_tree}
use Rattle.cosem_data.specs.Tree.{Tree}
use Rattle.cosem_data.specs.View.{tree}
use Rattle.cosem_data.specs.declared.data.Data.{Data}

-- lists of values are compared value by value
same_parts-map : (xs ys : List Data) → same_parts (map tree xs) (map tree ys) ≡ pointwise same_data xs ys
same_parts-map [] [] = refl
same_parts-map [] (y ∷ ys) = refl
same_parts-map (x ∷ xs) [] = refl
same_parts-map (x ∷ xs) (y ∷ ys) = ap (λ b. same_tree (tree x) (tree y) && b) (same_parts-map xs ys)

and_again : (a b c : Bool) → (a && (b && c)) ≡ ((a && b) && c)
and_again true b c = refl
and_again false b c = refl

-- a list is compared with two others, one behind the other
pointwise-append : {A : Type 0} (E : A → A → Bool) (s p q : List A) →
    pointwise E s (p ++ q) ≡ (pointwise E (take (length p) s) p && pointwise E (drop (length p) s) q)
pointwise-append E s [] q = refl
pointwise-append E [] (x ∷ p) q = refl
pointwise-append E (y ∷ s) (x ∷ p) q =
    ap (λ b. E y x && b) (pointwise-append E s p q) ∙ and_again (E y x) (pointwise E (take (length p) s) p) (pointwise E (drop (length p) s) q)

-- the parts of an array against the older rows and those behind
rows-apart : (parts older newer : List Data) (rows : List Tree) → map tree older ++ map tree newer ≡ rows →
    same_parts (map tree parts) rows ≡ (pointwise same_data (take (length older) parts) older && pointwise same_data (drop (length older) parts) newer)
rows-apart parts older newer rows is =
    ap (same_parts (map tree parts)) (sym is ∙ sym (map-append tree older newer))
    ∙ same_parts-map parts (older ++ newer)
    ∙ pointwise-append same_data parts older newer

-- where the older rows stand in front
pub rows-behind : (parts older newer others : List Data) (rows : List Tree) (same : Bool) → map tree older ++ map tree newer ≡ rows →
    pointwise same_data (take (length older) parts) older ≡ true → others ≡ drop (length older) parts → same ≡ pointwise same_data others newer →
    same ≡ same_parts (map tree parts) rows
rows-behind parts older newer others rows same is front behind e =
    e ∙ ap (λ l. pointwise same_data l newer) behind
    ∙ sym (rows-apart parts older newer rows is ∙ ap (λ b. b && pointwise same_data (drop (length older) parts) newer) front)

-- where they don't
pub rows-other : (parts older newer : List Data) (rows : List Tree) → map tree older ++ map tree newer ≡ rows →
    pointwise same_data (take (length older) parts) older ≡ false → false ≡ same_parts (map tree parts) rows
rows-other parts older newer rows is front =
    sym (rows-apart parts older newer rows is ∙ ap (λ b. b && pointwise same_data (drop (length older) parts) newer) front)
