-- Steps of loops over objects and links.
use Rattle.std.specs.Prelude.{◌≡◌, ℕ, ◌+◌, ◌<◌, List, [], ◌∷◌, ◌++◌, flat_map, map, take, length, get_or}
use Rattle.std.proofs.Common.{sym, ap, ◌∙◌, zero, suc, arith}
use Rattle.std.proofs.lemmas.List.{map-append, take_more, flat_map_more}
use Rattle.cosem_data.specs.declared.cell.CellRef.{CellRef}
use Rattle.flow_edges.specs.declared.table.Link.{Link}
use Rattle.flow_edges.specs.Table.{IsLink, AreWithin}

-- the lists of one element more
pub flat_more : {B E : Type 0} (f : B → List E) (xs : List B) (i : ℕ) (x : B) → i < length xs → x ≡ get_or xs i x →
    flat_map f (take i xs) ++ f x ≡ flat_map f (take (i + 1) xs)
flat_more f xs i x within is =
    ap (λ y. flat_map f (take i xs) ++ f y) is
    ∙ (flat_map_more f [] (take i xs) (get_or xs i x)
    ∙ ap (flat_map f) (sym (take_more xs i x within)))

-- each link of a list is between cells
pub link_within : (cells : List CellRef) (ls : List Link) (i : ℕ) (l : Link) → AreWithin cells ls → i < length ls → IsLink cells (get_or ls i l)
link_within cells [] i l h less = absurd (omega arith)
link_within cells (k ∷ ls) zero l h less = h.0
link_within cells (k ∷ ls) (suc i) l h less = link_within cells ls i l h.1 (omega arith)

-- a list of what each gives, with one more
pub maps-more : {A B X : Type 0} (f : A → B) (g : X → B) (xs : List A) (ys : List X) (i : ℕ) (x : A) (y : X) → i < length xs → x ≡ get_or xs i x → map g ys ≡ map f (take i xs) → g y ≡ f x →
    map g (ys ++ y ∷ []) ≡ map f (take (i + 1) xs)
maps-more f g xs ys i x y within is so_far same =
    map-append g ys (y ∷ [])
    ∙ ap (λ zs. zs ++ g y ∷ []) so_far
    ∙ ap (λ z. map f (take i xs) ++ z ∷ []) (same ∙ ap f is)
    ∙ sym (map-append f (take i xs) (get_or xs i x ∷ []))
    ∙ ap (map f) (sym (take_more xs i x within))
