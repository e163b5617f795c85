-- A list that is gone over in place: what stands before an index is done, and what stands from it on is as it was.
use Rattle.std.proofs.Common.{◌≡◌, ℕ, ◌+◌, ◌<◌, List, [], ◌∷◌, ◌++◌, map, flat_map, length, take, drop, set, get_or, sym, ap, ap₂, ◌∙◌, arith}
use Rattle.std.proofs.lemmas.Grind.{drop_more_same}
use Rattle.std.proofs.lemmas.List.{drop-set-lt, flat_map_more, get_or-drop, map-append, take_more, take_more_set}

at_front : {A : Type 0} (xs : List A) (i : ℕ) (d : A) → get_or (drop i xs) 0 d ≡ get_or xs i d
at_front xs i d = get_or-drop i xs 0 d ∙ ap (λ n. get_or xs n d) (omega arith)

-- what stands at the index is as it was
pub still : {A : Type 0} (xs ys : List A) (i : ℕ) (d : A) → drop i xs ≡ drop i ys → get_or xs i d ≡ get_or ys i d
still xs ys i d left = sym (at_front xs i d) ∙ ap (λ l. get_or l 0 d) left ∙ at_front ys i d

pub left_more : {A : Type 0} (xs ys : List A) (i : ℕ) (x : A) → drop i xs ≡ drop i ys → drop (i + 1) (set xs i x) ≡ drop (i + 1) ys
left_more xs ys i x left = drop-set-lt (i + 1) xs i x (omega arith) ∙ drop_more_same xs ys i left

pub done_more : {A : Type 0} (g : A → A) (xs ys : List A) (i : ℕ) (x d : A) → i < length xs → i < length ys →
    take i xs ≡ map g (take i ys) → x ≡ g (get_or ys i d) → take (i + 1) (set xs i x) ≡ map g (take (i + 1) ys)
done_more g xs ys i x d h k done new =
    take_more_set xs i x h ∙ ap₂ (λ front y. front ++ y ∷ []) done new
    ∙ sym (ap (map g) (take_more ys i d k) ∙ map-append g (take i ys) (get_or ys i d ∷ []))

pub told_more : {A B : Type 0} (f : A → List B) (ys : List A) (i : ℕ) (d : A) (first before after : List B) → i < length ys →
    before ≡ first ++ flat_map f (take i ys) → after ≡ before ++ f (get_or ys i d) → after ≡ first ++ flat_map f (take (i + 1) ys)
told_more f ys i d first before after k told new =
    new ∙ ap (λ l. l ++ f (get_or ys i d)) told ∙ flat_map_more f first (take i ys) (get_or ys i d)
    ∙ ap (λ l. first ++ flat_map f l) (sym (take_more ys i d k))
