-- Lists.
use Rattle.std.proofs.Common.{◌≡◌, List, [], ◌∷◌, map, refl, ap}

pub map-of-map : {A B C : Type 0} (f : B → C) (g : A → B) (xs : List A) → map f (map g xs) ≡ map (λ x. f (g x)) xs
map-of-map f g [] = refl
map-of-map f g (x ∷ xs) = ap (λ ys. f (g x) ∷ ys) (map-of-map f g xs)
