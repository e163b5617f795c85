-- What loops put behind others, one number later.
use Rattle.std.proofs.Common.{◌≡◌, ℕ, ◌+◌, List, ◌++◌, flat_map, ap, sym, ◌∙◌}
use Rattle.std.specs.List.{range_with_len}
use Rattle.std.proofs.lemmas.List.{append_assoc, flat_map_more}
use Rattle.flow_map.proofs.Ranges.{flat-next, range-more}

-- two parts at a time
pub pair-next : {A : Type 0} (f : ℕ → List A) (n : ℕ) (old mid new xs ys : List A) → old ≡ flat_map f (range_with_len 0 n) → mid ≡ old ++ xs → new ≡ mid ++ ys → xs ++ ys ≡ f n →
    new ≡ flat_map f (range_with_len 0 (n + 1))
pair-next f n old mid new xs ys before first second is =
    flat-next f n old new before (second ∙ (ap (λ m. m ++ ys) first ∙ (append_assoc old xs ys ∙ ap (λ zs. old ++ zs) is)))

-- behind what was there at first
pub behind-next : {A : Type 0} (f : ℕ → List A) (front : List A) (n : ℕ) (old new : List A) → old ≡ front ++ flat_map f (range_with_len 0 n) → new ≡ old ++ f n →
    new ≡ front ++ flat_map f (range_with_len 0 (n + 1))
behind-next f front n old new before put =
    put ∙ (ap (λ xs. xs ++ f n) before ∙ (flat_map_more f front (range_with_len 0 n) n ∙ ap (λ ks. front ++ flat_map f ks) (sym (range-more n))))
