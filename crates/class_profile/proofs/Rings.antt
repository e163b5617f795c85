-- The trees of the rows in a ring.
use Rattle.std.proofs.Common.{◌≡◌, ℕ, ◌-◌, ◌<◌, ◌≤◌, ◌==◌, Bool, true, false, List, [], ◌∷◌, ◌++◌, length, map, take, drop, Some, None, if◌then◌else◌, slice_get, option_map, sym, ap, ◌∙◌, refl, arith}
use Rattle.std.proofs.lemmas.List.{map-append, take-map, drop-map, take_all, length-take, length-map}
use Rattle.std.proofs.lemmas.Option.{slice_get-map}
use Rattle.cosem_data.specs.View.{tree}
use Rattle.cosem_data.specs.declared.data.Data.{Data}
use Rattle.meter_theory.specs.Lists.{keep_last}
use Rattle.class_profile.specs.Reversal.{rows_before}
use Rattle.class_profile.proofs.TakenBack.{rows_before-some}

-- the last rows with the newest behind
pub kept_rows : (n : ℕ) (xs : List Data) (row : Data) → map tree (keep_last n (xs ++ row ∷ [])) ≡ keep_last n (map tree xs ++ tree row ∷ [])
kept_rows n xs row =
    sym (drop-map tree (length (xs ++ row ∷ []) - n) (xs ++ row ∷ []))
    ∙ ap (λ m. drop (m - n) (map tree (xs ++ row ∷ []))) (sym (length-map (xs ++ row ∷ []) tree))
    ∙ ap (keep_last n) (map-append tree xs (row ∷ []))

-- the oldest row, where there are so many
pub oldest_row : (entries : ℕ) (xs : List Data) → option_map tree (if length xs == entries then slice_get xs 0 else None)
    ≡ (if length (map tree xs) == entries then slice_get (map tree xs) 0 else None)
oldest_row entries xs = at (length xs == entries) ∙ ap (λ n. if n == entries then slice_get (map tree xs) 0 else None) (sym (length-map xs tree))
  where
    at : (full : Bool) → option_map tree (if full then slice_get xs 0 else None) ≡ (if full then slice_get (map tree xs) 0 else None)
    at true = sym (slice_get-map tree xs 0)
    at false = refl

-- the rows without the newest
pub front_rows : (xs : List Data) → map tree (take (length xs - 1) xs) ≡ take (length (map tree xs) - 1) (map tree xs)
front_rows xs = sym (take-map tree (length xs - 1) xs) ∙ ap (λ m. take (m - 1) (map tree xs)) (sym (length-map xs tree))

-- a row in front of the rows without the newest, which leave room for it
pub row_in_front : (places : ℕ) (xs : List Data) (row : Data) → 0 < length xs → length xs ≤ places →
    map tree (take places (row ∷ take (length xs - 1) xs)) ≡ rows_before (Some (tree row)) (map tree xs)
row_in_front places xs row some fits =
    let kept : 0 < length (map tree xs) = let l = length-map xs tree in omega arith in
    ap (map tree) (take_all places (row ∷ take (length xs - 1) xs) (omega (arith, length-take (length xs - 1) xs)))
    ∙ ap (λ ts. tree row ∷ ts) (front_rows xs)
    ∙ sym (rows_before-some (tree row) (map tree xs) kept)
