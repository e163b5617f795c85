-- Where a test decides whether keys are equal, the groups by it are those of equal keys.
use Rattle.std.proofs.Common.{◌≡◌, ℕ, zero, suc, ◌<◌, Bool, List, [], ◌∷◌, Option, Some, None, option_map, length, map, refl, ap, ap₂, sym, subst, ◌∙◌, arith}
use Rattle.std.specs.Bool.{Decides}
use Rattle.std.specs.List.{range_with_len}
use Rattle.std.specs.Prelude.{slice_get}
use Rattle.std.proofs.lemmas.Bool.Decides.{Decides-like}
use Rattle.std.proofs.lemmas.List.{length-map}
use Rattle.std.proofs.lemmas.Option.{slice_get-map}
use Rattle.flow_map.specs.Grouping.{AreGrouped, both_same, groups, same_at}

module _ {K A : Type 0} (eq : K → K → Bool) (view : K → A) (decides : (a b : K) → Decides (eq a b) (view a ≡ view b)) where
  some-view : (a b : A) → Some a ≡ Some b → a ≡ b
  some-view a b e = cc

  one-there : (x : K) (ys : List K) (j : ℕ) → j < length ys → Decides (both_same eq (Some x) (slice_get ys j)) (Some (view x) ≡ slice_get (map view ys) j)
  one-there x [] j less = absurd (omega (arith, less))
  one-there x (y ∷ ys) zero less = Decides-like (eq x y) (λ e. ap Some e) (some-view (view x) (view y)) (decides x y)
  one-there x (y ∷ ys) (suc j) less = one-there x ys j (omega (arith, less))

  both-there : (xs ys : List K) (i j : ℕ) → i < length xs → j < length ys →
      Decides (both_same eq (slice_get xs i) (slice_get ys j)) (slice_get (map view xs) i ≡ slice_get (map view ys) j)
  both-there [] ys i j low less = absurd (omega (arith, low))
  both-there (x ∷ xs) ys zero j low less = one-there x ys j less
  both-there (x ∷ xs) ys (suc i) j low less = both-there xs ys i j (omega (arith, low)) less

  pub are-grouped : (keys : List K) (numbers : List (List ℕ)) → numbers ≡ groups (same_at eq keys) (range_with_len 0 (length keys)) → AreGrouped (map view keys) numbers
  are-grouped keys numbers is =
      let long = length-map keys view in
      record {
        same = same_at eq keys;
        decides = λ i j low less. both-there keys keys i j (subst (λ n. i < n) long low) (subst (λ n. j < n) long less);
        groups_are = is ∙ ap (λ n. groups (same_at eq keys) (range_with_len 0 n)) (sym long);
      }

-- Groups of items by keys that are made of them are groups by a test of the items.
module _ {X K : Type 0} (eq : K → K → Bool) (key : X → K) where
  keyed : X → X → Bool
  keyed x y = eq (key x) (key y)

  both-keyed : (a b : Option X) → both_same eq (option_map key a) (option_map key b) ≡ both_same keyed a b
  unfolding keyed
  both-keyed (Some x) (Some y) = refl
  both-keyed (Some x) None = refl
  both-keyed None b = refl

  pub by-keys : (xs : List X) → groups (same_at eq (map key xs)) (range_with_len 0 (length (map key xs))) ≡ groups (same_at (λ x y. eq (key x) (key y)) xs) (range_with_len 0 (length xs))
  unfolding keyed
  by-keys xs =
      ap₂ (λ test n. groups test (range_with_len 0 n))
      (λ k i j. (ap₂ (both_same eq) (slice_get-map key xs i) (slice_get-map key xs j) ∙ both-keyed (slice_get xs i) (slice_get xs j)) k) (length-map xs key)
