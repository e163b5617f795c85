-- Each item is in exactly one group.
use Rattle.std.proofs.Common.{◌≡◌, ℕ, zero, suc, ◌<◌, Bool, true, false, cond, List, [], ◌∷◌, get_or, length, refl, ap, sym, subst, ◌∙◌, arith, ⊎_elim}
use Rattle.std.specs.List.{All, Any, Contains, filter, list_any, range_with_len}
use Rattle.std.specs.Prelude.{slice_get}
use Rattle.std.proofs.lemmas.Bool.{cases_lt, false≢true}
use Rattle.std.proofs.lemmas.List.{get_or-map, length-map}
use Rattle.std.proofs.lemmas.List.Elements.{All-contains, All-filter, filter_passes}
use Rattle.std.proofs.lemmas.List.Folds.{Any-from_list_any}
use Rattle.std.proofs.lemmas.List.FromFn.{get_or-range_with_len, length-range_with_len}
use Rattle.flow_map.specs.Grouping.{AreGrouped, IsInOne, firsts}
use Rattle.flow_map.proofs.Firsts.{apart, covers, firsts-below}
use Rattle.flow_map.proofs.Ranges.{range-below}

-- what passes stays in a filtered list
filtered : (test : ℕ → Bool) (xs : List ℕ) (k : ℕ) → k < length xs → test (get_or xs k 0) ≡ true → Contains (filter test xs) (get_or xs k 0)
filtered test [] k less passes = absurd (omega (arith, less))
filtered test (x ∷ xs) zero less passes = subst (λ b. Contains (cond b (x ∷ filter test xs) (filter test xs)) x) (sym passes) (0, omega arith, refl)
filtered test (x ∷ xs) (suc k) less passes = at (test x) (filtered test xs k (omega (arith, less)) passes)
  where
    at : (b : Bool) → Contains (filter test xs) (get_or xs k 0) → Contains (cond b (x ∷ filter test xs) (filter test xs)) (get_or xs k 0)
    at true (j, low, is) = (suc j, omega (arith, low), is)
    at false there = there

module _ {A : Type 0} (keys : List A) (numbers : List (List ℕ)) (are : AreGrouped keys numbers) where
  fs : List ℕ
  fs = firsts are.same (range_with_len 0 (length keys))

  group : ℕ → List ℕ
  group f = filter (are.same f) (range_with_len 0 (length keys))

  group-at : (k d : ℕ) → k < length fs → get_or numbers k [] ≡ group (get_or fs k d)
  unfolding fs group
  group-at k d less = ap (λ ns. get_or ns k []) are.groups_are ∙ get_or-map group fs k d [] less

  many : length numbers ≡ length fs
  unfolding fs group
  many = ap length are.groups_are ∙ length-map fs group

  low-first : (k d : ℕ) → k < length fs → get_or fs k d < length keys
  unfolding fs
  low-first k d less = firsts-below are.same (length keys) k d less

  low-in : (f : ℕ) → All (λ i. i < length keys) (group f)
  unfolding group
  low-in f = All-filter (are.same f) (λ i. i < length keys) (range_with_len 0 (length keys)) (range-below (length keys))

  -- who is in a group is as its first is
  as-first : (k d i : ℕ) → k < length fs → Contains (get_or numbers k []) i → are.same (get_or fs k d) i ≡ true
  unfolding group
  as-first k d i less has =
      All-contains (λ x. are.same (get_or fs k d) x ≡ true) (group (get_or fs k d)) i (filter_passes (are.same (get_or fs k d)) (range_with_len 0 (length keys)))
      (subst (λ xs. Contains xs i) (group-at k d less) has)

  -- groups are of numbers of the items
  pub low-member : (k i : ℕ) → k < length numbers → Contains (get_or numbers k []) i → i < length keys
  low-member k i less has =
      let here = subst (λ m. k < m) many less in
      All-contains (λ x. x < length keys) (group (get_or fs k 0)) i (low-in (get_or fs k 0)) (subst (λ xs. Contains xs i) (group-at k 0 here) has)

  pub alike-in-group : (k i j : ℕ) → k < length numbers → Contains (get_or numbers k []) i → Contains (get_or numbers k []) j → slice_get keys i ≡ slice_get keys j
  alike-in-group k i j less has-i has-j =
      let here = subst (λ m. k < m) many less in
      let low = low-first k 0 here in
      let first-i = (are.decides _ _ low (low-member k i less has-i)).0 (as-first k 0 i here has-i) in
      let first-j = (are.decides _ _ low (low-member k j less has-j)).0 (as-first k 0 j here has-j) in
      sym first-i ∙ first-j

  pub in-one-group : (i : ℕ) → i < length keys → IsInOne numbers i
  unfolding fs group
  in-one-group i less = record {
    group = any.0;
    there = subst (λ m. any.0 < m) (sym many) any.2;
    has = subst (λ xs. Contains xs i) (sym (group-at any.0 any.1 any.2)) (subst (λ f. Contains (group f) i) (sym any.3) in-group);
    no_other = λ k low has. alone k (subst (λ m. k < m) many low) (as-first k any.1 i (subst (λ m. k < m) many low) has);
  }
    where
      itself : All (λ x. are.same x x ≡ true) (range_with_len 0 (length keys))
      itself k d low = let below = range-below (length keys) k d low in (are.decides _ _ below below).1 refl

      at : get_or (range_with_len 0 (length keys)) i 0 ≡ i
      at = omega (arith, get_or-range_with_len 0 (length keys) i 0 less)

      here : i < length (range_with_len 0 (length keys))
      here = omega (arith, less, length-range_with_len 0 (length keys))

      any : Any (λ y. are.same y i ≡ true) fs
      any =
          Any-from_list_any (λ y. are.same y i) fs
          (subst (λ x. list_any (λ y. are.same y x) fs ≡ true) at (covers are.same (range_with_len 0 (length keys)) itself i 0 here))

      in-group : Contains (group any.1) i
      in-group =
          subst (Contains (group any.1)) at
          (filtered (are.same any.1) (range_with_len 0 (length keys)) i here (subst (λ x. are.same any.1 x ≡ true) (sym at) any.4))

      alone : (k : ℕ) → k < length fs → are.same (get_or fs k any.1) i ≡ true → k ≡ any.0
      alone k low passes =
          let mine = low-first any.0 any.1 any.2 in
          let other = low-first k any.1 low in
          let first = subst (λ f. are.same f i ≡ true) (sym any.3) any.4 in
          let alike = (are.decides _ _ other less).0 passes ∙ sym ((are.decides _ _ mine less).0 first) in
          let far = apart are.same (range_with_len 0 (length keys)) in
          ⊎_elim
          (λ before. absurd (false≢true (sym (far k any.0 any.1 before any.2) ∙ (are.decides _ _ other mine).1 alike)))
          (λ from. ⊎_elim
          (λ behind. absurd (false≢true (sym (far any.0 k any.1 behind low) ∙ (are.decides _ _ mine other).1 (sym alike))))
          (λ upto. omega (arith, from, upto)) (cases_lt any.0 k))
          (cases_lt k any.0)
