-- A search through a list from one place on.
use Rattle.std.proofs.Common.{◌≡◌, ◌∙◌, ◌+◌, ◌<◌, ◌≤◌, ℕ, Bool, true, false, List, Some, None, add-one, ap, cond, drop, drop-cons, find, get_or, length, suc, sym}
use Rattle.std.proofs.lemmas.List.{drop_all}

module _ {X : Type 0} (p : X → Bool) (xs : List X) (i : ℕ) where
  -- where the item there passes, it is found
  pub find-here : (d : X) → i < length xs → p (get_or xs i d) ≡ true → find p (drop i xs) ≡ Some (get_or xs i d)
  find-here d below passes = ap (find p) (drop-cons xs i d below) ∙ ap (λ b. cond b (Some (get_or xs i d)) (find p (drop (suc i) xs))) passes

  -- where it doesn't, the search goes on
  pub find-later : (d : X) → i < length xs → p (get_or xs i d) ≡ false → find p (drop i xs) ≡ find p (drop (i + 1) xs)
  find-later d below fails = ap (find p) (drop-cons xs i d below) ∙ ap (λ b. cond b (Some (get_or xs i d)) (find p (drop (suc i) xs))) fails
      ∙ ap (λ n. find p (drop n xs)) (sym (add-one i))

  -- at the end nothing is found
  pub find-ended : length xs ≤ i → find p (drop i xs) ≡ None
  find-ended past = ap (find p) (drop_all i xs past)
