-- Groups, and single numbers, are rows of items.
use Rattle.std.proofs.Common.{◌≡◌, ℕ, zero, suc, ◌<◌, ◌≤◌, Bool, true, false, cond, List, [], ◌∷◌, get_or, length, refl, ap, sym, subst, zero-add, ◌∙◌, arith}
use Rattle.std.specs.List.{filter, range_with_len}
use Rattle.std.proofs.lemmas.List.Elements.{All-cons, All-filter, All-map, All-nil}
use Rattle.std.proofs.lemmas.List.FromFn.{get_or-range_with_len, length-range_with_len}
use Rattle.std.proofs.lemmas.List.Sums.{length-filter}
use Rattle.flow_map.specs.Grouping.{AreGrouped, firsts}
use Rattle.flow_map.proofs.Firsts.{firsts-below}
use Rattle.flow_map.proofs.Ranges.{count-few, range-below}
use Rattle.flow_page.specs.Rows.{AreRowsOf, IsRow, singles}

-- those that pass a test are at least one where one does
filter-some : (test : ℕ → Bool) (xs : List ℕ) (k : ℕ) → k < length xs → test (get_or xs k 0) ≡ true → 1 ≤ length (filter test xs)
filter-some test [] k less passes = absurd (omega (arith, less))
filter-some test (x ∷ xs) zero less passes =
    let P : Bool → Type 0 = λ b. 1 ≤ length (cond b (x ∷ filter test xs) (filter test xs)) in
    subst P (sym passes) (omega arith)
filter-some test (x ∷ xs) (suc k) less passes = at (test x) (filter-some test xs k (omega (arith, less)) passes)
  where
    at : (b : Bool) → 1 ≤ length (filter test xs) → 1 ≤ length (cond b (x ∷ filter test xs) (filter test xs))
    at true rest = omega arith
    at false rest = rest

group-row : (test : ℕ → Bool) (n x : ℕ) → x < n → test x ≡ true → IsRow n (filter test (range_with_len 0 n))
group-row test n x less passes =
    let here : x < length (range_with_len 0 n) = subst (λ m. x < m) (sym (length-range_with_len 0 n)) less in
    let at : get_or (range_with_len 0 n) x 0 ≡ x = get_or-range_with_len 0 n x 0 less ∙ zero-add x in
    record {
      some = filter-some test (range_with_len 0 n) x here (ap test at ∙ passes);
      few = subst (λ m. m ≤ n) (sym (length-filter test (range_with_len 0 n))) (count-few test n);
      within = All-filter test (λ i. i < n) (range_with_len 0 n) (range-below n);
    }

pub grouped-rows : {A : Type 0} (keys : List A) (numbers : List (List ℕ)) → AreGrouped keys numbers → AreRowsOf (length keys) numbers
grouped-rows keys numbers are =
    let n = length keys in
    let group = λ (x : ℕ). filter (are.same x) (range_with_len 0 n) in
    subst (AreRowsOf n) (sym are.groups_are)
    (All-map (IsRow n) group (firsts are.same (range_with_len 0 n))
    (λ k d less. let low = firsts-below are.same n k d less in
    group-row (are.same (get_or (firsts are.same (range_with_len 0 n)) k d)) n (get_or (firsts are.same (range_with_len 0 n)) k d) low ((are.decides _ _ low low).1 refl)))

pub single-rows : (n : ℕ) → AreRowsOf n (singles n)
single-rows n =
    All-map (IsRow n) (λ i. i ∷ []) (range_with_len 0 n)
    (λ k d less.
    let low = range-below n k d less in
    record { some = omega arith; few = omega (arith, low); within = All-cons (λ i. i < n) _ [] low (All-nil (λ i. i < n)) })
