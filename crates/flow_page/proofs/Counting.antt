-- Sums of counts.
use Rattle.std.proofs.Common.{◌≡◌, ◌≤◌, ◌==◌, ℕ, ◌+◌, Bool, true, false, not, List, [], ◌∷◌, ◌++◌, ap, ◌∙◌, arith}
use Rattle.std.specs.Int.{from_bool}
use Rattle.std.specs.List.{range_with_len}
use Rattle.std.specs.Prelude.{nat_lt, Option, Some, None}
use Rattle.std.proofs.lemmas.List.Sums.{sum_by_push}
use Rattle.meter_theory.specs.declared.flow.Reach.{Reach}
use Rattle.flow_map.proofs.Ranges.{range-more}
use Rattle.flow_page.specs.Clients.{counted, counted_at, counts_of, plus, size_of, sum_of, total_of}
use Rattle.flow_page.specs.Marks.{Told}
use Rattle.flow_page.specs.declared.page.ClientRow.{ClientRow}
use Rattle.flow_page.specs.declared.page.Counts.{Counts}

-- one more
pub sum-push : {A : Type 0} (f : A → Counts) (xs : List A) (x : A) → sum_of f (xs ++ x ∷ []) ≡ plus (sum_of f xs) (f x)
sum-push f xs x =
    let by_right = sum_by_push (λ y. (f y).by_right) xs x in
    let by_edges = sum_by_push (λ y. (f y).by_edges) xs x in
    let not_allowed = sum_by_push (λ y. (f y).not_allowed) xs x in
    let no_way = sum_by_push (λ y. (f y).no_way) xs x in
    λ i. record { by_right = by_right i; by_edges = by_edges i; not_allowed = not_allowed i; no_way = no_way i }

pub counts-more : (t : Told) (reach : Reach) (c n : ℕ) → counts_of t reach c (n + 1) ≡ plus (counts_of t reach c n) (counted_at t reach c n)
counts-more t reach c n = ap (sum_of (counted_at t reach c)) (range-more n) ∙ sum-push (counted_at t reach c) (range_with_len 0 n) n

pub total-more : (rows : List ClientRow) (row : ClientRow) → total_of (rows ++ row ∷ []) ≡ plus (total_of rows) (plus row.influence row.learn)
total-more rows row = sum-push (λ (r : ClientRow). plus r.influence r.learn) rows row

-- a cell counts as little
one-at-most : (b : Bool) → from_bool b ≤ 1
one-at-most true = omega arith
one-at-most false = omega arith

pub counted-few : (d : Option ℕ) (allowed : Bool) → size_of (counted d allowed) ≤ 3
counted-few None allowed = omega (arith, one-at-most allowed)
counted-few (Some d) allowed = omega (arith, one-at-most (d == 0), one-at-most (nat_lt 0 d), one-at-most (not allowed))
