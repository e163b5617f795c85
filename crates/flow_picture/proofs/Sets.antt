-- Sets of clients, made client by client.
use Rattle.std.proofs.Common.{◌≡◌, ◌<◌, ◌≤◌, ◌+◌, ◌-◌, ◌++◌, ◌∷◌, [], ℕ, zero, suc, Bool, false, cond, refl, sym, ap, ap₂, subst, append-nil, ◌∙◌, arith}
use Rattle.std.specs.List.{filter, range_with_len}
use Rattle.cosem_data.specs.declared.clients.ClientSet.{ClientSet}
use Rattle.meter_theory.specs.Labels.{has}
use Rattle.flow_map.proofs.Ranges.{filter-more}
use Rattle.flow_picture.specs.Boxes.{members}

-- those of the first clients who pass, and no other
pub record AreSoFar (test : ℕ → Bool) (k : ℕ) (set : ClientSet) : Type 0 where
  pub here : (c : ℕ) → c < k → has set c ≡ test c
  pub no_other : (c : ℕ) → k ≤ c → has set c ≡ false

alike-up-to : (p q : ℕ → Bool) (k : ℕ) → ((c : ℕ) → c < k → p c ≡ q c) → filter p (range_with_len 0 k) ≡ filter q (range_with_len 0 k)
alike-up-to p q zero same = refl
alike-up-to p q (suc k) same =
    let e : k + 1 ≡ suc k = omega arith in
    subst (λ m. filter p (range_with_len 0 m) ≡ filter q (range_with_len 0 m)) e
    (filter-more p k
    ∙ (ap₂ (λ xs t. xs ++ cond t (k ∷ []) []) (alike-up-to p q k (λ c less. same c (omega (arith, less)))) (same k (omega arith)) ∙ sym (filter-more q k)))

none-past : (p : ℕ → Bool) (n j : ℕ) → ((c : ℕ) → n ≤ c → p c ≡ false) → filter p (range_with_len 0 (n + j)) ≡ filter p (range_with_len 0 n)
none-past p n zero none = let e : n + 0 ≡ n = omega arith in ap (λ m. filter p (range_with_len 0 m)) e
none-past p n (suc j) none =
    let e : n + suc j ≡ (n + j) + 1 = omega arith in
    ap (λ m. filter p (range_with_len 0 m)) e
    ∙ (filter-more p (n + j)
    ∙ (ap₂ (λ xs t. xs ++ cond t ((n + j) ∷ []) []) (none-past p n j none) (none (n + j) (omega arith)) ∙ append-nil (filter p (range_with_len 0 n))))

-- where all have been looked at these are the members
pub members-so-far : (test : ℕ → Bool) (k n : ℕ) (set : ClientSet) → n ≤ 16 → k ≡ n → AreSoFar test k set → members set ≡ filter test (range_with_len 0 n)
unfolding members
members-so-far test k n set few all are =
    let e : 16 ≡ n + (16 - n) = omega (arith, few) in
    ap (λ m. filter (has set) (range_with_len 0 m)) e
    ∙ (none-past (has set) n (16 - n) (λ c past. are.no_other c (omega (arith, past, all)))
    ∙ alike-up-to (has set) test n (λ c less. are.here c (omega (arith, less, all))))
