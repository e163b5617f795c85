-- Rounds of ways: what is within so many rounds, and that rounds stand still.
use Rattle.std.proofs.Common.{◌≡◌, ◌+◌, ◌<◌, ◌≤◌, ◌⊎◌, ℕ, zero, suc, Bool, true, false, ◌&&◌, ◌||◌, cond, List, [], ◌∷◌, length, refl, sym, ap, ap₂, subst, ◌∙◌, inl, inr, arith}
use Rattle.std.specs.List.{list_any}
use Rattle.std.proofs.lemmas.Bool.{and_from, and_parts, or_left, or_right, or_cases}
use Rattle.cosem_data.proofs.Same.{same_cell-true, same_cell-refl}
use Rattle.cosem_data.specs.Cells.{same_cell}
use Rattle.cosem_data.specs.declared.cell.CellRef.{CellRef}
use Rattle.meter_theory.specs.Edges.{IsEdge, edges}
use Rattle.meter_theory.specs.Lists.{IsIn}
use Rattle.meter_theory.specs.Plan.{Plan, cells}
use Rattle.meter_theory.specs.Sound.{IsSound}
use Rattle.meter_theory.specs.Ways.{Grants, IsWay, far_end, is_granted, is_within, near_end}
use Rattle.meter_theory.specs.declared.flow.Edge.{Edge}
use Rattle.meter_theory.specs.declared.flow.Reach.{Reach}
use Rattle.meter_theory.specs.declared.flow.Reach.TheVariants.{Influence, Learn}
use Rattle.meter_theory.proofs.Admission.{changer_found, changer_from}
use Rattle.meter_theory.proofs.Check.{edge-listed, edge_target, listed-edge, method_cells}
use Rattle.meter_theory.proofs.Ends.{edge_source}
use Rattle.meter_theory.proofs.Lists.{any_in, in_any}
use Rattle.meter_theory.proofs.Writes.{write-cells}

-- How many pass a test

abbrev count : {A : Type 0} → (A → Bool) → List A → ℕ
count test [] = 0
count test (x ∷ xs) = cond (test x) (suc (count test xs)) (count test xs)

count-few : {A : Type 0} (test : A → Bool) (xs : List A) → count test xs ≤ length xs
count-few test [] = omega arith
count-few test (x ∷ xs) = at (test x) (count-few test xs)
  where
    at : (b : Bool) → count test xs ≤ length xs → cond b (suc (count test xs)) (count test xs) ≤ suc (length xs)
    at true h = omega arith
    at false h = omega arith

as-many : {A : Type 0} (test other : A → Bool) (xs : List A) → ((x : A) → IsIn xs x → other x ≡ test x) → count other xs ≡ count test xs
as-many test other [] h = refl
as-many test other (x ∷ xs) h = ap₂ (λ b n. cond b (suc n) n) (h x (inl refl)) (as-many test other xs (λ y i. h y (inr i)))

-- a wider test passes the same, or more pass it
same-or-more : {A : Type 0} (test wider : A → Bool) (xs : List A) → ((x : A) → test x ≡ true → wider x ≡ true) →
    ((x : A) → IsIn xs x → wider x ≡ test x) ⊎ (count test xs < count wider xs)
same-or-more test wider [] h = inl (λ x i. absurd i)
same-or-more {A = A} test wider (x ∷ xs) h = at (test x) (wider x) refl refl (same-or-more test wider xs h)
  where
    both : (a : Bool) → test x ≡ a → wider x ≡ a → ((y : A) → IsIn xs y → wider y ≡ test y) → (y : A) → IsIn (x ∷ xs) y → wider y ≡ test y
    both a p q same y (inl e) = ap wider e ∙ (q ∙ sym p) ∙ ap test (sym e)
    both a p q same y (inr i) = same y i

    least : ((y : A) → IsIn xs y → wider y ≡ test y) ⊎ (count test xs < count wider xs) → count test xs ≤ count wider xs
    least (inl same) = omega (arith, as-many test wider xs same)
    least (inr more) = omega (arith, more)

    at : (a b : Bool) → test x ≡ a → wider x ≡ b → ((y : A) → IsIn xs y → wider y ≡ test y) ⊎ (count test xs < count wider xs) →
        ((y : A) → IsIn (x ∷ xs) y → wider y ≡ test y)
        ⊎ (cond a (suc (count test xs)) (count test xs) < cond b (suc (count wider xs)) (count wider xs))
    at true true p q (inl same) = inl (both true p q same)
    at false false p q (inl same) = inl (both false p q same)
    at true true p q (inr more) = inr (omega (arith, more))
    at false false p q (inr more) = inr more
    at false true p q r = inr (omega (arith, least r))
    at true false p q r = absurd (lost (h x p))
      where
        lost : wider x ≡ true → ⊥
        lost e = cc

none-counted : {A : Type 0} (test : A → Bool) (xs : List A) → count test xs ≡ 0 → (x : A) → IsIn xs x → test x ≡ false
none-counted test [] none x i = absurd i
none-counted {A = A} test (y ∷ xs) none x i = at (test y) refl none (none-counted test xs) i
  where
    at : (b : Bool) → test y ≡ b → cond b (suc (count test xs)) (count test xs) ≡ 0 → (count test xs ≡ 0 → (z : A) → IsIn xs z → test z ≡ false) →
        IsIn (y ∷ xs) x → test x ≡ false
    at true p e rest j = absurd (omega (arith, e))
    at false p e rest (inl same) = ap test same ∙ p
    at false p e rest (inr j) = rest e x j

and-false : (a : Bool) → (a && false) ≡ false
and-false true = refl
and-false false = refl

-- tests that agree on a list find the same
any-same : {A : Type 0} (test other : A → Bool) (xs : List A) → ((x : A) → IsIn xs x → test x ≡ other x) → list_any test xs ≡ list_any other xs
any-same test other [] h = refl
any-same test other (x ∷ xs) h = ap₂ (λ a b. a || b) (h x (inl refl)) (any-same test other xs (λ y i. h y (inr i)))

last-or-before : (k j : ℕ) → k ≤ suc j → (k ≡ suc j) ⊎ (k ≤ j)
last-or-before k j h = grind arith

any-false : {A : Type 0} (test : A → Bool) (xs : List A) → ((x : A) → IsIn xs x → test x ≡ false) → list_any test xs ≡ false
any-false test [] h = refl
any-false test (x ∷ xs) h = ap₂ (λ a b. a || b) (h x (inl refl)) (any-false test xs (λ y i. h y (inr i)))

module _ (P : Plan) (sound : IsSound P) where
  -- what a right grants is a cell of the plan
  pub granted-cell : (reach : Reach) (c : ℕ) (x : CellRef) → Grants P reach c x → IsIn (cells P) x
  granted-cell Influence c x (inl h) = write-cells P h.0 h.1 x h.3
  granted-cell Influence c x (inr h) = method_cells P sound h.0 x h.2
  granted-cell Learn c x h = h.0

  -- and the test tells so
  granted-found : (reach : Reach) (c : ℕ) (x : CellRef) → Grants P reach c x → is_granted P reach c x ≡ true
  granted-found Influence c x h = changer_found P c x h
  granted-found Learn c x h = h.1

  granted-from : (reach : Reach) (c : ℕ) (x : CellRef) → IsIn (cells P) x → is_granted P reach c x ≡ true → Grants P reach c x
  granted-from Influence c x there h = changer_from P c x there h
  granted-from Learn c x there h = (there, h)

  -- edges join cells of the plan
  pub near-cell : (reach : Reach) (e : Edge) → IsEdge P e → IsIn (cells P) (near_end reach e)
  near-cell Influence e is = edge_source P sound e is
  near-cell Learn e is = edge_target P sound e is

  pub far-cell : (reach : Reach) (e : Edge) → IsEdge P e → IsIn (cells P) (far_end reach e)
  far-cell Influence e is = edge_target P sound e is
  far-cell Learn e is = edge_source P sound e is

  module _ (reach : Reach) (c : ℕ) where
    abbrev within : ℕ → CellRef → Bool
    within k x = is_within P reach c k x

    abbrev leads : ℕ → CellRef → Edge → Bool
    leads k x e = same_cell (far_end reach e) x && within k (near_end reach e)

    -- a way is within as many rounds as it has edges
    pub way-within : (x : CellRef) (es : List Edge) → IsWay P reach c x es → within (length es) x ≡ true
    way-within x [] h = granted-found reach c x h
    way-within x (e ∷ es) h =
        or_right (within (length es) x) (list_any (leads (length es) x) (edges P))
        (in_any (leads (length es) x) (edges P) e (edge-listed P sound e h.0)
        (and_from (same_cell (far_end reach e) x) (within (length es) (near_end reach e))
        (subst (λ z. same_cell (far_end reach e) z ≡ true) h.1 (same_cell-refl (far_end reach e)))
        (way-within (near_end reach e) es h.2)))

    pub later : (k j : ℕ) (x : CellRef) → k ≤ j → within k x ≡ true → within j x ≡ true
    later k zero x less h = let e : k ≡ 0 = omega (arith, less) in subst (λ n. within n x ≡ true) e h
    later k (suc j) x less h =
        elim (last-or-before k j less) [
          | inl e ↦ subst (λ n. within n x ≡ true) e h
          | inr before ↦ or_left (within j x) (list_any (leads j x) (edges P)) (later k j x before h)
        ]

    -- what leads to a cell from within so many rounds
    pub led-by : (k : ℕ) (x : CellRef) (e : Edge) → leads k x e ≡ true → (far_end reach e ≡ x) × (within k (near_end reach e) ≡ true)
    led-by k x e h =
        let parts = and_parts (same_cell (far_end reach e) x) (within k (near_end reach e)) h in
        (same_cell-true (far_end reach e) x parts.0, parts.1)

    pub within-way : (k : ℕ) (x : CellRef) → IsIn (cells P) x → within k x ≡ true → (es : List Edge) × IsWay P reach c x es × (length es ≤ k)
    within-way zero x there h = ([], granted-from reach c x there h, omega arith)
    within-way (suc k) x there h =
        elim (or_cases (within k x) (list_any (leads k x) (edges P)) h) [
          | inl before ↦ let w = within-way k x there before in (w.0, w.1, omega (arith, w.2))
          | inr led ↦
              let e = any_in (leads k x) (edges P) led in
              let is = listed-edge P sound e.0 e.1 in
              let ends = led-by k x e.0 e.2 in
              let w = within-way k (near_end reach e.0) (near-cell reach e.0 is) ends.1 in
              (e.0 ∷ w.0, (is, ends.0, w.1), omega (arith, w.2))
        ]

    -- Rounds stand still

    abbrev pub IsStill : ℕ → Type 0
    IsStill k = (x : CellRef) → IsIn (cells P) x → within (suc k) x ≡ within k x

    still-on : (k : ℕ) → IsStill k → IsStill (suc k)
    still-on k still x there =
        ap₂ (λ a b. a || b) (still x there)
        (any-same (leads (suc k) x) (leads k x) (edges P)
        (λ e i. ap (λ b. same_cell (far_end reach e) x && b) (still (near_end reach e) (near-cell reach e (listed-edge P sound e i)))))

    still-from : (k j : ℕ) → k ≤ j → IsStill k → IsStill j
    still-from k zero less still = let e : k ≡ 0 = omega (arith, less) in subst IsStill e still
    still-from k (suc j) less still =
        elim (last-or-before k j less) [
          | inl e ↦ subst IsStill e still
          | inr before ↦ still-on j (still-from k j before still)
        ]

    -- from where they stand still nothing is added
    pub stays : (k j : ℕ) (x : CellRef) → IsIn (cells P) x → IsStill k → k ≤ j → within j x ≡ within k x
    stays k zero x there still less = let e : k ≡ 0 = omega (arith, less) in ap (λ n. within n x) (sym e)
    stays k (suc j) x there still less =
        elim (last-or-before k j less) [
          | inl e ↦ ap (λ n. within n x) (sym e)
          | inr before ↦ still-from k j before still x there ∙ stays k j x there still before
        ]

    grown : (k : ℕ) → IsStill k ⊎ (count (within k) (cells P) < count (within (suc k)) (cells P))
    grown k = same-or-more (within k) (within (suc k)) (cells P) (λ x h. or_left (within k x) (list_any (leads k x) (edges P)) h)

    settles : (m k : ℕ) → length (cells P) ≤ count (within k) (cells P) + m → (j : ℕ) × (j ≤ k + m) × IsStill j
    settles zero k few =
        elim (grown k) [
          | inl still ↦ (k, omega arith, still)
          | inr more ↦ absurd (omega (arith, few, more, count-few (within (suc k)) (cells P)))
        ]
    settles (suc m) k few =
        elim (grown k) [
          | inl still ↦ (k, omega arith, still)
          | inr more ↦
              let s = settles m (suc k) (omega (arith, few, more)) in
              (s.0, omega (arith, s.1), s.2)
        ]

    still-none : ((x : CellRef) → IsIn (cells P) x → within 0 x ≡ false) → IsStill 0
    still-none none x there =
        ap₂ (λ a b. a || b) (none x there)
        (any-false (leads 0 x) (edges P)
        (λ e i. ap (λ b. same_cell (far_end reach e) x && b) (none (near_end reach e) (near-cell reach e (listed-edge P sound e i))) ∙ and-false (same_cell (far_end reach e) x)))
        ∙ sym (none x there)

    -- before there are as many rounds as cells
    pub still-before : (k : ℕ) → length (cells P) ≤ suc k → IsStill k
    still-before k few = at (count (within 0) (cells P)) refl
      where
        at : (n : ℕ) → count (within 0) (cells P) ≡ n → IsStill k
        at zero e = still-from 0 k (omega arith) (still-none (none-counted (within 0) (cells P) e))
        at (suc n) e =
            let s = settles k 0 (omega (arith, e, few)) in
            still-from s.0 k (omega (arith, s.1)) s.2
