-- Ways are what the least labels tell, and the shown ones are as short as any.
use Rattle.std.proofs.Common.{◌≡◌, ◌↔◌, ◌<◌, ◌≤◌, ◌⊎◌, ℕ, zero, suc, Bool, true, false, ◌&&◌, ◌||◌, cond, find, eqb-true, List, [], ◌∷◌, map, length, Option, Some, None, refl, sym, ap, subst, ◌∙◌, inl, inr, arith, eqb}
use Rattle.std.specs.List.{list_any}
use Rattle.std.proofs.lemmas.Bool.{cases_eq, eq-eqb, false≢true, or_cases, or_left, or_right}
use Rattle.cosem_data.proofs.Same.{same_cell-true, same_cell-refl}
use Rattle.cosem_data.specs.Cells.{same_cell}
use Rattle.cosem_data.specs.declared.cell.CellRef.{CellRef}
use Rattle.cosem_data.specs.declared.clients.ClientSet.{ClientSet}
use Rattle.meter_theory.specs.Edges.{IsEdge, edges}
use Rattle.meter_theory.specs.Labels.{AreLeast, Covers, Labels, has, label_at, labelling_of, nobody, or_else, with_client, within}
use Rattle.meter_theory.specs.Lists.{IsIn, for_some}
use Rattle.meter_theory.specs.Plan.{Plan, cells}
use Rattle.meter_theory.specs.Sound.{IsSound}
use Rattle.meter_theory.specs.Ways.{HasWay, IsDistance, IsWay, far_end, first_edge, is_within, near_end, set_for, shown_way}
use Rattle.meter_theory.specs.declared.flow.Edge.{Edge}
use Rattle.meter_theory.specs.declared.flow.Label.{Label}
use Rattle.meter_theory.specs.declared.flow.Reach.{Reach}
use Rattle.meter_theory.specs.declared.flow.Reach.TheVariants.{Influence, Learn}
use Rattle.meter_theory.specs.declared.limits.TheConstants as limits
use Rattle.meter_theory.proofs.Agreement.{not_both}
use Rattle.meter_theory.proofs.Check.{listed-edge}
use Rattle.meter_theory.proofs.ClientSets.{has_with, nobody_in}
use Rattle.meter_theory.proofs.Lists.{found}
use Rattle.meter_theory.proofs.Rounds.{IsStill, far-cell, granted-cell, later, led-by, near-cell, stays, still-before, way-within, within-way}
use Rattle.meter_theory.proofs.Theorem.{inside_range, within_from, within_has}

-- what a test passes somewhere is found
some-found : {A : Type 0} (test : A → Bool) (xs : List A) → list_any test xs ≡ true → (x : A) × (find test xs ≡ Some x)
some-found test [] h = absurd (false≢true h)
some-found {A = A} test (y ∷ xs) h = at (test y) refl h (some-found test xs)
  where
    at : (b : Bool) → test y ≡ b → (b || list_any test xs) ≡ true → (list_any test xs ≡ true → (x : A) × (find test xs ≡ Some x)) →
        (x : A) × (cond b (Some y) (find test xs) ≡ Some x)
    at true p e rest = (y, refl)
    at false p e rest = rest e

less-or-more : (m n : ℕ) → (m < n) ⊎ (n ≤ m)
less-or-more m n = grind arith

module _ (P : Plan) (sound : IsSound P) where
  -- a way leads to a cell of the plan
  pub way-cell : (reach : Reach) (c : ℕ) (x : CellRef) (es : List Edge) → IsWay P reach c x es → IsIn (cells P) x
  way-cell reach c x [] h = granted-cell P sound reach c x h
  way-cell reach c x (e ∷ es) h = subst (IsIn (cells P)) h.1 (far-cell P sound reach e h.0)

  module _ (reach : Reach) (c : ℕ) where
    abbrev reached : ℕ → CellRef → Bool
    reached k x = is_within P reach c k x

    -- what a way leads to is among what is added until the rounds stand still
    pub way-reached : (k : ℕ) (x : CellRef) (es : List Edge) → IsStill P sound reach c k → IsWay P reach c x es → reached k x ≡ true
    way-reached k x es still h =
        elim (less-or-more (length es) k) [
          | inl less ↦ later P sound reach c (length es) k x (omega (arith, less)) (way-within P sound reach c x es h)
          | inr more ↦ sym (stays P sound reach c k (length es) x (way-cell reach c x es h) still more) ∙ way-within P sound reach c x es h
        ]

    -- as they do behind as many rounds as there are cells
    pub last-still : IsStill P sound reach c (length (cells P))
    last-still = still-before P sound reach c (length (cells P)) (omega arith)

    -- The distance

    -- the first round by which a cell is reached
    abbrev pub IsFirst : ℕ → CellRef → Type 0
    IsFirst d x = (reached d x ≡ true) × ((j : ℕ) → j < d → reached j x ≡ true → ⊥)

    first-round : (k : ℕ) (x : CellRef) → reached k x ≡ true → (d : ℕ) × (d ≤ k) × IsFirst d x
    first-round zero x h = (0, omega arith, (h, λ j less. absurd (omega (arith, less))))
    first-round (suc k) x h = at (reached k x) refl (first-round k x)
      where
        at : (b : Bool) → reached k x ≡ b → (reached k x ≡ true → (d : ℕ) × (d ≤ k) × IsFirst d x) → (d : ℕ) × (d ≤ suc k) × IsFirst d x
        at true p before = let r = before p in (r.0, omega (arith, r.1), r.2)
        at false p before =
            (suc k, omega arith, (h, λ j less is. not_both (reached k x) (later P sound reach c j k x (omega (arith, less)) is) p))

    pub first-distance : (d : ℕ) (x : CellRef) → IsIn (cells P) x → IsFirst d x → IsDistance P reach c x (Some d)
    first-distance d x there first = ((w.0, w.1, omega (arith, w.2, as-long w.0 w.1)), as-long)
      where
        w : (es : List Edge) × IsWay P reach c x es × (length es ≤ d)
        w = within-way P sound reach c d x there first.0

        as-long : (es : List Edge) → IsWay P reach c x es → d ≤ length es
        as-long es h =
            elim (less-or-more (length es) d) [
              | inl less ↦ absurd (first.1 (length es) less (way-within P sound reach c x es h))
              | inr more ↦ more
            ]

    pub distance-first : (d : ℕ) (x : CellRef) → IsDistance P reach c x (Some d) → IsFirst d x
    distance-first d x h = (
      subst (λ n. reached n x ≡ true) h.0.2 (way-within P sound reach c x h.0.0 h.0.1),
      λ j less is.
          let w = within-way P sound reach c j x (way-cell reach c x h.0.0 h.0.1) is in
          absurd (omega (arith, less, w.2, h.1 w.0 w.1)),
    )

    pub has-distance : (x : CellRef) → IsIn (cells P) x → (d : Option ℕ) × IsDistance P reach c x d
    has-distance x there = at (reached (length (cells P)) x) refl
      where
        at : (b : Bool) → reached (length (cells P)) x ≡ b → (d : Option ℕ) × IsDistance P reach c x d
        at true h = let r = first-round (length (cells P)) x h in (Some r.0, first-distance r.0 x there r.2)
        at false h = (None, λ w. not_both (reached (length (cells P)) x) (way-reached (length (cells P)) x w.0 last-still w.1) h)

    pub one-distance : (x : CellRef) (d other : Option ℕ) → IsDistance P reach c x d → IsDistance P reach c x other → d ≡ other
    one-distance x None None h k = refl
    one-distance x None (Some d) h k = absurd (h (k.0.0, k.0.1))
    one-distance x (Some d) None h k = absurd (k (h.0.0, h.0.1))
    one-distance x (Some d) (Some e) h k = ap Some (omega (arith, h.0.2, k.0.2, h.1 k.0.0 k.0.1, k.1 h.0.0 h.0.1))

    pub few-edges : (x : CellRef) (d : ℕ) → IsDistance P reach c x (Some d) → d < length (cells P)
    few-edges x zero h = some (cells P) (way-cell reach c x h.0.0 h.0.1)
      where
        some : (xs : List CellRef) → IsIn xs x → 0 < length xs
        some [] i = absurd i
        some (y ∷ xs) i = omega arith
    few-edges x (suc k) h =
        elim (less-or-more (suc k) (length (cells P))) [
          | inl less ↦ less
          | inr more ↦ absurd (first.1 k (omega arith) (sym (still-before P sound reach c k more x (way-cell reach c x h.0.0 h.0.1)) ∙ first.0))
        ]
      where
        first : IsFirst (suc k) x
        first = distance-first (suc k) x h

    pub next-distance : (e : Edge) (d : ℕ) (far : Option ℕ) → IsEdge P e → IsDistance P reach c (near_end reach e) (Some d) → IsDistance P reach c (far_end reach e) far →
        (k : ℕ) × (far ≡ Some k) × (k ≤ suc d)
    next-distance e d None is h k = absurd (k (e ∷ h.0.0, (is, refl, h.0.1)))
    next-distance e d (Some n) is h k = (n, refl, omega (arith, h.0.2, k.1 (e ∷ h.0.0) (is, refl, h.0.1)))

    -- The shown way

    -- what is one round nearer comes first one round earlier
    pub nearer-first : (k : ℕ) (x : CellRef) (e : Edge) → IsFirst (suc k) x → first_edge P reach c k x ≡ Some e →
        IsEdge P e × (far_end reach e ≡ x) × IsFirst k (near_end reach e)
    nearer-first k x e first is = (edge, ends.0, (ends.1, nearer))
      where
        at : IsIn (edges P) e × ((same_cell (far_end reach e) x && reached k (near_end reach e)) ≡ true)
        at = found (λ z. same_cell (far_end reach z) x && reached k (near_end reach z)) (edges P) e is

        edge : IsEdge P e
        edge = listed-edge P sound e at.0

        ends : (far_end reach e ≡ x) × (reached k (near_end reach e) ≡ true)
        ends = led-by P sound reach c k x e at.1

        nearer : (j : ℕ) → j < k → reached j (near_end reach e) ≡ true → ⊥
        nearer j less h =
            let w = within-way P sound reach c j (near_end reach e) (near-cell P sound reach e edge) h in
            first.1 (suc (length w.0)) (omega (arith, less, w.2)) (way-within P sound reach c x (e ∷ w.0) (edge, ends.0, w.1))

    -- and there is such an edge
    pub led-first : (k : ℕ) (x : CellRef) → IsFirst (suc k) x → (e : Edge) × (first_edge P reach c k x ≡ Some e)
    led-first k x first =
        some-found (λ z. same_cell (far_end reach z) x && reached k (near_end reach z)) (edges P)
        (elim (or_cases (reached k x) (list_any (λ z. same_cell (far_end reach z) x && reached k (near_end reach z)) (edges P)) first.0) [
          | inl before ↦ absurd (first.1 k (omega arith) before)
          | inr after ↦ after
        ])

    pub shown-way : (d : ℕ) (x : CellRef) → IsIn (cells P) x → IsFirst d x → IsWay P reach c x (shown_way P reach c d x) × (length (shown_way P reach c d x) ≡ d)
    shown-way zero x there first =
        let w = within-way P sound reach c 0 x there first.0 in
        (none w.0 w.1 (omega (arith, w.2)), refl)
      where
        none : (es : List Edge) → IsWay P reach c x es → length es ≡ 0 → IsWay P reach c x []
        none [] h e = h
        none (e ∷ es) h long = absurd (omega (arith, long))
    shown-way (suc k) x there first = shown led.0 led.1 (shown-way k)
      where
        led : (e : Edge) × (first_edge P reach c k x ≡ Some e)
        led = led-first k x first

        shown : (e : Edge) → first_edge P reach c k x ≡ Some e →
            ((y : CellRef) → IsIn (cells P) y → IsFirst k y → IsWay P reach c y (shown_way P reach c k y) × (length (shown_way P reach c k y) ≡ k)) →
            IsWay P reach c x (shown_way P reach c (suc k) x) × (length (shown_way P reach c (suc k) x) ≡ suc k)
        shown e is before =
            let near = nearer-first k x e first is in
            let rest = before (near_end reach e) (near-cell P sound reach e near.0) near.2 in
            subst (λ es. IsWay P reach c x es × (length es ≡ suc k)) (sym written) ((near.0, near.1, rest.0), ap suc rest.1)
          where
            written : shown_way P reach c (suc k) x ≡ e ∷ shown_way P reach c k (near_end reach e)
            written = ap (λ o. for_some o (λ z. z ∷ shown_way P reach c k (near_end reach z))) is

-- Sets by a test of their clients

abbrev those_below : (ℕ → Bool) → ℕ → ClientSet
those_below test zero = nobody
those_below test (suc n) = cond (test n) (with_client (those_below test n) n) (those_below test n)

those-from : (test : ℕ → Bool) (n c : ℕ) → n ≤ limits.CLIENTS → has (those_below test n) c ≡ true → test c ≡ true
those-from test zero c few h = absurd (false≢true (sym (nobody_in c) ∙ h))
those-from test (suc n) c few h = at (test n) refl h (those-from test n c (omega (arith, few)))
  where
    at : (b : Bool) → test n ≡ b → has (cond b (with_client (those_below test n) n) (those_below test n)) c ≡ true → (has (those_below test n) c ≡ true → test c ≡ true) → test c ≡ true
    at false p i before = before i
    at true p i before =
        elim (or_cases (eqb c n) (has (those_below test n) c) (sym (has_with (those_below test n) n c (omega (arith, few))) ∙ i)) [
          | inl same ↦ let e : c ≡ n = grind (arith, eqb-true, same) in ap test e ∙ p
          | inr other ↦ before other
        ]

in-those : (test : ℕ → Bool) (n c : ℕ) → n ≤ limits.CLIENTS → c < n → test c ≡ true → has (those_below test n) c ≡ true
in-those test zero c few less h = absurd (omega (arith, less))
in-those test (suc n) c few less h = at (test n) refl (last (cases_eq c n)) (λ before. in-those test n c (omega (arith, few)) before h)
  where
    last : (c ≡ n) ⊎ (c ≡ n → ⊥) → (c ≡ n) ⊎ (c < n)
    last (inl e) = inl e
    last (inr ne) = inr (grind (arith, ne, less))

    at : (b : Bool) → test n ≡ b → (c ≡ n) ⊎ (c < n) → (c < n → has (those_below test n) c ≡ true) →
        has (cond b (with_client (those_below test n) n) (those_below test n)) c ≡ true
    at true p (inl e) rest = has_with (those_below test n) n c (omega (arith, few)) ∙ or_left (eqb c n) (has (those_below test n) c) (eq-eqb c n e)
    at true p (inr before) rest = has_with (those_below test n) n c (omega (arith, few)) ∙ or_right (eqb c n) (has (those_below test n) c) (rest before)
    at false p (inl e) rest = absurd (not_both (test n) (ap test (sym e) ∙ h) p)
    at false p (inr before) rest = rest before

-- a label for each cell
labelled-each : (label : CellRef → Label) (xs : List CellRef) (x : CellRef) → IsIn xs x → label_at (map (λ y. (y, label y)) xs) x ≡ Some (label x)
labelled-each label [] x i = absurd i
labelled-each label (y ∷ xs) x i = at (same_cell y x) refl i (labelled-each label xs x)
  where
    at : (b : Bool) → same_cell y x ≡ b → IsIn (y ∷ xs) x → (IsIn xs x → label_at (map (λ z. (z, label z)) xs) x ≡ Some (label x)) →
        cond b (Some (label y)) (label_at (map (λ z. (z, label z)) xs) x) ≡ Some (label x)
    at true p j rest = ap (λ z. Some (label z)) (same_cell-true y x p)
    at false p (inl e) rest = absurd (not_both (same_cell y x) (subst (λ z. same_cell y z ≡ true) (sym e) (same_cell-refl y)) p)
    at false p (inr j) rest = rest j

-- The least labels

module _ (P : Plan) (sound : IsSound P) (least : Labels) (l : AreLeast P least) where
  -- who has a way is in the set of every cell on it
  way-told : (reach : Reach) (c : ℕ) (x : CellRef) (es : List Edge) → IsWay P reach c x es → has (set_for reach (labelling_of least x)) c ≡ true
  way-told Influence c x [] h = l.covers.changers c x h
  way-told Learn c x [] h = l.covers.readers c x h.0 h.1
  way-told Influence c x (e ∷ es) h =
      subst (λ z. has (labelling_of least z).influence c ≡ true) h.1
      (within_has (labelling_of least e.source).influence (labelling_of least e.target).influence (l.covers.influence_flows e h.0) c (way-told Influence c e.source es h.2))
  way-told Learn c x (e ∷ es) h =
      subst (λ z. has (labelling_of least z).learn c ≡ true) h.1
      (within_has (labelling_of least e.target).learn (labelling_of least e.source).learn (l.covers.learn_flows e h.0) c (way-told Learn c e.target es h.2))

  -- the labels of whom a way leads to a cell
  abbrev reaching : Reach → CellRef → ClientSet
  reaching reach x = those_below (λ c. is_within P reach c (length (cells P)) x) limits.CLIENTS

  abbrev own_label : CellRef → Label
  own_label x = record { influence = reaching Influence x; learn = reaching Learn x }

  abbrev others : Labels
  others = map (λ x. (x, own_label x)) (cells P)

  others-at : (x : CellRef) → IsIn (cells P) x → labelling_of others x ≡ own_label x
  others-at x there = ap (or_else (record { influence = nobody; learn = nobody })) (labelled-each own_label (cells P) x there)

  way-in : (reach : Reach) (c : ℕ) (x : CellRef) (es : List Edge) → IsWay P reach c x es → has (reaching reach x) c ≡ true
  way-in reach c x es h =
      in-those (λ k. is_within P reach k (length (cells P)) x) limits.CLIENTS c (omega arith)
      (inside_range (set_for reach (labelling_of least x)) c (way-told reach c x es h))
      (way-reached P sound reach c (length (cells P)) x es (last-still P sound reach c) h)

  in-way : (reach : Reach) (c : ℕ) (x : CellRef) → IsIn (cells P) x → has (reaching reach x) c ≡ true → HasWay P reach c x
  in-way reach c x there h =
      let w = within-way P sound reach c (length (cells P)) x there (those-from (λ k. is_within P reach k (length (cells P)) x) limits.CLIENTS c (omega arith) h) in
      (w.0, w.1)

  along : (reach : Reach) (e : Edge) → IsEdge P e → within (reaching reach (near_end reach e)) (reaching reach (far_end reach e)) ≡ true
  along reach e is =
      within_from (reaching reach (near_end reach e)) (reaching reach (far_end reach e))
      (λ c h. let w = in-way reach c (near_end reach e) (near-cell P sound reach e is) h in way-in reach c (far_end reach e) (e ∷ w.0) (is, refl, w.1))

  others-cover : Covers P others
  others-cover = record {
    labelled = λ x there. (own_label x, labelled-each own_label (cells P) x there);
    changers = λ c x may.
        subst (λ z. has z.influence c ≡ true) (sym (others-at x (granted-cell P sound Influence c x may))) (way-in Influence c x [] may);
    readers = λ c x there may. subst (λ z. has z.learn c ≡ true) (sym (others-at x there)) (way-in Learn c x [] (there, may));
    influence_flows = λ e is.
        subst (λ z. within z.influence (labelling_of others e.target).influence ≡ true) (sym (others-at e.source (near-cell P sound Influence e is)))
        (subst (λ z. within (reaching Influence e.source) z.influence ≡ true) (sym (others-at e.target (far-cell P sound Influence e is))) (along Influence e is));
    learn_flows = λ e is.
        subst (λ z. within z.learn (labelling_of others e.source).learn ≡ true) (sym (others-at e.target (near-cell P sound Learn e is)))
        (subst (λ z. within (reaching Learn e.target) z.learn ≡ true) (sym (others-at e.source (far-cell P sound Learn e is))) (along Learn e is));
  }

  told-in : (reach : Reach) (c : ℕ) (x : CellRef) → IsIn (cells P) x → has (set_for reach (labelling_of least x)) c ≡ true → has (reaching reach x) c ≡ true
  told-in Influence c x there h =
      subst (λ z. has z.influence c ≡ true) (others-at x there)
      (within_has (labelling_of least x).influence (labelling_of others x).influence (l.least others others-cover x there).0 c h)
  told-in Learn c x there h =
      subst (λ z. has z.learn c ≡ true) (others-at x there)
      (within_has (labelling_of least x).learn (labelling_of others x).learn (l.least others others-cover x there).1 c h)

  -- a client is in a set of the least labels exactly where it has a way
  pub least-ways : (reach : Reach) (c : ℕ) (x : CellRef) → IsIn (cells P) x → (has (set_for reach (labelling_of least x)) c ≡ true ↔ HasWay P reach c x)
  least-ways reach c x there = (λ h. in-way reach c x there (told-in reach c x there h), λ w. way-told reach c x w.0 w.1)
