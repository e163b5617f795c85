-- The edges of the way that is shown, one after another.
use Rattle.std.proofs.Common.{◌≡◌, ◌==◌, ◌<◌, ◌≤◌, ◌⊎◌, ◌+◌, ℕ, zero, suc, Bool, true, false, ◌&&◌, cond, List, [], ◌∷◌, ◌++◌, map, length, get_or, find, Option, Some, None, append_assoc, nat_le, refl, sym, ap, ap₂, subst, ◌∙◌, arith}
use Rattle.cosem_data.specs.Cells.{same_cell}
use Rattle.cosem_data.specs.declared.cell.CellRef.{CellRef}
use Rattle.meter_theory.specs.Edges.{edges}
use Rattle.meter_theory.specs.Lists.{IsIn, for_some}
use Rattle.meter_theory.specs.Plan.{Plan, cells}
use Rattle.meter_theory.specs.Sound.{IsSound}
use Rattle.meter_theory.specs.Ways.{IsDistance, IsWay, first_edge, is_within, near_end, shown_way}
use Rattle.meter_theory.specs.declared.flow.Edge.{Edge}
use Rattle.meter_theory.specs.declared.flow.Reach.{Reach}
use Rattle.meter_theory.proofs.Rounds.{later, near-cell, within-way}
use Rattle.meter_theory.proofs.Ways.{distance-first, first-distance, led-first, nearer-first}
use Rattle.flow_edges.specs.Table.{AreCells, IsLink, cell_at, edge_at}
use Rattle.flow_edges.specs.declared.table.Link.{Link}
use Rattle.flow_edges.specs.Ends.{far_of, near_of}
use Rattle.flow_ways.specs.Kept.{leads_within}
use Rattle.flow_ways.proofs.Reached.{far-cell-at, far-low, near-cell-at, near-low, same-numbers, same-test}

-- a distance is within so many rounds exactly where it is no more
abbrev pub no_more : ℕ → Option ℕ → Bool
no_more k None = false
no_more k (Some d) = nat_le d k

less-or-more : (m n : ℕ) → (m < n) ⊎ (n ≤ m)
less-or-more m n = grind arith

module _ (P : Plan) (sound : IsSound P) (reach : Reach) (c : ℕ) where
  pub distance-within : (k : ℕ) (x : CellRef) (r : Option ℕ) → IsIn (cells P) x → IsDistance P reach c x r → no_more k r ≡ is_within P reach c k x
  distance-within k x None there none = at (is_within P reach c k x) refl
    where
      at : (b : Bool) → is_within P reach c k x ≡ b → false ≡ is_within P reach c k x
      at false h = sym h
      at true h = let w = within-way P sound reach c k x there h in absurd (none (w.0, w.1))
  distance-within k x (Some d) there is = same-test (nat_le d k) (is_within P reach c k x) near far
    where
      near : nat_le d k ≡ true → is_within P reach c k x ≡ true
      near h = later P sound reach c d k x (grind (arith, h)) (distance-first P sound reach c d x is).0

      far : is_within P reach c k x ≡ true → nat_le d k ≡ true
      far h = let w = within-way P sound reach c k x there h in at (nat_le d k) refl w.0 w.1 w.2
        where
          at : (b : Bool) → nat_le d k ≡ b → (es : List Edge) → IsWay P reach c x es → length es ≤ k → nat_le d k ≡ true
          at true h es way few = h
          at false h es way few = grind (arith, h, is.1 es way, few)

  -- a link leads where its edge does
  pub link-leads : AreCells (cells P) → (k i : ℕ) (l : Link) (near : Bool) → i < length (cells P) → IsLink (cells P) l → near ≡ is_within P reach c k (cell_at (cells P) (near_of reach l)) →
      ((far_of reach l == i) && near) ≡ leads_within P reach c k (cell_at (cells P) i) (edge_at (cells P) l)
  link-leads are k i l near low is within =
      ap₂ (λ a b. a && b)
      (same-numbers P are (far_of reach l) i (far-low reach P l is) low ∙ ap (λ x. same_cell x (cell_at (cells P) i)) (sym (far-cell-at reach P l)))
      (within ∙ ap (is_within P reach c k) (sym (near-cell-at reach P l)))

-- what a search finds behind what fails
pub found-behind : {A B : Type 0} (f : A → B) (test : B → Bool) (xs : List A) (k : ℕ) (d : A) → k < length xs → ((j : ℕ) → j < k → test (f (get_or xs j d)) ≡ false) →
    test (f (get_or xs k d)) ≡ true → find test (map f xs) ≡ Some (f (get_or xs k d))
found-behind f test [] k d low before here = absurd (omega (arith, low))
found-behind f test (x ∷ xs) zero d low before here = ap (λ b. cond b (Some (f x)) (find test (map f xs))) here
found-behind f test (x ∷ xs) (suc k) d low before here =
    ap (λ b. cond b (Some (f x)) (find test (map f xs))) (before 0 (omega arith))
    ∙ found-behind f test xs k d (omega (arith, low)) (λ j less. before (suc j) (omega (arith, less))) here

pub found-nowhere : {A B : Type 0} (f : A → B) (test : B → Bool) (xs : List A) (d : A) → ((j : ℕ) → j < length xs → test (f (get_or xs j d)) ≡ false) → find test (map f xs) ≡ None
found-nowhere f test [] d none = refl
found-nowhere f test (x ∷ xs) d none =
    ap (λ b. cond b (Some (f x)) (find test (map f xs))) (none 0 (omega arith))
    ∙ found-nowhere f test xs d (λ j less. none (suc j) (omega (arith, less)))

module _ (P : Plan) (sound : IsSound P) (reach : Reach) (c : ℕ) where
  -- the way from a cell is an edge and the way from where that comes from
  pub way-on : (k : ℕ) (x : CellRef) (e : Edge) → first_edge P reach c k x ≡ Some e → shown_way P reach c (suc k) x ≡ e ∷ shown_way P reach c k (near_end reach e)
  way-on k x e is = ap (λ o. for_some o (λ z. z ∷ shown_way P reach c k (near_end reach z))) is

  pub nearer-distance : (k : ℕ) (x : CellRef) (e : Edge) → IsDistance P reach c x (Some (suc k)) → first_edge P reach c k x ≡ Some e → IsDistance P reach c (near_end reach e) (Some k)
  nearer-distance k x e is found =
      let near = nearer-first P sound reach c k x e (distance-first P sound reach c (suc k) x is) found in
      first-distance P sound reach c k (near_end reach e) (near-cell P sound reach e near.0) near.2

  pub some-edge : (k : ℕ) (x : CellRef) → IsDistance P reach c x (Some (suc k)) → first_edge P reach c k x ≡ None → ⊥
  some-edge k x is none =
      let led = led-first P sound reach c k x (distance-first P sound reach c (suc k) x is) in
      none_some (sym none ∙ led.1)
    where
      none_some : {e : Edge} → None ≡ Some e → ⊥
      none_some h = cc

  -- one edge more of a way, of which so many are left
  pub edges-on : (left behind distance rounds place near : ℕ) (link : Link) (edges more whole : List Edge) → behind < distance → behind + left ≡ distance → rounds + (behind + 1) ≡ distance →
      IsDistance P reach c (cell_at (cells P) place) (Some left) → first_edge P reach c rounds (cell_at (cells P) place) ≡ Some (edge_at (cells P) link) → IsLink (cells P) link →
      near ≡ near_of reach link → more ≡ edges ++ edge_at (cells P) link ∷ [] → edges ++ shown_way P reach c left (cell_at (cells P) place) ≡ whole →
      (k : ℕ) × (behind + 1 + k ≡ distance) × (near < length (cells P)) × IsDistance P reach c (cell_at (cells P) near) (Some k)
      × (more ++ shown_way P reach c k (cell_at (cells P) near) ≡ whole)
  edges-on zero behind distance rounds place near link edges more whole less sum rest is first linked to pushed joined = absurd (omega (arith, less, sum))
  edges-on (suc k) behind distance rounds place near link edges more whole less sum rest is first linked to pushed joined = (
    k,
    omega (arith, sum),
    subst (λ n. n < length (cells P)) (sym to) (near-low reach P link linked),
    subst (λ x. IsDistance P reach c x (Some k)) end (nearer-distance k (cell_at (cells P) place) (edge_at (cells P) link) is found),
    ap (λ es. es ++ shown_way P reach c k (cell_at (cells P) near)) pushed
        ∙ (append_assoc edges (edge_at (cells P) link ∷ []) (shown_way P reach c k (cell_at (cells P) near))
        ∙ (ap (λ x. edges ++ edge_at (cells P) link ∷ shown_way P reach c k x) (sym end)
        ∙ (ap (λ es. edges ++ es) (sym (way-on k (cell_at (cells P) place) (edge_at (cells P) link) found)) ∙ joined))),
  )
    where
      rounds-is : rounds ≡ k
      rounds-is = omega (arith, sum, rest)

      found : first_edge P reach c k (cell_at (cells P) place) ≡ Some (edge_at (cells P) link)
      found = subst (λ n. first_edge P reach c n (cell_at (cells P) place) ≡ Some (edge_at (cells P) link)) rounds-is first

      end : near_end reach (edge_at (cells P) link) ≡ cell_at (cells P) near
      end = near-cell-at reach P link ∙ ap (cell_at (cells P)) (sym to)
