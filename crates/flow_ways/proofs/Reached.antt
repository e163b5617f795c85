-- Sets of clients are what the rounds of ways say.
use Rattle.std.proofs.Common.{◌≡◌, ◌==◌, ◌<◌, ℕ, suc, Bool, true, false, ◌&&◌, ◌||◌, List, [], ◌∷◌, length, map, Option, Some, None, option_map, eqb-true, refl, sym, ap, ap₂, subst, ◌∙◌, arith}
use Rattle.std.specs.List.{list_any}
use Rattle.std.proofs.lemmas.Bool.{eq-eqb}
use Rattle.std.proofs.lemmas.List.{get_or-map, length-map}
use Rattle.cosem_data.proofs.Same.{same_cell-refl}
use Rattle.cosem_data.specs.Cells.{same_cell}
use Rattle.cosem_data.specs.declared.clients.ClientSet.{ClientSet}
use Rattle.meter_theory.specs.Labels.{has, nobody}
use Rattle.meter_theory.specs.Plan.{Plan, cells}
use Rattle.meter_theory.specs.Sound.{IsSound}
use Rattle.meter_theory.specs.Ways.{far_end, is_granted, is_within, near_end, set_for}
use Rattle.meter_theory.specs.declared.flow.Label.{Label}
use Rattle.meter_theory.specs.declared.flow.Reach.{Reach}
use Rattle.meter_theory.specs.declared.flow.Reach.TheVariants.{Influence, Learn}
use Rattle.meter_theory.proofs.Admission.{changer_found, changer_from}
use Rattle.flow_edges.specs.Table.{AreCells, AreWithin, IsLink, cell_at, edge_at}
use Rattle.flow_edges.specs.declared.table.Link.{Link}
use Rattle.label_certificate.specs.Closing.{set_at}
use Rattle.label_certificate.specs.Granted.{AreGranted, label_in}
use Rattle.label_certificate.specs.Least.{AreLinks}
use Rattle.label_certificate.proofs.Closed.{item_at, link_in, place_in}
use Rattle.meter_theory.proofs.Rounds.{IsStill}
use Rattle.flow_edges.specs.Ends.{far_of, near_of}
use Rattle.flow_ways.specs.Rounds.{AreLinksOf, AreReached, FollowsRound, IsRound, leads}

-- tests that pass together are one
pub same-test : (a b : Bool) → (a ≡ true → b ≡ true) → (b ≡ true → a ≡ true) → a ≡ b
same-test true true h k = refl
same-test false false h k = refl
same-test true false h k = sym (h refl)
same-test false true h k = k refl

-- the ends of an edge are the cells with the numbers of its link
pub far-cell-at : (reach : Reach) (P : Plan) (l : Link) → far_end reach (edge_at (cells P) l) ≡ cell_at (cells P) (far_of reach l)
far-cell-at Influence P l = refl
far-cell-at Learn P l = refl

pub near-cell-at : (reach : Reach) (P : Plan) (l : Link) → near_end reach (edge_at (cells P) l) ≡ cell_at (cells P) (near_of reach l)
near-cell-at Influence P l = refl
near-cell-at Learn P l = refl

pub far-low : (reach : Reach) (P : Plan) (l : Link) → IsLink (cells P) l → far_of reach l < length (cells P)
far-low Influence P l h = h.1
far-low Learn P l h = h.0

pub near-low : (reach : Reach) (P : Plan) (l : Link) → IsLink (cells P) l → near_of reach l < length (cells P)
near-low Influence P l h = h.0
near-low Learn P l h = h.1

-- numbers of cells are as equal as the cells
pub same-numbers : (P : Plan) → AreCells (cells P) → (i j : ℕ) → i < length (cells P) → j < length (cells P) → (i == j) ≡ same_cell (cell_at (cells P) i) (cell_at (cells P) j)
same-numbers P are i j h k =
    same-test (i == j) (same_cell (cell_at (cells P) i) (cell_at (cells P) j))
    (λ e. subst (λ n. same_cell (cell_at (cells P) i) (cell_at (cells P) n) ≡ true) (eqb-true i j e) (same_cell-refl (cell_at (cells P) i)))
    (λ e. eq-eqb i j (are.apart i j h k e))

module _ (P : Plan) (reach : Reach) where
  -- what rights grant is within no rounds
  pub granted-reached : IsSound P → (labels : List Label) → AreGranted P labels → AreReached P reach 0 (map (set_for reach) labels)
  granted-reached sound labels g = record { size = length-map labels (set_for reach) ∙ g.size; each = each }
    where
      at : (i : ℕ) → i < length (cells P) → set_at (map (set_for reach) labels) i ≡ set_for reach (label_in labels i)
      at i h = get_or-map (set_for reach) labels i (record { influence = nobody; learn = nobody }) nobody (subst (λ n. i < n) (sym g.size) h)

      granted : (r : Reach) (i c : ℕ) → i < length (cells P) → has (set_for r (label_in labels i)) c ≡ is_granted P r c (cell_at (cells P) i)
      granted Influence i c h =
          let may = (g.each i h).influence c in
          same-test _ _ (λ e. changer_found P c (cell_at (cells P) i) (may.0 e)) (λ e. may.1 (changer_from P c (cell_at (cells P) i) (item_at (cells P) i h) e))
      granted Learn i c h = (g.each i h).learn c

      each : (i c : ℕ) → i < length (cells P) → has (set_at (map (set_for reach) labels) i) c ≡ is_within P reach c 0 (cell_at (cells P) i)
      each i c h = ap (λ s. has s c) (at i h) ∙ granted reach i c h

  module _ (are : AreCells (cells P)) (k : ℕ) (old : List ClientSet) (reached : AreReached P reach k old) where
    -- a link leads as its edge does
    leads-so : (i c : ℕ) → i < length (cells P) → (l : Link) → IsLink (cells P) l →
        leads reach old i c l ≡ (same_cell (far_end reach (edge_at (cells P) l)) (cell_at (cells P) i) && is_within P reach c k (near_end reach (edge_at (cells P) l)))
    leads-so i c h l is =
        ap₂ (λ a b. a && b)
        (same-numbers P are (far_of reach l) i (far-low reach P l is) h ∙ ap (λ x. same_cell x (cell_at (cells P) i)) (sym (far-cell-at reach P l)))
        (reached.each (near_of reach l) c (near-low reach P l is) ∙ ap (is_within P reach c k) (sym (near-cell-at reach P l)))

    any-so : (i c : ℕ) → i < length (cells P) → (links : List Link) → AreWithin (cells P) links →
        list_any (leads reach old i c) links ≡ list_any (λ e. same_cell (far_end reach e) (cell_at (cells P) i) && is_within P reach c k (near_end reach e)) (map (edge_at (cells P)) links)
    any-so i c h [] w = refl
    any-so i c h (l ∷ links) w = ap₂ (λ a b. a || b) (leads-so i c h l w.0) (any-so i c h links w.1)

    -- the sets of the next round
    pub next-reached : (links : List Link) (new : List ClientSet) → AreLinksOf P links → IsRound reach links old new → AreReached P reach (suc k) new
    next-reached links new of round = record {
      size = round.size ∙ reached.size;
      each = λ i c h.
          let low : i < length old = subst (λ n. i < n) (sym reached.size) h in
          round.each i c low
          ∙ ap₂ (λ a b. a || b) (reached.each i c h)
          (any-so i c h links of.within ∙ ap (list_any (λ e. same_cell (far_end reach e) (cell_at (cells P) i) && is_within P reach c k (near_end reach e))) of.edges);
    }

-- where the sets stay, the rounds stand still
pub sets-still : (P : Plan) (sound : IsSound P) (reach : Reach) (are : AreCells (cells P)) (k : ℕ) (sets : List ClientSet) (links : List Link) → AreReached P reach k sets → AreLinksOf P links →
    IsRound reach links sets sets → (c : ℕ) → IsStill P sound reach c k
sets-still P sound reach are k sets links reached of round c x there =
    let i = place_in (cells P) x there in
    let next = next-reached P reach are k sets reached links sets of round in
    subst (λ z. is_within P reach c (suc k) z ≡ is_within P reach c k z) i.2 (sym (next.each i.0 c i.1) ∙ reached.each i.0 c i.1)

-- the links join numbers of the sets
pub links-of-sets : (P : Plan) (n : ℕ) (links : List Link) → n ≡ length (cells P) → AreLinksOf P links → AreLinks n links
links-of-sets P n links e of l i = let is = link_in (cells P) links l of.within i in (omega (arith, e, is.0), omega (arith, e, is.1))

-- no sets follow
pub none-follow : (reach : Reach) (links : List Link) (old : List ClientSet) {A : Type 0} (items : A → List ClientSet) (r : Option A) → ((a : A) → r ≡ Some a → ⊥) →
    FollowsRound reach links old (option_map items r) → IsRound reach links old old
none-follow reach links old items None none h = h
none-follow reach links old items (Some a) none h = absurd (none a refl)

pub some-follow : (reach : Reach) (links : List Link) (old : List ClientSet) {A : Type 0} (items : A → List ClientSet) (r : Option A) (a : A) → r ≡ Some a →
    FollowsRound reach links old (option_map items r) → IsRound reach links old (items a)
some-follow reach links old items r a is h = subst (λ o. FollowsRound reach links old (option_map items o)) is h
