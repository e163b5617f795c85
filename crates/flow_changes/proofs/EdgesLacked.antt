-- Links whose edges another plan hasn't are the edges that it lacks.
use Rattle.std.specs.Prelude.{◌≡◌, ℕ, ◌<◌, ◌≤◌, Bool, true, false, not, ◌&&◌, List, Option, Some, None, filter, get_or, length, map}
use Rattle.std.specs.List.{list_any, position_from}
use Rattle.std.proofs.Common.{refl, sym, ap, ap₂, subst, ◌∙◌, ◌⊎◌, inl, inr}
use Rattle.std.proofs.lemmas.Bool.{cases_lt}
use Rattle.std.proofs.lemmas.List.{get_or-map, get_or_past, length-map}
use Rattle.cosem_data.specs.Cells.{same_cell}
use Rattle.cosem_data.specs.declared.cell.CellRef.{CellRef}
use Rattle.cosem_data.proofs.Same.{same_cell-true}
use Rattle.meter_theory.specs.Edges.{edge, edges, same_cause, same_edge}
use Rattle.meter_theory.specs.Lists.{IsIn, some_passes}
use Rattle.meter_theory.specs.Plan.{Plan, cells}
use Rattle.meter_theory.specs.declared.flow.Cause.{Cause}
use Rattle.flow_edges.specs.Table.{AreBetween, AreWithin, CellEdges, IsLink, cell_at, edge_at, has_link, no_cell}
use Rattle.flow_edges.specs.declared.table.Link.{Link}
use Rattle.flow_edges.proofs.Sources.{numbered, unnumbered}
use Rattle.label_certificate.specs.LabelText.{cell_place}
use Rattle.label_certificate.proofs.Closed.{link_in}
use Rattle.flow_changes.specs.Facts.{HasEdge}
use Rattle.flow_changes.specs.Lacked.{AreBelow, is_there, link_of}
use Rattle.flow_changes.proofs.Lists.{filter-agree, filter-map, map-of-map, list_any-none}

module _ (other : CellEdges) (between : AreBetween other.cells other.edges) where
  absent : (x : CellRef) → (IsIn other.cells x → ⊥) → (y : CellRef) → IsIn other.cells y → same_cell x y ≡ false
  absent x none y i = at (same_cell x y) refl
    where
      at : (b : Bool) → same_cell x y ≡ b → b ≡ false
      at false e = refl
      at true e = absurd (none (subst (IsIn other.cells) (sym (same_cell-true x y e)) i))

  no-source : (cause : Cause) (x y : CellRef) → (IsIn other.cells x → ⊥) → false ≡ list_any (same_edge (edge cause x y)) other.edges
  no-source cause x y none =
      sym (list_any-none (same_edge (edge cause x y)) other.edges
      (λ e i. all (same_cause cause e.cause) (same_cell x e.source) (same_cell y e.target) (absent x none e.source (between e i).0)))
    where
      all : (a b c : Bool) → b ≡ false → (a && (b && c)) ≡ false
      all true b c e = ap (λ z. z && c) e
      all false b c e = refl

  no-target : (cause : Cause) (x y : CellRef) → (IsIn other.cells y → ⊥) → false ≡ list_any (same_edge (edge cause x y)) other.edges
  no-target cause x y none =
      sym (list_any-none (same_edge (edge cause x y)) other.edges
      (λ e i. all (same_cause cause e.cause) (same_cell x e.source) (same_cell y e.target) (absent y none e.target (between e i).1)))
    where
      all : (a b c : Bool) → c ≡ false → (a && (b && c)) ≡ false
      all true true c e = e
      all true false c e = refl
      all false b c e = refl

  -- what is found of the cells of a link
  looked-up : (cause : Cause) (x y : CellRef) (o p : Option ℕ) → position_from (same_cell x) 0 other.cells ≡ o → position_from (same_cell y) 0 other.cells ≡ p →
      some_passes (has_link other) (link_of cause o p) ≡ list_any (same_edge (edge cause x y)) other.edges
  looked-up cause x y (Some s) (Some t) e f =
      ap₂ (λ a b. list_any (same_edge (edge cause a b)) other.edges) (numbered other.cells x s e).1 (numbered other.cells y t f).1
  looked-up cause x y (Some s) None e f = no-target cause x y (unnumbered other.cells y f)
  looked-up cause x y None (Some t) e f = no-source cause x y (unnumbered other.cells x e)
  looked-up cause x y None None e f = no-source cause x y (unnumbered other.cells x e)

  module _ (mine : List CellRef) (numbers : List (Option ℕ)) (found : numbers ≡ map (λ x. position_from (same_cell x) 0 other.cells) mine) where
    -- the other table has the edge of a link exactly where the same edge is one of its own
    there-is : (l : Link) → IsLink mine l → is_there numbers other l ≡ list_any (same_edge (edge_at mine l)) other.edges
    there-is l w =
        looked-up l.cause (cell_at mine l.source) (cell_at mine l.target) (get_or numbers l.source None) (get_or numbers l.target None)
        (sym (ap (λ z. get_or z l.source None) found ∙ get_or-map (λ x. position_from (same_cell x) 0 other.cells) mine l.source no_cell None w.0))
        (sym (ap (λ z. get_or z l.target None) found ∙ get_or-map (λ x. position_from (same_cell x) 0 other.cells) mine l.target no_cell None w.1))

    -- and the other edges are those that it lacks
    pub lacked-edges : (ours : List Link) → AreWithin mine ours →
        map (λ l. HasEdge (edge_at mine l)) (filter (λ l. not (is_there numbers other l)) ours)
        ≡ map HasEdge (filter (λ e. not (list_any (same_edge e) other.edges)) (map (edge_at mine) ours))
    lacked-edges ours inner =
        ap (map (λ l. HasEdge (edge_at mine l)))
        (filter-agree (λ l. not (is_there numbers other l)) (λ l. not (list_any (same_edge (edge_at mine l)) other.edges)) ours
        (λ l i. ap not (there-is l (link_in mine ours l inner i))))
        ∙ sym (map-of-map HasEdge (edge_at mine) (filter (λ l. not (list_any (same_edge (edge_at mine l)) other.edges)) ours))
        ∙ ap (map HasEdge) (sym (filter-map (λ e. not (list_any (same_edge e) other.edges)) (edge_at mine) ours))

-- Tables of edges

-- numbers of cells are below how many there are
pub are-below : (P : Plan) (mine : List CellRef) (numbers : List (Option ℕ)) (n : ℕ) → numbers ≡ map (cell_place P) mine → n ≡ length (cells P) → AreBelow n numbers
are-below P mine numbers n found long i k is = at (cases_lt i (length mine))
  where
    there : get_or (map (cell_place P) mine) i None ≡ Some k
    there = ap (λ z. get_or z i None) (sym found) ∙ is

    at : (i < length mine) ⊎ (length mine ≤ i) → k < n
    at (inl less) = subst (λ z. k < z) (sym long) (numbered (cells P) (cell_at mine i) k (sym (get_or-map (cell_place P) mine i no_cell None less) ∙ there)).0
    at (inr past) = absurd (none (sym (get_or_past (map (cell_place P) mine) i None (subst (λ z. z ≤ i) (sym (length-map mine (cell_place P))) past)) ∙ there))
      where
        none : None ≡ Some k → ⊥
        none e = cc

-- the links of a table whose edges another hasn't are its edges that the other's plan lacks
pub lacked-of : (P : Plan) (mine other : CellEdges) → other ≡ record { cells = cells P; edges = edges P } → AreBetween other.cells other.edges → (ours : List Link) → AreWithin mine.cells ours → map (edge_at mine.cells) ours ≡ mine.edges →
    (numbers : List (Option ℕ)) → numbers ≡ map (cell_place P) mine.cells → (cs : List CellRef) → cs ≡ mine.cells →
    map (λ l. HasEdge (edge_at cs l)) (filter (λ l. not (is_there numbers other l)) ours) ≡ map HasEdge (filter (λ e. not (list_any (same_edge e) (edges P))) mine.edges)
lacked-of P mine other of_plan between ours inner our_edges numbers found cs ours_are =
    ap (λ xs. map (λ l. HasEdge (edge_at xs l)) (filter (λ l. not (is_there numbers other l)) ours)) ours_are
    ∙ lacked-edges other between mine.cells numbers (found ∙ ap (λ t. map (λ x. position_from (same_cell x) 0 t.cells) mine.cells) (sym of_plan)) ours inner
    ∙ ap₂ (λ es fs. map HasEdge (filter (λ e. not (list_any (same_edge e) es)) fs)) (ap (λ t. t.edges) of_plan) our_edges
