-- Gathering in loops.
use Rattle.std.specs.Prelude.{◌≡◌, ℕ, ◌+◌, ◌<◌, Bool, true, false, cond, List, [], ◌∷◌, ◌++◌, map, flat_map, filter, take, length, get_or}
use Rattle.std.proofs.Common.{refl, sym, ap, subst, ◌∙◌}
use Rattle.std.proofs.lemmas.List.{append-nil, get_or-map}
use Rattle.std.proofs.lemmas.List.Elements.{filter_more}
use Rattle.std.proofs.lemmas.Grind.{flat_map-append}
use Rattle.cosem_data.specs.declared.cell.CellRef.{CellRef}
use Rattle.meter_theory.specs.declared.flow.Edge.{Edge}
use Rattle.flow_edges.specs.declared.table.Link.{Link}
use Rattle.flow_edges.specs.Table.{cell_at, edge_at, no_cell, CellEdges}
use Rattle.flow_edges.specs.Gather.{add_edge, gather, IsGathered}
use Rattle.flow_edges.proofs.Gathered.{gather-append}

-- edges that are gathered behind others are gathered with them
pub gathered_join : (a b d : CellEdges) (es fs : List Edge) → IsGathered a b es → IsGathered b d fs → IsGathered a d (es ++ fs)
gathered_join a b d es fs p q = record {
  cells = q.cells ∙ p.cells;
  edges = q.edges ∙ (ap (λ z. gather z fs) p.edges ∙ sym (gather-append a.edges es fs));
}

-- the same edges in other words
pub gathered-is : (a b : CellEdges) (es fs : List Edge) → es ≡ fs → IsGathered a b es → IsGathered a b fs
gathered-is a b es fs e h = subst (IsGathered a b) e h

-- what one more edge makes
abbrev pub with_edge : CellEdges → Edge → CellEdges
with_edge b e = record { cells = b.cells; edges = add_edge b.edges e }

-- which is gathered then
pub gathered_one : (b d : CellEdges) (e : Edge) → d ≡ with_edge b e → IsGathered b d (e ∷ [])
gathered_one b d e is = record { cells = ap (λ (f : CellEdges). f.cells) is; edges = ap (λ (f : CellEdges). f.edges) is }

-- one more edge, between cells as they were at the start
pub gathered_add : (a b d : CellEdges) (es : List Edge) (l : Link) → IsGathered a b es → d ≡ with_edge b (edge_at b.cells l) → IsGathered a d (es ++ edge_at a.cells l ∷ [])
gathered_add a b d es l p is =
    subst (λ cs. IsGathered a d (es ++ edge_at cs l ∷ [])) p.cells
    (gathered_join a b d es (edge_at b.cells l ∷ []) p (gathered_one b d (edge_at b.cells l) is))

-- one more target, or one more cell that is none
pub filter_step : (p : CellRef → Bool) (cs : List CellRef) (targets : List Bool) (i : ℕ) (b : Bool) (f : CellRef → List Edge) → i < length cs → targets ≡ map p cs → get_or targets i false ≡ b →
    flat_map f (filter p (take i cs)) ++ cond b (f (cell_at cs i)) [] ≡ flat_map f (filter p (take (i + 1) cs))
filter_step p cs targets i b f less are is =
    let at : p (cell_at cs i) ≡ b = sym (get_or-map p cs i no_cell false less) ∙ (ap (λ ts. get_or ts i false) (sym are) ∙ is) in
    sym (ap (flat_map f) (filter_more p cs i no_cell less)
    ∙ (flat_map-append f (filter p (take i cs)) (cond (p (cell_at cs i)) (cell_at cs i ∷ []) [])
    ∙ ap (λ z. flat_map f (filter p (take i cs)) ++ z) (one (p (cell_at cs i)) b at)))
  where
    one : (q r : Bool) → q ≡ r → flat_map f (cond q (cell_at cs i ∷ []) []) ≡ cond r (f (cell_at cs i)) []
    one true true e = append-nil (f (cell_at cs i))
    one false false e = refl
    one true false e = cc
    one false true e = cc
