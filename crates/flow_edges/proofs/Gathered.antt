-- Gathering edges one after another leaves out those that were found before, as the definition does.
use Rattle.std.proofs.Common.{◌≡◌, Bool, true, false, cond, List, [], ◌∷◌, ◌++◌, refl, sym, ap, ◌∙◌}
use Rattle.std.specs.Prelude.{◌||◌}
use Rattle.std.specs.List.{list_any}
use Rattle.std.proofs.lemmas.List.{append_assoc, append-nil}
use Rattle.std.proofs.lemmas.List.Folds.{list_any-append}
use Rattle.meter_theory.specs.Edges.{same_edge, first_of_each}
use Rattle.meter_theory.specs.declared.flow.Edge.{Edge}
use Rattle.cosem_data.specs.declared.cell.CellRef.{CellRef}
use Rattle.flow_edges.specs.Gather.{add_edge, gather, IsGathered}
use Rattle.flow_edges.specs.Table.{CellEdges}

-- edges between cells
abbrev pub joined : List CellRef → List Edge → CellEdges
joined cells edges = record { cells = cells; edges = edges }

-- edges behind others are gathered after them
pub gather-append : (found es fs : List Edge) → gather found (es ++ fs) ≡ gather (gather found es) fs
gather-append found [] fs = refl
gather-append found (e ∷ es) fs = gather-append (add_edge found e) es fs

or-swap : (a b : Bool) → (a || (b || false)) ≡ (b || a)
or-swap true true = refl
or-swap true false = refl
or-swap false true = refl
or-swap false false = refl

step : (found earlier : List Edge) (e : Edge) (es : List Edge) → ((f : Edge) → list_any (same_edge f) found ≡ list_any (same_edge f) earlier) →
    (b : Bool) → list_any (same_edge e) found ≡ b →
    gather found es ≡ found ++ first_of_each earlier es →
    gather (found ++ e ∷ []) es ≡ (found ++ e ∷ []) ++ first_of_each (e ∷ earlier) es →
    gather (cond b found (found ++ e ∷ [])) es ≡ found ++ cond (list_any (same_edge e) earlier) (first_of_each earlier es) (e ∷ first_of_each (e ∷ earlier) es)
step found earlier e es same true p old new =
    old ∙ ap (λ b. found ++ cond b (first_of_each earlier es) (e ∷ first_of_each (e ∷ earlier) es)) (sym p ∙ same e)
step found earlier e es same false p old new =
    new
    ∙ (append_assoc found (e ∷ []) (first_of_each (e ∷ earlier) es)
    ∙ ap (λ b. found ++ cond b (first_of_each earlier es) (e ∷ first_of_each (e ∷ earlier) es)) (sym p ∙ same e))

-- the same edges have been found, in whatever order they stand
pub gather-first : (found earlier es : List Edge) → ((e : Edge) → list_any (same_edge e) found ≡ list_any (same_edge e) earlier) →
    gather found es ≡ found ++ first_of_each earlier es
gather-first found earlier [] same = sym (append-nil found)
gather-first found earlier (e ∷ es) same =
    step found earlier e es same (list_any (same_edge e) found) refl
    (gather-first found earlier es same)
    (gather-first (found ++ e ∷ []) (e ∷ earlier) es (λ f.
    list_any-append (same_edge f) found (e ∷ [])
    ∙ (or-swap (list_any (same_edge f) found) (same_edge f e) ∙ ap (λ b. same_edge f e || b) (same f))))

-- from nothing: the list of the definition
pub gather-all : (es : List Edge) → gather [] es ≡ first_of_each [] es
gather-all es = gather-first [] [] es (λ e. refl)

-- what was gathered from nothing is the list of the definition
pub all-gathered : (a b : CellEdges) (cells : List CellRef) (es : List Edge) → a ≡ joined cells [] → IsGathered a b es → b ≡ joined cells (first_of_each [] es)
all-gathered a b cells es nothing all =
    let there : b.cells ≡ cells = all.cells ∙ ap (λ (t : CellEdges). t.cells) nothing in
    let edges : b.edges ≡ first_of_each [] es = all.edges ∙ ap (λ (t : CellEdges). gather t.edges es) nothing ∙ gather-all es in
    λ i. record { cells = there i; edges = edges i }
