-- The marks tell which edges were found.
use Rattle.std.proofs.Common.{◌≡◌, ◌≢◌, ◌<◌, ◌≤◌, ◌+◌, ◌*◌, ◌⊎◌, ℕ, suc, Bool, true, false, List, [], ◌∷◌, ◌++◌, map, length, get_or, set, refl, sym, ap, ap₂, subst, ◌∙◌, arith, inl, inr}
use Rattle.std.specs.Prelude.{◌||◌, ◌&&◌, ◌/◌}
use Rattle.std.specs.List.{list_any}
use Rattle.std.proofs.Math.Nat.{mul-le-mul_right}
use Rattle.std.proofs.lemmas.Nat.{div-mul-add}
use Rattle.std.proofs.lemmas.Bool.{and_parts, cond-true, cond-false}
use Rattle.std.proofs.lemmas.List.{map-append, get_or-set_same, get_or-set_other, length-set, get_or_default}
use Rattle.std.proofs.lemmas.List.Folds.{list_any-append}
use Rattle.cosem_data.specs.Cells.{same_cell}
use Rattle.cosem_data.specs.declared.cell.CellRef.{CellRef}
use Rattle.cosem_data.proofs.Same.{same_cell-refl}
use Rattle.meter_theory.specs.Edges.{same_cause, same_edge}
use Rattle.meter_theory.specs.Lists.{IsIn}
use Rattle.object_model.proofs.Positions.{in-at}
use Rattle.flow_edges.specs.declared.table.Link.{Link}
use Rattle.meter_theory.specs.declared.flow.Cause.{Cause}
use Rattle.flow_edges.specs.Causes.{has_cause}
use Rattle.flow_edges.specs.declared.causes.Causes.{Causes}
use Rattle.flow_edges.specs.Table.{cell_at, edge_at, no_cell, place_of, AreBetween, AreCells, AreWithin, CellEdges, IsLink, IsMarked}
use Rattle.flow_edges.specs.Gather.{add_edge}
use Rattle.flow_edges.proofs.Gathered.{joined}

same_or_not : (m n : ℕ) → (m ≡ n) ⊎ (m ≢ n)
same_or_not m n = grind arith

abbrev none : Causes
none = record { mask = 0 }

-- the mark at this place
abbrev pub mark_at : List Causes → ℕ → Causes
mark_at marks p = get_or marks p none

-- a number in base n is its digits
digits : (n a b s t : ℕ) → s < n → t < n → a * n + s ≡ b * n + t → (a ≡ b) × (s ≡ t)
digits n a b s t p q e =
    let left : a ≡ b = sym (div-mul-add a n s p) ∙ (ap (λ z. z / n) e ∙ div-mul-add b n t q) in
    let same : a * n ≡ b * n = ap (λ z. z * n) left in
    (left, omega arith)

-- the place of a pair is within the table
pub place_within : (n s t : ℕ) → s < n → t < n → s * n + t < n * n
place_within n s t q r =
    let row : suc s ≤ n = omega arith in
    omega (arith, mul-le-mul_right n row)

-- edges of links within a list are between its cells
pub between : (cells : List CellRef) (links : List Link) → AreWithin cells links → AreBetween cells (map (edge_at cells) links)
between cells [] w e i = absurd i
between cells (l ∷ links) w e (inl is) =
    (subst (λ f. IsIn cells f.source) (sym is) (in-at cells l.source no_cell w.0.0), subst (λ f. IsIn cells f.target) (sym is) (in-at cells l.target no_cell w.0.1))
between cells (l ∷ links) w e (inr i) = between cells links w.1 e i

both-true : (a b c : Bool) → b ≡ true → c ≡ true → (a && (b && c)) ≡ a
both-true true true true x y = refl
both-true false true true x y = refl
both-true _ _ false x y = cc
both-true _ false _ x y = cc

-- links at one place have one edge, if they have one cause
one_place : (cells : List CellRef) (k l : Link) → IsLink cells k → IsLink cells l → place_of (length cells) k ≡ place_of (length cells) l → same_edge (edge_at cells k) (edge_at cells l) ≡ same_cause k.cause l.cause
one_place cells k l p q e =
    let ends = digits (length cells) k.source l.source k.target l.target p.1 q.1 e in
    both-true (same_cause k.cause l.cause) (same_cell (cell_at cells k.source) (cell_at cells l.source)) (same_cell (cell_at cells k.target) (cell_at cells l.target))
    (subst (λ z. same_cell (cell_at cells k.source) (cell_at cells z) ≡ true) ends.0 (same_cell-refl (cell_at cells k.source)))
    (subst (λ z. same_cell (cell_at cells k.target) (cell_at cells z) ≡ true) ends.1 (same_cell-refl (cell_at cells k.target)))

-- and links with one edge have one place
one_edge : (cells : List CellRef) → AreCells cells → (k l : Link) → IsLink cells k → IsLink cells l → same_edge (edge_at cells k) (edge_at cells l) ≡ true → place_of (length cells) k ≡ place_of (length cells) l
one_edge cells apart k l p q h =
    let a = and_parts (same_cause k.cause l.cause) (same_cell (cell_at cells k.source) (cell_at cells l.source) && same_cell (cell_at cells k.target) (cell_at cells l.target)) h in
    let b = and_parts (same_cell (cell_at cells k.source) (cell_at cells l.source)) (same_cell (cell_at cells k.target) (cell_at cells l.target)) a.1 in
    let s : k.source ≡ l.source = apart.apart k.source l.source p.0 q.0 b.0 in
    let t : k.target ≡ l.target = apart.apart k.target l.target p.1 q.1 b.1 in
    ap₂ (λ x y. x * length cells + y) s t

pub or-true : (a b : Bool) → b ≡ true → true ≡ (a || (b || false))
or-true true true h = refl
or-true false true h = refl
or-true _ false h = cc

pub or-false : (a b : Bool) → b ≡ false → a ≡ (a || (b || false))
or-false true false h = refl
or-false false false h = refl
or-false _ true h = cc

within_more : (cells : List CellRef) (ls : List Link) (l : Link) → AreWithin cells ls → IsLink cells l → AreWithin cells (ls ++ l ∷ [])
within_more cells [] l h p = (p, tt)
within_more cells (k ∷ ls) l h p = (h.0, within_more cells ls l h.1 p)

or-swap : (a b e : Bool) → e ≡ a → (a || b) ≡ (b || (e || false))
or-swap true true true h = refl
or-swap true false true h = refl
or-swap false true false h = refl
or-swap false false false h = refl
or-swap true _ false h = cc
or-swap false _ true h = cc

-- one more link, and its cause in the mark of its cells
pub marked-more : (cells : List CellRef) (links : List Link) (marks : List Causes) (l : Link) (new : Causes) → IsMarked cells links marks → IsLink cells l →
    ((c : Cause) → has_cause new c ≡ (same_cause c l.cause || has_cause (mark_at marks (place_of (length cells) l)) c)) →
    IsMarked cells (links ++ l ∷ []) (set marks (place_of (length cells) l) new)
marked-more cells links marks l new m fits with_cause = record {
  cells_apart = m.cells_apart;
  within = within_more cells links l m.within fits;
  long = length-set marks place new ∙ m.long;
  marked = λ k p. at k p (same_or_not (place_of (length cells) k) place);
}
  where
    place : ℕ
    place = place_of (length cells) l

    there : place < length marks
    there = subst (λ z. place < z) (sym m.long) (place_within (length cells) l.source l.target fits.0 fits.1)

    whole : (k : Link) → list_any (same_edge (edge_at cells k)) (map (edge_at cells) (links ++ l ∷ [])) ≡
        (list_any (same_edge (edge_at cells k)) (map (edge_at cells) links) || (same_edge (edge_at cells k) (edge_at cells l) || false))
    whole k =
        ap (list_any (same_edge (edge_at cells k))) (map-append (edge_at cells) links (l ∷ []))
        ∙ list_any-append (same_edge (edge_at cells k)) (map (edge_at cells) links) (edge_at cells l ∷ [])

    at : (k : Link) → IsLink cells k → (place_of (length cells) k ≡ place) ⊎ (place_of (length cells) k ≢ place) →
        has_cause (mark_at (set marks place new) (place_of (length cells) k)) k.cause ≡ list_any (same_edge (edge_at cells k)) (map (edge_at cells) (links ++ l ∷ []))
    at k p (inl same) =
        ap (λ z. has_cause (mark_at (set marks place new) z) k.cause) same
        ∙ (ap (λ s. has_cause s k.cause) (get_or-set_same marks place new none there)
        ∙ (with_cause k.cause
        ∙ (ap (λ b. same_cause k.cause l.cause || b) (ap (λ z. has_cause (mark_at marks z) k.cause) (sym same) ∙ m.marked k p)
        ∙ (or-swap (same_cause k.cause l.cause) (list_any (same_edge (edge_at cells k)) (map (edge_at cells) links)) (same_edge (edge_at cells k) (edge_at cells l)) (one_place cells k l p fits same)
        ∙ sym (whole k)))))
    at k p (inr other) =
        ap (λ s. has_cause s k.cause) (get_or-set_other marks place (place_of (length cells) k) new none other)
        ∙ (m.marked k p
        ∙ (or-false (list_any (same_edge (edge_at cells k)) (map (edge_at cells) links)) (same_edge (edge_at cells k) (edge_at cells l)) (apart (same_edge (edge_at cells k) (edge_at cells l)) refl) ∙ sym (whole k)))
      where
        apart : (b : Bool) → same_edge (edge_at cells k) (edge_at cells l) ≡ b → b ≡ false
        apart false e = refl
        apart true e = absurd (other (one_edge cells m.cells_apart k l p fits e))

-- an edge that was found before changes nothing
pub found_before : (f : CellEdges) (cells : List CellRef) (links : List Link) (l : Link) → record { cells = cells; edges = map (edge_at cells) links } ≡ f →
    list_any (same_edge (edge_at cells l)) (map (edge_at cells) links) ≡ true → f ≡ record { cells = f.cells; edges = add_edge f.edges (edge_at f.cells l) }
found_before f cells links l is before =
    let P : CellEdges → Type 0 = λ g. g ≡ record { cells = g.cells; edges = add_edge g.edges (edge_at g.cells l) } in
    subst P is (λ i. record { cells = cells; edges = sym (cond-true (list_any (same_edge (edge_at cells l)) (map (edge_at cells) links)) (map (edge_at cells) links) (map (edge_at cells) links ++ edge_at cells l ∷ []) before) i })

-- one that wasn't goes behind the others
pub found_now : (f : CellEdges) (cells : List CellRef) (links new : List Link) (l : Link) → record { cells = cells; edges = map (edge_at cells) links } ≡ f → new ≡ links ++ l ∷ [] →
    list_any (same_edge (edge_at cells l)) (map (edge_at cells) links) ≡ false →
    joined cells (map (edge_at cells) new) ≡ joined f.cells (add_edge f.edges (edge_at f.cells l))
found_now f cells links new l is pushed before =
    let P : CellEdges → Type 0 = λ g. joined cells (map (edge_at cells) new) ≡ joined g.cells (add_edge g.edges (edge_at g.cells l)) in
    let e : map (edge_at cells) new ≡ add_edge (map (edge_at cells) links) (edge_at cells l) =
    ap (map (edge_at cells)) pushed ∙ (map-append (edge_at cells) links (l ∷ [])
    ∙ sym (cond-false (list_any (same_edge (edge_at cells l)) (map (edge_at cells) links)) (map (edge_at cells) links) (map (edge_at cells) links ++ edge_at cells l ∷ []) before)) in
    subst P is (λ i. record { cells = cells; edges = e i })

-- what is read at the place of a pair is its mark
pub mark_is : (cells : List CellRef) (links : List Link) (marks : List Causes) (l : Link) → IsMarked cells links marks → IsLink cells l → (p : ℕ) → p ≡ place_of (length cells) l →
    (x : Causes) → x ≡ get_or marks p x → x ≡ mark_at marks (place_of (length cells) l)
mark_is cells links marks l m fits p place x read =
    let there : place_of (length cells) l < length marks =
    subst (λ z. place_of (length cells) l < z) (sym m.long) (place_within (length cells) l.source l.target fits.0 fits.1) in
    read ∙ (ap (λ z. get_or marks z x) place ∙ sym (get_or_default marks (place_of (length cells) l) none x there))

-- what a read mark says
pub read_mark : (cells : List CellRef) (links : List Link) (marks : List Causes) (l : Link) → IsMarked cells links marks → IsLink cells l →
    (x : Causes) → x ≡ mark_at marks (place_of (length cells) l) → (a b : Bool) → a ≡ has_cause x l.cause → a ≡ b → list_any (same_edge (edge_at cells l)) (map (edge_at cells) links) ≡ b
read_mark cells links marks l m fits x read a b has is =
    sym (m.marked l fits) ∙ (ap (λ s. has_cause s l.cause) (sym read) ∙ (sym has ∙ is))
