-- What is looked for among the effects of a walk.
use Rattle.std.proofs.Common.{◌≡◌, ◌++◌, ◌||◌, ◌∷◌, [], Bool, true, false, List, refl, sym, ap, ◌∙◌}
use Rattle.std.specs.List.{FoldsTo}
use Rattle.std.proofs.lemmas.Fn.{chained_keeps}
use Rattle.std.proofs.lemmas.List.{flat_map_more}
use Rattle.std.proofs.lemmas.List.Folds.{list_any-append}
use Rattle.cosem_data.specs.Cells.{same_cell}
use Rattle.cosem_data.specs.declared.cell.CellRef.{CellRef}
use Rattle.meter_theory.specs.Edges.{among}
use Rattle.meter_theory.specs.Steps.{Effect, changed, changed_by}
use Rattle.flow_map.specs.Granting.{SeeksMore}
use Rattle.flow_map.specs.declared.granting.Seeking.{Seeking}

or-true : (a : Bool) → (a || true) ≡ true
or-true true = refl
or-true false = refl

or-false : (a : Bool) → (a || false) ≡ a
or-false true = refl
or-false false = refl

or-later : (a b c : Bool) → ((a || b) || c) ≡ (a || (b || c))
or-later true b c = refl
or-later false b c = refl

pub seen-there : (old : Seeking) (e : Effect) → among (changed_by e) old.cell ≡ true → SeeksMore old e (record { cell = old.cell; found = true })
seen-there old e h = record { cell_is = refl; found_is = sym (ap (λ b. old.found || b) h ∙ or-true old.found) }

pub seen-nowhere : (old : Seeking) (e : Effect) → among (changed_by e) old.cell ≡ false → SeeksMore old e (record { cell = old.cell; found = old.found })
seen-nowhere old e h = record { cell_is = refl; found_is = sym (ap (λ b. old.found || b) h ∙ or-false old.found) }

-- so far the cell was among what these effects change, or it wasn't
record IsSought (x : CellRef) (effects : List Effect) (now : Seeking) : Type 0 where
  cell_is : now.cell ≡ x
  found_is : now.found ≡ among (changed effects) x

sought-more : (x : CellRef) (effects : List Effect) (now : Seeking) (e : Effect) (next : Seeking) → IsSought x effects now → SeeksMore now e next → IsSought x (effects ++ e ∷ []) next
sought-more x effects now e next so_far step = record {
  cell_is = step.cell_is ∙ so_far.cell_is;
  found_is =
      step.found_is
      ∙ (ap (λ b. b || among (changed_by e) now.cell) so_far.found_is
      ∙ (ap (λ z. among (changed effects) x || among (changed_by e) z) so_far.cell_is
      ∙ (sym (list_any-append (same_cell x) (changed effects) (changed_by e)) ∙ ap (λ xs. among xs x) (flat_map_more changed_by [] effects e))));
}

-- a walk that began with nothing found
pub walk-seeks : (x : CellRef) (effects : List Effect) (begun done : Seeking) → begun.cell ≡ x → begun.found ≡ false → FoldsTo SeeksMore begun effects done → done.found ≡ among (changed effects) x
walk-seeks x effects begun done same none walk =
    (chained_keeps SeeksMore (IsSought x) (sought-more x) effects begun done (record { cell_is = same; found_is = none }) walk).found_is
