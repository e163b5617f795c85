-- The numbers to which a walk came.
use Rattle.std.proofs.Common.{◌≡◌, ◌++◌, ◌∷◌, [], List, sym, ap, ◌∙◌}
use Rattle.std.specs.List.{FoldsTo, position_from}
use Rattle.std.proofs.lemmas.Fn.{chained_keeps}
use Rattle.std.proofs.lemmas.List.{flat_map_more}
use Rattle.std.proofs.lemmas.List.Elements.{filter_map-append}
use Rattle.cosem_data.specs.Cells.{same_cell}
use Rattle.meter_theory.specs.Plan.{Plan, cells}
use Rattle.meter_theory.specs.Steps.{Effect, changed, changed_by}
use Rattle.flow_edges.specs.Marking.{numbers_of, NumbersMore}
use Rattle.flow_edges.specs.declared.script_changes.Numbers.{Numbers}

-- a walk that began without numbers
pub walk-numbers : (P : Plan) (effects : List Effect) (none all : Numbers) → none.numbers.items ≡ [] → FoldsTo (NumbersMore P) none effects all → all.numbers.items ≡ numbers_of P (changed effects)
walk-numbers P effects none all empty walk = chained_keeps (NumbersMore P) (λ es now. now.numbers.items ≡ numbers_of P (changed es)) more effects none all empty walk
  where
    more : (es : List Effect) (now : Numbers) (e : Effect) (next : Numbers) → now.numbers.items ≡ numbers_of P (changed es) → NumbersMore P now e next → next.numbers.items ≡ numbers_of P (changed (es ++ e ∷ []))
    more es now e next so_far step =
        step
        ∙ ap (λ ns. ns ++ numbers_of P (changed_by e)) so_far
        ∙ sym (filter_map-append (λ x. position_from (same_cell x) 0 (cells P)) (changed es) (changed_by e))
        ∙ ap (numbers_of P) (flat_map_more changed_by [] es e)
