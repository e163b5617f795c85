use Rattle.std.proofs.Common.{map, drop}
use Rattle.cosem_data.specs.View.{tree}
use Rattle.object_model.proofs.Columns.{IsLeft}
use Rattle.object_model.proofs.menus.chosen_columns.Given as goal

abbrev pub invariant-loop-cells : goal.invariant-loop-cells
invariant-loop-cells l =
    IsLeft l.profile.plan (tree l.objects) (map (λ cells. cells.items) l.cells-items) (map (λ cells. cells.items) (drop l.cells-index l.cells-items)) l.others
