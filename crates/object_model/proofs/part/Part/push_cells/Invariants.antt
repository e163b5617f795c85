use Rattle.std.proofs.Common.{◌≡◌, ◌++◌, map, take}
use Rattle.cosem_data.specs.Cells.{cell}
use Rattle.object_model.proofs.part.Part.push_cells.Given as goal

abbrev pub invariant-loop-index : goal.invariant-loop-index
invariant-loop-index l = l.cells.items ≡ l.initial.cells.items ++ map (cell l.class_id l.name) (take l.index-index l.indexes)
