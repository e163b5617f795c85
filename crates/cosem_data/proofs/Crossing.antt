-- Values, names, references of cells and methods, and sets of clients may cross threads: what they own and lend names no thread.
-- `Items` and `Data` hold each other, so the laws of `Items` are shown by a step from each layer of values to the next.
use denote.RattleType.{RattleType}
use denote.Hole.{as_row}
use denote.Struct.Field.{row_field}
use denote.Param.Send.{IsSend, IsSync}
use denote.Model.Local.{Parts, rows}
use denote.Model.Cut.{split_one}
use denote.Model.Goals.{has_of, part_has}
use denote.Model.Goals as goals
use denote.Model.Marks.{both_send, both_sync}
use Rattle.cosem_data.specs.declared.data.Items.{Items, the_code}
use Rattle.cosem_data.specs.declared.data.Items.TheInside.{Inside}
use Rattle.cosem_data.specs.declared.data.Items.TheView as view
use Rattle.cosem_data.specs.declared.data.Items.TheDeep.{the_members, member-Items}
use Rattle.cosem_data.specs.declared.data.Items.TheDeep.{split-Data, join-Data, joins-Data, split-Items, join-Items, joins-Items}
use Rattle.cosem_data.specs.declared.data.Data.TheVariants.{the_data}
use Rattle.cosem_data.specs.contracts.data.Items.TheKnot.{frame, step, sizes, type-Items, type-Data}
use Rattle.cosem_data.specs.contracts.data.Items.TheKnot.{layer-Items, layer-Data, at-Items, at-Data, view-Items}
use Rattle.cosem_data.specs.contracts.data.Items.{the_row as items_row}
use Rattle.cosem_data.specs.contracts.data.Data.{the_row as data_row, enum}
use Rattle.cosem_data.specs.contracts.bytes.Bytes.{the_row as bytes_row, the_field as bytes_field}
use Rattle.cosem_data.specs.contracts.cell.CellRef as cells
use Rattle.cosem_data.specs.contracts.cell.MethodRef as methods
use Rattle.cosem_data.specs.contracts.name.LogicalName as names
use Rattle.cosem_data.specs.contracts.clients.ClientSet as clients
use Rattle.cosem_data.proofs.Crosses.{Crosses, crosses}
use Rattle.cosem_data.proofs.Crosses.{enum_crosses, field_crosses, recorded_crosses, struct_crosses, vec_crosses, view_crosses}

bytes_crosses : Crosses bytes_row
bytes_crosses = search crosses depth 30

module _ (p : Parts frame) (all : (j : the_members) → Crosses (rows frame p j)) where
  abbrev member : RattleType
  member = rows frame p member-Items

  layer_data_crosses : Crosses (layer-Data member member)
  layer_data_crosses = let m = field_crosses (row_field member) (all member-Items) in
      let b = field_crosses (row_field (as_row bytes_field)) bytes_crosses in
      enum_crosses (type-Data member member) (search (m, b, crosses) depth 30)

  at_data_crosses : Crosses (at-Data p)
  at_data_crosses = let L = layer-Data member member in
      recorded_crosses L the_data split-Data (split_one L the_data split-Data join-Data joins-Data) layer_data_crosses

  at_items_crosses : Crosses (at-Items p)
  at_items_crosses = let L = layer-Items (at-Data p) in
      recorded_crosses L Inside split-Items (split_one L Inside split-Items join-Items joins-Items)
      (struct_crosses (type-Items (at-Data p)) (field_crosses (row_field _) (vec_crosses (at-Data p) at_data_crosses), tt))

  view_items_crosses : Crosses (view-Items p)
  view_items_crosses = view_crosses (at-Items p) Items the_code view.view view.invariant at_items_crosses

  step_has : (l : goals.Law) → goals.Has l (view-Items p) → (i : the_members) → goals.Has l (rows frame (step p) i)
  step_has l has member-Items = has_of frame l (step p) member-Items (part_has l (view-Items p) has)

module _ (p : Parts frame) (s : (j : the_members) → IsSend (rows frame p j)) (y : (j : the_members) → IsSync (rows frame p j)) where
  abbrev all : (j : the_members) → Crosses (rows frame p j)
  all j = record { send = s j; sync = y j }

  step_send : (i : the_members) → IsSend (rows frame (step p) i)
  step_send = step_has p all goals.send (view_items_crosses p all).send

  step_sync : (i : the_members) → IsSync (rows frame (step p) i)
  step_sync = step_has p all goals.sync (view_items_crosses p all).sync

items_crosses : Crosses items_row
items_crosses = record {
  send = both_send frame step sizes step_send step_sync member-Items;
  sync = both_sync frame step sizes step_send step_sync member-Items;
}

pub data_crosses : Crosses data_row
data_crosses = let i = items_crosses in let b = bytes_crosses in enum_crosses enum (search (i, b, crosses) depth 30)

pub cell_crosses : Crosses cells.the_row
cell_crosses = search crosses depth 30

pub method_crosses : Crosses methods.the_row
method_crosses = search crosses depth 30

pub name_crosses : Crosses names.the_row
name_crosses = search crosses depth 30

pub client_set_crosses : Crosses clients.the_row
client_set_crosses = search crosses depth 30
