use Rattle.std.proofs.Common.{◌≡◌, flat_map, map}
use Rattle.std.specs.List.{range_with_len}
use Rattle.serde_json.specs.View.{view}
use Rattle.flow_forms.specs.Json.{index_if}
use Rattle.flow_forms.specs.Rights.{rights_of}
use Rattle.flow_forms.proofs.json_rights.indexes_value.Given as goal

-- the indexes before
abbrev pub invariant-loop-place : goal.invariant-loop-place
invariant-loop-place l = map view l.list.items ≡ flat_map (index_if ((rights_of l.plan).allows l.client l.access l.object.name)) (range_with_len 1 l.place)
