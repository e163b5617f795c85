use Rattle.std.proofs.Common.{◌≡◌, map, take}
use Rattle.serde_json.specs.Data.{string}
use Rattle.serde_json.specs.View.{view}
use Rattle.flow_forms.specs.Json.{head_text}
use Rattle.flow_forms.specs.Rights.{heads_of}
use Rattle.flow_forms.proofs.json_rights.objects_value.Given as goal

-- the objects before
abbrev pub invariant-loop-number : goal.invariant-loop-number
invariant-loop-number l = map view l.list.items ≡ map (λ o. string (head_text o)) (take l.number (heads_of l.plan))
