use Rattle.std.proofs.Common.{◌≡◌, None, take}
use Rattle.std.specs.List.{filter_map}
use Rattle.meter_core.specs.Moments.{offered}
use Rattle.line_notices.specs.Seen.{first_seen}
use Rattle.line_notices.proofs.seen.driven_seen.Given as goal

-- nothing is seen of what is offered to the objects so far
abbrev pub invariant-loop-object : goal.invariant-loop-object
invariant-loop-object l = first_seen l.sight.checked.now l.sight.client (filter_map offered (take l.object-index l.object-items)) ≡ None
