use Rattle.std.proofs.Common.{take}
use Rattle.std.specs.Prelude.{flat_map}
use Rattle.label_certificate.specs.Granted.{AreJoined, may_call_for, methods_of}
use Rattle.label_certificate.proofs.granted.granted_to_cells.Given as goal

abbrev pub invariant-loop-number : goal.invariant-loop-number
invariant-loop-number l = AreJoined l.plan (may_call_for l.plan (flat_map methods_of (take l.number l.plan.objects))) l.initial.labels.items l.labels.items
