use Rattle.std.proofs.Common.{map}
use Rattle.std.specs.List.{range_with_len}
use Rattle.meter_theory.specs.Plan.{interface_of}
use Rattle.label_certificate.specs.Granted.{AreJoined, may_call_for}
use Rattle.label_certificate.proofs.granted.join_methods.Given as goal

abbrev pub invariant-loop-place : goal.invariant-loop-place
invariant-loop-place l =
    AreJoined l.instance.plan (may_call_for l.instance.plan (map (λ i. record { class_id = (interface_of l.object.part).class_id; name = l.object.name; index = i }) (range_with_len 1 l.place)))
    l.initial.labels l.labels
