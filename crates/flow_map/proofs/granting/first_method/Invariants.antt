use Rattle.std.proofs.Common.{◌≡◌, ◌<◌, ℕ, None, find, get_or}
use Rattle.label_certificate.specs.Granted.{methods_of}
use Rattle.flow_map.specs.Granting.{calls_change}
use Rattle.flow_map.proofs.Found.{no_object}
use Rattle.flow_map.proofs.granting.first_method.Given as goal

abbrev pub invariant-loop-object : goal.invariant-loop-object
invariant-loop-object l = (j : ℕ) → j < l.object-index → find (calls_change l.plan l.client l.cell) (methods_of (get_or l.plan.objects j no_object)) ≡ None
