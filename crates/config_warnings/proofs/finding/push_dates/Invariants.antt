use Rattle.std.proofs.Common.{◌≡◌, ◌++◌, flat_map, take}
use Rattle.config_warnings.specs.Found.{dates_in, placed, times_of}
use Rattle.config_warnings.proofs.finding.push_dates.Given as goal

abbrev pub invariant-loop-place : goal.invariant-loop-place
invariant-loop-place l = l.all.items ≡ l.initial.all.items ++ flat_map (λ o. dates_in o.0 (times_of o.1.part)) (placed (take l.place l.objects))
