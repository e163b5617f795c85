use Rattle.std.proofs.Common.{◌≡◌, ◌++◌, map, take}
use Rattle.cosem_data.specs.View.{tree}
use Rattle.config_warnings.specs.Found.{dates_in}
use Rattle.config_warnings.proofs.finding.push_dates_of.Given as goal

abbrev pub invariant-loop-place : goal.invariant-loop-place
invariant-loop-place l = l.all.items ≡ l.initial.all.items ++ dates_in l.object (take l.place (map tree l.times))
