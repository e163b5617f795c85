use Rattle.std.proofs.Common.{◌≡◌, ◌++◌, [], take, drop, codes}
use Rattle.config_rules.specs.Passes.{new_object}
use Rattle.config_rules.specs.Walks.{each_after}
use Rattle.config_judge.proofs.objects.new_objects.Given as goal

-- what was found, and the faults of what is left, behind what was judged
abbrev pub invariant-loop-i : goal.invariant-loop-i
invariant-loop-i l =
    let objects = l.directory.config.now.objects in
    l.faults.items ++ each_after new_object (codes "object") (take l.i objects) (drop l.i objects) ≡ each_after new_object (codes "object") [] objects
