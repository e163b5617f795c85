use Rattle.std.proofs.Common.{◌≡◌, ◌++◌, ℕ, List, [], OnOk, take, drop}
use Rattle.config_text.specs.Fault.{Fault}
use Rattle.config_rules.specs.Walks.{each_after}
use Rattle.config_judge.proofs.walk.each_new.Given as goal

-- what was found, and the faults of what is left, after what was judged
abbrev pub invariant-loop-i : goal.invariant-loop-i
invariant-loop-i g l =
    (says : List g.row.T.Denot → List ℕ → g.row.T.Denot → List Fault)
    → ((before : _) (earlier : _) (at : _) (x : _) (r : _) (after : _) → goal.F-post g l.judge before earlier at x r after
    → OnOk r (after.now.items ≡ before.now.items ++ says earlier.now at.now x.now))
    → l.faults.items ++ each_after says l.name (take l.i l.items) (drop l.i l.items) ≡ l.fn.faults.items ++ each_after says l.name [] l.items
