use Rattle.std.proofs.Common.{◌≡◌, ◌++◌, ℕ, List, OnOk, drop, map, string_bytes}
use Rattle.config_text.specs.Fault.{Fault}
use Rattle.config_rules.specs.Walks.{each_from}
use Rattle.config_judge.proofs.walk.each_text.Given as goal

-- what was found, and the faults of what is left
abbrev pub invariant-loop-i : goal.invariant-loop-i
invariant-loop-i g l =
    (says : List ℕ → List ℕ → List Fault)
    → ((before : _) (at : _) (x : _) (r : _) (after : _) → goal.F-post g l.judge before at x r after
    → OnOk r (after.now.items ≡ before.now.items ++ says at.now x.now))
    → l.faults.items ++ each_from says l.name l.i (map string_bytes (drop l.i l.texts)) ≡ l.fn.faults.items ++ each_from says l.name 0 (map string_bytes l.texts)
