use Rattle.std.proofs.Common.{◌≡◌, ◌++◌, OnOk, List, drop}
use Rattle.config_text.specs.Fault.{Fault}
use Rattle.config_text.specs.Parts.{Text, ScriptRefText}
use Rattle.config_rules.specs.Walks.{each_from, both_scripts}
use Rattle.config_judge.proofs.reference_walk.each_threshold.Given as goal

-- what was found, and the faults of what is left
abbrev pub invariant-loop-i : goal.invariant-loop-i
invariant-loop-i g l =
    (says : Text → ScriptRefText → List Fault)
    → ((before : _) (place : _) (x : _) (r : _) (after : _) → goal.F-post g l.judge before place x r after
    → OnOk r (after.now.items ≡ before.now.items ++ says place.now x.now))
    → l.faults.items ++ each_from (both_scripts says) l.name l.i (drop l.i l.actions)
    ≡ l.fn.faults.items ++ each_from (both_scripts says) l.name 0 l.actions
