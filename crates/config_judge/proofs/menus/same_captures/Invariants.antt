use Rattle.std.proofs.Common.{◌≡◌, drop}
use Rattle.config_rules.specs.Passes.{same_captures}
use Rattle.config_judge.proofs.menus.same_captures.Given as goal

-- those before are the same
abbrev pub invariant-loop-i : goal.invariant-loop-i
invariant-loop-i l = same_captures (drop l.i l.one) (drop l.i l.other) ≡ same_captures l.one l.other
