use Rattle.std.proofs.Common.{◌≡◌, ◌++◌, map, string_bytes, take}
use Rattle.flow_changes.specs.Changes.{lines}
use Rattle.flow_changes.specs.Shown.{shown}
use Rattle.flow_changes.proofs.text.push_lines.Given as goal

-- the lines of the facts before
abbrev pub invariant-loop-fact : goal.invariant-loop-fact
invariant-loop-fact l = string_bytes l.text ≡ string_bytes l.initial.text ++ lines l.fn.change l.fn.kind (map shown (take l.fact-index l.facts))
