use Rattle.std.proofs.Common.{◌≡◌, ◌++◌, map, flat_map, take, drop}
use Rattle.meter_theory.specs.State.{value}
use Rattle.line_words.specs.Changes.{change_of}
use Rattle.line_words.proofs.watch.look_at_all.Given as goal

-- the cells before the index are done, and those from it on are as they were
abbrev pub invariant-loop-one : goal.invariant-loop-one
invariant-loop-one l = record {
  told : l.lines.items ≡ l.initial.lines.items ++ flat_map (λ e. change_of e.0 e.1 (value l.meter e.0)) (take l.one-index l.initial.kept);
  done : take l.one-index l.kept ≡ map (λ e. (e.0, value l.meter e.0)) (take l.one-index l.initial.kept);
  left : drop l.one-index l.kept ≡ drop l.one-index l.initial.kept;
}
