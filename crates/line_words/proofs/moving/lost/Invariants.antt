use Rattle.std.proofs.Common.{◌≡◌, ◌+◌, drop, map}
use Rattle.cosem_data.specs.View.{tree}
use Rattle.line_words.specs.Changes.{lost}
use Rattle.line_words.proofs.moving.lost.Given as goal

-- as many went, and as many more of those behind them
abbrev pub invariant-loop-count : goal.invariant-loop-count
invariant-loop-count l = l.count + lost (map tree (drop l.count l.older)) (map tree l.newer) ≡ lost (map tree l.older) (map tree l.newer)
