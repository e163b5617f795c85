use Rattle.std.proofs.Common.{◌≡◌, ◌++◌, drop}
use Rattle.trail_words.specs.Pieces.{foot_text}
use Rattle.trail_words.specs.Wanting as wanting
use Rattle.trail_words.proofs.Passing.{Waits}
use Rattle.trail_words.proofs.Pieces.{left_text, pieces_text}
use Rattle.trail_words.proofs.writing.write_steps.Given as goal

-- a front was written, the text behind it waits, and the steps from here on are left
abbrev pub invariant-loop-number : goal.invariant-loop-number
invariant-loop-number g l = record {
  text : Waits (pieces_text l.form l.head (wanting.wanted_of l.wanted l.steps)) (left_text l.form l.is_later l.wanted l.steps l.number ++ foot_text l.form l.head) l.waiting.items
      (g.W.Write.contents l.fn.output) (g.W.Write.contents l.output);
  new : l.is_new_here ≡ wanting.is_new l.wanted.since (drop l.number l.steps);
}
