use Rattle.std.proofs.Common.{◌≡◌, ◌+◌, ◌≤◌, length}
use Rattle.step_words.specs.Texts.{lines_at, text_at}
use Rattle.step_words.proofs.Lines.{lines_of, with_front}
use Rattle.step_words.proofs.texts.translated.Given as goal

-- what is made of the lines that are left stands behind what was made of those before
abbrev pub invariant-loop-line : goal.invariant-loop-line
invariant-loop-line l = record { made : text_at l.way l.fn.text ≡ with_front l.made.items (lines_at l.way l.number (lines_of l.rest)); few : l.number + length l.rest ≤ length l.fn.text + 1 }

abbrev pub decreases-loop-line : goal.decreases-loop-line
decreases-loop-line l = length l.rest
