use Rattle.std.proofs.Common.{◌≡◌, ◌++◌, drop}
use Rattle.value_words.specs.Words.{letters_words}
use Rattle.value_words.proofs.writing.push_letters.Given as goal

-- the bytes before are written, and those that follow are put behind them
abbrev pub invariant-loop-byte : goal.invariant-loop-byte
invariant-loop-byte l = l.text.items ++ letters_words (drop l.byte-index l.bytes) ≡ l.initial.text.items ++ letters_words l.bytes
