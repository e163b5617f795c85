use Rattle.std.proofs.Common.{◌≡◌, ◌-◌, length}
use Rattle.value_words.specs.WordReading.{letters_at}
use Rattle.value_words.proofs.Loops.{with_front}
use Rattle.value_words.proofs.strings.letters_of.Given as goal

abbrev pub invariant-loop : goal.invariant-loop
invariant-loop l = with_front l.letters.items (letters_at (length l.text - l.counter) l.rest) ≡ letters_at (length l.text) l.text
