use Rattle.std.proofs.Common.{◌≡◌, ◌-◌, ◌+◌, ◌*◌, length, map}
use Rattle.cosem_data.specs.View.{tree}
use Rattle.value_words.specs.WordReading.{parts_at, value_within}
use Rattle.value_words.proofs.Loops.{with_front}
use Rattle.value_words.proofs.reading.+read.Given as goal

abbrev pub invariant-parts_of-loop : goal.invariant-parts_of-loop
invariant-parts_of-loop l =
    with_front (map tree l.parts.items) (parts_at (value_within l.depth) (length l.text - l.counter) l.rest) ≡ parts_at (value_within l.depth) (length l.text) l.text

abbrev pub decreases-value_of : goal.decreases-value_of
decreases-value_of l = 4 * l.depth + 2

abbrev pub decreases-content_of : goal.decreases-content_of
decreases-content_of l = 4 * l.depth + 1

abbrev pub decreases-list_of : goal.decreases-list_of
decreases-list_of l = 4 * l.depth

abbrev pub decreases-parts_of : goal.decreases-parts_of
decreases-parts_of l = 4 * l.depth + 3
