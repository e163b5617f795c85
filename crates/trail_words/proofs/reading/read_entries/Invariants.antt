use Rattle.std.proofs.Common.{◌≡◌, ◌++◌, List, ℕ, All, length, map}
use Rattle.trail_file.specs.Rest.{IsFront}
use Rattle.trail_words.specs.Wanting.{HasMoment, entry_of}
use Rattle.trail_words.proofs.reading.read_entries.Given as goal

-- what was read is whole, and the rest stands behind it
abbrev pub invariant-entries : goal.invariant-entries
invariant-entries l = record {
  front : (front : List ℕ) × (l.file ≡ front ++ l.rest) × IsFront front (map entry_of l.steps.items);
  moments : All HasMoment l.steps.items;
}

abbrev pub decreases-entries : goal.decreases-entries
decreases-entries l = length l.rest
