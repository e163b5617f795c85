use Rattle.std.proofs.Common.{◌≡◌, map, take}
use Rattle.std.specs.List.{flat_map}
use Rattle.trail_file.specs.Text.{entry_of}
use Rattle.trail_store.specs.Past.{AreKeptLines, steps_of_said}
use Rattle.trail_store.specs.Stored.{steps_in}
use Rattle.trail_store.proofs.past.Past.of.Given as goal

-- the entries so far are put
abbrev pub invariant-loop-index : goal.invariant-loop-index
invariant-loop-index l = record {
  steps : flat_map steps_of_said l.said.items ≡ steps_in l.plan (map entry_of (take l.index l.entries));
  each : AreKeptLines l.plan (map entry_of (take l.index l.entries));
}
