use Rattle.std.proofs.Common.{◌≡◌, List, Result, Ok, drop, map}
use Rattle.toml.specs.View.{items_view, array_view}
use Rattle.config_text.specs.Fault.{Faults, ◌<*>◌}
use Rattle.config_text.specs.Lists.{each}
use Rattle.config_text.specs.Reading.{Reads}
use Rattle.config_text.proofs.Readings.{behind}
use Rattle.config_text.proofs.elements.each.Given as goal

-- what was read, and behind it what is left
abbrev pub invariant-loop-i : goal.invariant-loop-i
invariant-loop-i g l =
    let one = g.E.Element.says l.element in
    (so_far : Result (List g.E.Element.Said) Faults) × Reads (λ all. map g.E.Element.seen all.items) l.all so_far
    × (Ok behind <*> so_far <*> each one l.name l.i (items_view (drop l.i l.array.items)) ≡ each one l.name 0 (array_view l.array))
