-- Of how many cells labels admit clients that the least labels don't. All of it is own profile.
use Rattle.std.specs.Prelude.{ℕ, Bool, not, ◌&&◌, count_by}
use Rattle.meter_theory.specs.Labels.{Labels, Labelling, within}
use Rattle.meter_theory.specs.declared.flow.Label.{Label}

-- a label admits a client that the least label doesn't, to influence a cell or to learn it
abbrev pub is_wider : (label least : Label) → Bool
is_wider label least = not (within label.influence least.influence && within label.learn least.learn)

-- of how many cells a labelling does
abbrev pub wider_cells : Labelling → (least : Labels) → ℕ
wider_cells labelling least = count_by (λ entry. is_wider (labelling entry.0) entry.1) least
