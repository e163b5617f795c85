use Rattle.std.proofs.Common.{◌∷◌, refl, ap, List, ℕ}
use Rattle.trail_file.proofs.Walks.{cut_in_note, cut_in_line}
use Rattle.trail_file.proofs.reading.entry_behind.Goals as goal

pub returns-in_default : goal.returns-in_default
returns-in_default c = cut_in_note (35 ∷ c.args.behind.now) c.args.behind.now refl c.in_default.ensures

pub returns-in_default-split_line : goal.returns-in_default-split_line
returns-in_default-split_line c =
    cut_in_line (35 ∷ c.args.behind.now) c.in-Some.note.now c.in-Some.below.now (ap (λ (l : List ℕ). 35 ∷ l) c.in-Some.ensures.0) c.in-Some.ensures.1 c.in_default-split_line.ensures
