use Rattle.std.proofs.Common.{List, ℕ, subst, sym}
use Rattle.trail_words.specs.Notes.{IsTextOf}
use Rattle.trail_words.proofs.notes.seconds_in.Goals as goal

pub returns-in-Some : goal.returns-in-Some
returns-in-Some c = (c.in-Some.moment, subst (λ (t : List ℕ). IsTextOf c.in-Some.moment t) c.moment_word.ensures c.in-Some.ensures.found, sym c.seconds.ensures)
