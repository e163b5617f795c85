use Rattle.std.proofs.Common.{arith}
use Rattle.civil_moment.proofs.Padded.{two_padded, four_padded}
use Rattle.civil_moment.proofs.Readings.{month_small, day_small}
use Rattle.civil_moment.proofs.moment.MomentDisplay.fmt.Goals as goal

pub returns-clause-writes : goal.returns-clause-writes
returns-clause-writes g c = λ plain ok.
    let i = c.self.invariant in
    let m = c.self.inside in
    let w = c.write.ensures.writes plain ok in
    let v = rw (c.laid_out.ensures, c.laid_out-2.ensures, c.laid_out-3.ensures, c.laid_out-4.ensures, c.laid_out-5.ensures, c.laid_out-6.ensures, four_padded m.year (omega (arith, i.since)) i.until, two_padded m.month (month_small _ i), two_padded m.day (day_small _ i), two_padded m.hour (omega (arith, i.hour)), two_padded m.minute (omega (arith, i.minute)), two_padded m.second (omega (arith, i.second))) at w in
    rw (← c.self.view_is) v
