use Rattle.std.proofs.Common.{◌≤◌, arith}
use Rattle.line_sources.proofs.Shown.{shown_at, year_since}
use Rattle.line_sources.proofs.moments.moment_at.Goals as goal

pub returns-clause-found : goal.returns-clause-found
returns-clause-found c =
    let since : 946_684_800 ≤ c.args.second = omega arith in
    shown_at c.in_ok-clock_at.field-0 c.args.second c.moment_shown.result c.in_ok-clock_at.ensures.found since c.moment_shown.ensures.found

pub returns-clause-exact : goal.returns-clause-exact
returns-clause-exact c = λ since until. c.moment_shown.ensures.exact (year_since c.in_ok-clock_at.field-0 c.args.second c.in_ok-clock_at.ensures.found since)
