-- How a served meter follows the system's clock. All of it is own profile.
use Rattle.std.specs.Prelude.{not, is_some, ◌==◌, if◌then◌else◌}
use Rattle.line_sources.specs.declared.due.Follows.{Follows}
use Rattle.line_sources.specs.declared.due.Follows.TheVariants.{Ticks, Moments}
use Rattle.meter_theory.specs.Plan.{Plan, clock_object}

-- one of version 1 is told the moment of each second, since no second passes over it by itself; else each second passes, and one without a clock object is told first where its clock stands
abbrev pub follows_of : Plan → Follows
follows_of P = if P.version == 1 then Moments else Ticks (not (is_some (clock_object P)))
