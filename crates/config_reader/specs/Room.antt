-- What a meter has room for.
use Rattle.std.specs.Prelude.{nat_le, Bool, true, ◌&&◌}
use Rattle.config_text.specs.Parts.{BodyText, ProfileText}
use Rattle.meter_theory.specs.declared.limits.TheConstants as limits

-- a profile keeps at least 1 entry, and no more than a limit (own profile)
abbrev pub has_room : BodyText → Bool
has_room (ProfileText captures period entries sort_method) = nat_le 1 entries && nat_le entries limits.PROFILE_ENTRIES
has_room _ = true
