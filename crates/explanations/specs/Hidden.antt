-- What is never shown of a text. All of it is own profile.
use Rattle.std.specs.Prelude.{Bool, true, false}
use Rattle.config_text.specs.declared.cause.Cause.{Cause}
use Rattle.config_text.specs.declared.cause.Cause.TheVariants.{KeyUnknown, Kind}
use Rattle.config_text.specs.declared.takes.KeyTakes.TheVariants.{Password}

-- what stands at a key that takes a password, and at one that isn't known, since that may be one
abbrev pub is_hidden : Cause → Bool
is_hidden (KeyUnknown near) = true
is_hidden (Kind Password) = true
is_hidden cause = false
