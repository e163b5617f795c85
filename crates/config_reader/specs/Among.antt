-- The client and the right that a text names, by the clients alone.
use Rattle.std.specs.Prelude.{ℕ, List}
use Rattle.std.specs.List.{position_from}
use Rattle.std.specs.Str.{bytes_eq}
use Rattle.meter_theory.specs.Plan.{Right}
use Rattle.config_text.specs.Parts.{Text, ClientText, RightText}
use Rattle.config_rules.specs.PlanOf.{name_of, or_else}

-- the place of the client with this name (own profile)
abbrev pub place_among : List ClientText → Text → ℕ
place_among clients name = or_else 0 (position_from (λ client. bytes_eq client.name name) 0 clients)

-- a right of one of these clients (own profile)
abbrev pub right_among : List ClientText → RightText → Right
right_among clients r = record { client = place_among clients r.client; object = name_of r.object; gets = r.gets; sets = r.sets; acts = r.acts }
