-- How long an idle connection is waited for. All of it is own profile.
use Rattle.std.specs.Prelude.{◌≡◌, ℕ, ◌+◌, ◌*◌, ◌<◌, ◌≤◌}
use Rattle.std.specs.Duration.{as_nanos}
use Rattle.peer_watch.specs.declared.rules.Left.{Left}
use Rattle.peer_watch.specs.declared.rules.Left.TheVariants.{Unbounded, AtMost, Over}

-- what is left of so many seconds, of which 0 are any number, where so many nanoseconds have passed
abbrev pub IsLeft : ℕ → ℕ → Left → Type 0
IsLeft idle passed Unbounded = idle ≡ 0
IsLeft idle passed (AtMost left) = (0 < as_nanos left) × (as_nanos left + passed ≡ idle * 1_000_000_000)
IsLeft idle passed Over = (0 < idle) × (idle * 1_000_000_000 ≤ passed)
