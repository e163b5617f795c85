-- What the program tells whoever started it.
use Rattle.std.specs.Prelude.{ℕ}
use Rattle.codec_bench.specs.declared.command.Outcome.{Outcome}
use Rattle.codec_bench.specs.declared.command.Outcome.TheVariants.{Done, Usage, Fault}

-- the exit status: 0 done, 2 a command line that can't be used, 3 a fault (own profile)
abbrev pub status_of : Outcome → ℕ
status_of Done = 0
status_of Usage = 2
status_of (Fault fault) = 3
