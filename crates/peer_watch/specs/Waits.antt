-- How long the answer to a refused association waits. All of it is own profile.
use Rattle.std.specs.Prelude.{ℕ, zero, suc, ◌*◌, ◌^◌, min}

-- milliseconds, by the penalty and by which refusal of its connection it is: behind the first the penalty, behind each further twice as many, and at most 8,000
abbrev pub wait_behind : ℕ → ℕ → ℕ
wait_behind penalty zero = 0
wait_behind penalty (suc before) = min (penalty * 2 ^ before) 8_000
