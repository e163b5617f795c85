-- Lines that are told. All of it is own profile.
use Rattle.std.specs.Prelude.{ℕ, ◌-◌, nat_le, List, ◌++◌, codes, if◌then◌else◌, length, take}
use Rattle.std.specs.Fmt.{decimal}

-- a line with its newline, or the beginning of a long one and how much was more
unfoldable pub cut : List ℕ → List ℕ
cut line = if nat_le (length line) 1001 then line else take 960 line ++ (codes " ... and " ++ (decimal (length line - 960) ++ codes " bytes more\n"))
