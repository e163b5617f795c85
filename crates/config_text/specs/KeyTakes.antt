-- The whole numbers that keys take: the least and the greatest.
use Rattle.std.specs.Prelude.{ℕ, ◌^◌, ◌-◌}
use Rattle.config_text.specs.declared.takes.Number.{Number}
use Rattle.config_text.specs.declared.takes.Number.TheVariants as numbers

-- a TOML text has no integer of 2 ^ 63 or more
abbrev pub range_of : Number → ℕ × ℕ
range_of numbers.Version = (1, 2)
range_of numbers.Sap = (1, 127)
range_of numbers.Class = (0, 65535)
range_of numbers.Unit = (0, 255)
range_of numbers.Period = (0, 4294967295)
range_of numbers.Entries = (1, 2 ^ 63 - 1)
range_of numbers.ScheduleType = (1, 5)
range_of numbers.Script = (0, 65535)
range_of numbers.Service = (1, 2)
range_of numbers.Index = (0, 127)
