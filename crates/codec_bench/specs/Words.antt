-- What the words of the command line ask for.
use Rattle.std.specs.Prelude.{◌≡◌, ℕ, ◌<◌, ◌^◌, List, codes}
use Rattle.std.specs.Str.Parse.{IsNumeral, digits_value, without_leading_plus}
use Rattle.codec_bench.specs.declared.command.Pass.{Pass}
use Rattle.codec_bench.specs.declared.command.Pass.TheVariants.{Copy, Read, Write}
use Rattle.codec_bench.specs.declared.command.Command.{Command}

-- the word for a kind of pass (own profile)
abbrev pub word_of : Pass → List ℕ
word_of Copy = codes "copy"
word_of Read = codes "read"
word_of Write = codes "write"

-- the text is the number in decimal digits, which a plus may precede, and below 2 ^ 32 (own profile)
abbrev pub IsCount : ℕ → List ℕ → Type 0
IsCount n text = IsNumeral 10 (without_leading_plus text) × (digits_value 10 (without_leading_plus text) ≡ n) × (n < 2 ^ 32)

-- the two words ask for the command
abbrev pub IsCommand : Command → List ℕ → List ℕ → Type 0
IsCommand command name count = (name ≡ word_of command.pass) × IsCount command.times count
