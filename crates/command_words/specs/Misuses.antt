-- What is wrong with words that clap takes, as the program has it. All of it is own profile.
use Rattle.command_words.specs.CommandLine.{Misuse, UnknownForm, OffsetAlone, ClockBesideSteps, TrailAloud, Nameless}
use Rattle.command_words.specs.declared.misuse.Misuse.{Misuse as Held}
use Rattle.command_words.specs.declared.misuse.Misuse.TheVariants as held

-- what is wrong, by what the program has
abbrev pub misuse_of : Held → Misuse
misuse_of (held.UnknownForm command name) = UnknownForm command.now name.now
misuse_of held.OffsetAlone = OffsetAlone
misuse_of held.ClockBesideSteps = ClockBesideSteps
misuse_of held.TrailAloud = TrailAloud
misuse_of held.Nameless = Nameless
