-- What is told of a fault that ends a run of lines, of an unreadable line without its number (own profile).
use Rattle.std.specs.Prelude.{ℕ, List, codes}
use Rattle.line_server.specs.declared.fault.LineFault.{LineFault}
use Rattle.line_server.specs.declared.fault.LineFault.TheVariants.{Read, Write, Line, Memory}
use Rattle.line_server.specs.declared.reason.Reason.{Reason}
use Rattle.line_server.specs.declared.reason.Reason.TheVariants as reasons

abbrev pub fault_words : LineFault → List ℕ
fault_words Read = codes "the lines can't be read"
fault_words Write = codes "the replies can't be written"
fault_words (Line number why) = codes "unreadable"
fault_words Memory = codes "out of memory"

-- why a line is unreadable (own profile)
abbrev pub reason_words : Reason → List ℕ
reason_words reasons.Short = codes "something is missing: a line has a word, one space and what is asked"
reason_words reasons.Client = codes "the configuration has no client of this name, and no step begins with this word"
reason_words reasons.Mark = codes "a byte order mark stands in front of it: lines are text without one"
reason_words reasons.Words = codes "words follow the client's name: `cosem-flow encode` makes them into a step line"
reason_words reasons.OddDigits = codes "the hex digits are odd in number: two make a byte"
reason_words reasons.Digits = codes "the client's name isn't followed by hex digits and nothing else"
reason_words reasons.Name = codes "the logical name isn't six numbers from 0 to 255, joined by dots, without leading zeros"
reason_words reasons.Value = codes "the value isn't the hex text of one Data with nothing behind it"
reason_words reasons.Moment = codes "the moment isn't YYYY-MM-DDTHH:MM:SS in the years 2000 to 9999, or the calendar hasn't it"
reason_words reasons.Clock = codes "the configuration has a clock object: `at` sets the time of a meter without one alone"
reason_words reasons.Seconds = codes "the seconds aren't a number from 1 to 3600, without leading zeros"
reason_words reasons.Return = codes "the byte 0D stands at its end: lines end with a newline alone"
