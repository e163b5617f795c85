-- What is told of a fault (own profile).
use Rattle.std.specs.Prelude.{ℕ, List, ◌++◌, codes}
use Rattle.std.specs.Fmt.{decimal}
use Rattle.value_words.specs.declared.fault.Asked.{Asked as ValueAsked}
use Rattle.value_words.specs.declared.fault.Asked.TheVariants as parts
use Rattle.step_words.specs.declared.fault.Asked.{Asked}
use Rattle.step_words.specs.declared.fault.Asked.TheVariants as asked
use Rattle.step_words.specs.declared.fault.TextFault.{TextFault}
use Rattle.step_words.specs.declared.fault.TextFault.TheVariants as faults

-- what was asked in a value (own profile)
abbrev pub value_asked_words : ValueAsked → List ℕ
value_asked_words parts.Kind = codes "a kind of value"
value_asked_words parts.Depth = codes "a value nested at most 16 deep"
value_asked_words parts.OpenBrace = codes "{ and a space"
value_asked_words parts.CommaOrBrace = codes "a comma and a space, or a space and }"
value_asked_words parts.Truth = codes "true or false"
value_asked_words parts.Number = codes "a number of this kind, without leading zeros"
value_asked_words parts.HexDigits = codes "upper-case hex digits, two a byte, or - for no bytes"
value_asked_words parts.Quote = codes "a double quote"
value_asked_words parts.Letter = codes "a printable letter, \\xHH for another byte, or a double quote"

-- what was asked (own profile)
abbrev pub asked_words : Asked → List ℕ
asked_words asked.FirstWord = codes "in, eval, at, tick, or a client's name of 1 to 16 characters of a to z, 0 to 9 and _"
asked_words asked.Space = codes "a space and what follows it"
asked_words asked.Name = codes "a logical name of six numbers, as 1.0.1.8.0.255"
asked_words asked.Moment = codes "a moment that the calendar has, as 2024-02-29T12:00:00, and the end of the line"
asked_words asked.Service = codes "get, set, act or apdu, and a space"
asked_words asked.SecondsOrService = codes "a number of seconds from 1 to 3600, without leading zeros, or get, set, act or apdu, and a space"
asked_words asked.Class = codes "a class from 0 to 65535, without leading zeros"
asked_words asked.Slash = codes "a slash"
asked_words asked.Index = codes "an index from -128 to 127, without leading zeros"
asked_words asked.Entry = codes "an entry from 0 to 4294967295, without leading zeros"
asked_words asked.Column = codes "a column from 0 to 65535, without leading zeros"
asked_words asked.Dots = codes "two dots"
asked_words asked.Columns = codes "the word columns between two spaces"
asked_words asked.Invoke = codes "a number from 0 to 255 other than 193, without leading zeros"
asked_words asked.InvokeOrEnd = codes "the end of the line, or the word invoke between two spaces"
asked_words asked.End = codes "the end of the line"
asked_words asked.Bytes = codes "upper-case hex digits, two a byte, to the end of the line"
asked_words asked.Request = codes "the words get, set or act, since the bytes are such a request"
asked_words asked.NoSeconds = codes "hex digits that are no number from 1 to 3600, since tick and such a number lets seconds pass"
asked_words asked.ShortValue = codes "a value whose encoding has less than 4294967296 bytes"
asked_words asked.HexDigits = codes "hex digits, two a byte, to the end of the line"
asked_words asked.Encoding = codes "the hex digits of one value, to the end of the line"
asked_words asked.Newline = codes "a newline alone"
asked_words (asked.Value part) = value_asked_words part

-- the place of a fault and what was asked there (own profile)
abbrev pub fault_words : TextFault → List ℕ
fault_words faults.Memory = codes "out of memory"
fault_words (faults.At line column what) = codes "line " ++ (decimal line ++ (codes ", column " ++ (decimal column ++ (codes ": asked is " ++ asked_words what))))
