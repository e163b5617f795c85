use Rattle.std.proofs.Common.{◌≡◌, ◌++◌, take, string_bytes}
use Rattle.shown_text.specs.Printable.{printable}
use Rattle.shown_text.proofs.printable.push_printable.Given as goal

-- the bytes before are shown
abbrev pub invariant-loop-byte : goal.invariant-loop-byte
invariant-loop-byte l = string_bytes l.text ≡ string_bytes l.initial.text ++ printable (take l.byte-index l.shown)
