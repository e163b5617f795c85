use Rattle.std.proofs.Common.{◌≡◌, ◌∷◌, take, string_bytes}
use Rattle.std.specs.List.{flat_map}
use Rattle.shown_text.specs.Printable.{quoted_byte}
use Rattle.shown_text.proofs.printable.quoted_text.Given as goal

-- the bytes before are shown behind a quotation mark
abbrev pub invariant-loop-byte : goal.invariant-loop-byte
invariant-loop-byte l = string_bytes l.text ≡ 34 ∷ flat_map quoted_byte (take l.byte-index l.byte-items)
