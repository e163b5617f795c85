use Rattle.std.proofs.Common.{flat_map, take}
use Rattle.std.specs.Fmt.{HasWritten, IsPlainFormatter}
use Rattle.shown_text.specs.Html.{html_byte}
use Rattle.shown_text.proofs.html.EscapedDisplay.fmt.Given as goal

-- the bytes before are written
abbrev pub invariant-loop-byte : goal.invariant-loop-byte
invariant-loop-byte g l =
    IsPlainFormatter l.initial.f → HasWritten g.W.Write.write_str_gives l.initial.f (flat_map html_byte (take l.byte-index l.byte-items)) l.f
