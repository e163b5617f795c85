-- Texts as they are shown in HTML, between tags and in attributes between quotation marks. Texts are lists of bytes.
use Rattle.std.specs.Prelude.{ℕ, ◌==◌, Bool, not, ◌&&◌, ◌||◌, List, codes, flat_map, if◌then◌else◌}
use Rattle.shown_text.specs.Printable.{is_printable, shown_byte}

-- a byte that begins or ends markup by the name of its character (HTML, named character references), any other as it is shown on a
-- terminal (own profile)
abbrev pub html_byte : ℕ → List ℕ
html_byte byte =
    if byte == 38 then codes "&amp;" else
    if byte == 60 then codes "&lt;" else
    if byte == 62 then codes "&gt;" else
    if byte == 34 then codes "&quot;" else
    if byte == 39 then codes "&#39;" else
    shown_byte byte

-- a text, byte by byte (own profile)
abbrev pub html_text : List ℕ → List ℕ
html_text text = flat_map html_byte text

-- a printable character that begins or ends no tag and no attribute between quotation marks (HTML, tags and attributes)
abbrev pub is_plain : ℕ → Bool
is_plain byte = is_printable byte && not (byte == 60 || byte == 62 || byte == 34 || byte == 39)
