-- Lines for a terminal, which then gets no control characters but ends of lines.
use Rattle.std.specs.Prelude.{◌≡◌, ℕ, ◌==◌, Bool, true, ◌||◌, List}
use Rattle.std.specs.List.{list_all}
use Rattle.shown_text.specs.Printable.{is_printable}

-- a printable character of ASCII, or an end of a line (own profile)
abbrev pub is_in_line : ℕ → Bool
is_in_line byte = is_printable byte || byte == 10

abbrev pub AreLines : List ℕ → Type 0
AreLines text = list_all is_in_line text ≡ true
