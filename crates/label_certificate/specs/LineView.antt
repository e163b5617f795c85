-- What a line that was read stands for.
use Rattle.std.specs.Prelude.{ℕ, List, [], Option, Some, None}
use Rattle.std.specs.Borrow.{Bor}
use Rattle.label_certificate.specs.LabelLine.{LabelLine, names_of, parts}
use Rattle.label_certificate.specs.declared.line.Line.{Line}

-- the line with its names as lists (own profile)
abbrev pub line_of : Line → LabelLine
line_of l = record { class_id = l.class_id; name = l.name; attribute = l.attribute; influence = names_of l.influence.now; learn = names_of l.learn.now }

-- the parts of what is left of a text, none where nothing is (own profile)
abbrev pub parts_left : ℕ → Option (Bor (List ℕ)) → List (List ℕ)
parts_left separator None = []
parts_left separator (Some text) = parts separator text.now
