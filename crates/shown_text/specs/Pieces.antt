-- What the pieces of a page are printed as, and what they say.
use Rattle.std.specs.Prelude.{ℕ, List, [], ◌∷◌, flat_map}
use Rattle.std.specs.Fmt.{decimal}
use Rattle.cosem_data.specs.Names.{name_text}
use Rattle.cosem_data.specs.declared.cell.CellRef.{CellRef}
use Rattle.cosem_data.specs.declared.name.LogicalName.{LogicalName}
use Rattle.value_text.specs.Texts.{cell_text}
use Rattle.shown_text.specs.Html.{html_text}
use Rattle.shown_text.specs.declared.pieces.Piece.{Piece}
use Rattle.shown_text.specs.declared.pieces.Piece.TheVariants.{Constant, Mark, Hole, Number, Place, Name, Cell}

-- constants and marks as they are, texts from outside escaped, numbers in decimals, names and cells as they are printed everywhere
abbrev pub piece_text : Piece → List ℕ
piece_text (Constant text) = text.now
piece_text (Mark text) = text.now
piece_text (Hole text) = html_text text.now
piece_text (Number n) = decimal n
piece_text (Place n) = decimal n
piece_text (Name name) = name_text name.0
piece_text (Cell x) = cell_text x

-- one after the other
abbrev pub rendered : List Piece → List ℕ
rendered pieces = flat_map piece_text pieces

-- what a page says: a mark of the program, a text from outside, a number, a name, a cell
pub data Fact : Type 0 where
  mark : List ℕ → Fact
  text : List ℕ → Fact
  number : ℕ → Fact
  name : LogicalName → Fact
  cell : CellRef → Fact

abbrev pub told : Piece → List Fact
told (Constant markup) = []
told (Mark markup) = mark markup.now ∷ []
told (Hole t) = text t.now ∷ []
told (Number n) = number n ∷ []
told (Place n) = []
told (Name n) = name n ∷ []
told (Cell x) = cell x ∷ []

-- what pieces say, in their order
abbrev pub facts : List Piece → List Fact
facts pieces = flat_map told pieces
