-- The report as a page for a browser. All of it is own profile. It is a function of what a page shows of a plan (`IsPageOf`) and of the edges between
-- the rows of its matrix.
use Rattle.std.specs.Prelude.{ℕ, List, [], ◌∷◌, None, Option, Some, flat_map, map}
use Rattle.cosem_data.specs.declared.cell.CellRef.{CellRef}
use Rattle.label_certificate.specs.LabelText.{cell_place}
use Rattle.meter_theory.specs.Labels.{Policy}
use Rattle.meter_theory.specs.Plan.{Plan}
use Rattle.flow_changes.specs.declared.compare.Comparison.{Comparison}
use Rattle.flow_picture.specs.Picture.{IsPictureOf}
use Rattle.flow_page.specs.Page.{IsPageText}
use Rattle.flow_page.specs.declared.matrix.MatrixRow.{MatrixRow}
use Rattle.flow_page.specs.declared.page.Page.{Page}
use Rattle.flow_picture.specs.Svg.{IsPicture}
use Rattle.flow_picture.specs.declared.picture.Picture.{Picture}
use Rattle.flow_page.specs.Shown.{IsPageOf}
use Rattle.flow_page.specs.declared.page.Heading.{Heading}

-- what there is, as a list
abbrev pub listed : Option ℕ → List ℕ
listed None = []
listed (Some n) = n ∷ []

-- the numbers that cells have in a plan
abbrev pub numbers_in : Plan → List CellRef → List ℕ
numbers_in P xs = flat_map (λ x. listed (cell_place P x)) xs

-- those of the cells of each row
abbrev pub numbers_of : Plan → List MatrixRow → List (List ℕ)
numbers_of P rows = map (λ row. numbers_in P row.cells.items) rows

-- the text of the page of a plan and a policy, with what has changed where that is known, and with the picture of the edges between its rows
pub record IsHtml (P : Plan) (Q : Policy) (changes : Option Comparison) (heading : Heading) (text : List ℕ) : Type 0 where
  pub page : Page
  pub page_is : IsPageOf P Q changes heading page
  pub picture : Picture
  pub picture_is : IsPictureOf P (numbers_of P page.rows.items) picture
  pub drawn : List ℕ
  pub drawn_is : IsPicture picture drawn
  pub text_is : IsPageText page drawn text
