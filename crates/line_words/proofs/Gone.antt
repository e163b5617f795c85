-- Rows that begin with others.
use Rattle.std.proofs.Common.{◌≡◌, ◌<◌, ◌≤◌, ◌+◌, ℕ, zero, suc, subst, ◌∙◌, sym, get_or, ◌++◌, Bool, true, false, ◌&&◌, List, [], ◌∷◌, map, length, drop, ◌-◌, take, refl, ap, arith}
use Rattle.std.proofs.lemmas.List.{drop-map, length-map}
use Rattle.std.specs.Prelude.{codes, if◌then◌else◌}
use Rattle.value_words.specs.Words.{value_words}
use Rattle.cosem_data.specs.declared.cell.CellRef.{CellRef}
use Rattle.std.specs.Cmp.Lexicographic.{pointwise}
use Rattle.cosem_data.specs.Equal.{same_data, same_tree}
use Rattle.cosem_data.specs.Tree.{Tree}
use Rattle.cosem_data.specs.View.{tree}
use Rattle.cosem_data.specs.declared.data.Data.{Data}
use Rattle.line_words.specs.Changes.{begins, came_line, change_line, gone_line, lost, row_lines}

-- value by value
pub begins_by : (older newer : List Data) → length older ≤ length newer → pointwise same_data (take (length older) newer) older ≡ begins (map tree older) (map tree newer)
begins_by [] newer long = refl
begins_by (row ∷ older) [] long = absurd (omega arith)
begins_by (row ∷ older) (other ∷ newer) long = ap (λ (b : Bool). same_tree (tree other) (tree row) && b) (begins_by older newer (omega (arith, long)))

-- there are fewer
pub begins_not : (older newer : List Data) → length newer < length older → begins (map tree older) (map tree newer) ≡ false
begins_not [] newer short = absurd (omega arith)
begins_not (row ∷ older) [] short = refl
begins_not (row ∷ older) (other ∷ newer) short = elim (same_tree (tree other) (tree row)) as (λ t. t && begins (map tree older) (map tree newer) ≡ false) [ true ↦ begins_not older newer (omega (arith, short)) | false ↦ refl ]

-- none went where the others begin with them
pub lost_here : (older : List Tree) (newer : List Tree) → begins older newer ≡ true → lost older newer ≡ 0
lost_here [] newer all = refl
lost_here (row ∷ older) newer all = ap (λ (t : Bool). if t then 0 else lost older newer + 1) all

-- one more went where they don't
pub lost_more : (older : List Data) (newer : List Tree) (i : ℕ) → i < length older → begins (map tree (drop i older)) newer ≡ false → lost (map tree (drop i older)) newer ≡ lost (map tree (drop (i + 1) older)) newer + 1
lost_more older newer i low other =
    let next : suc i ≡ i + 1 = omega arith in
    subst (λ (k : ℕ). lost (map tree (drop i older)) newer ≡ lost (map tree (drop k older)) newer + 1) next (at older i low other)
  where
    at : (older : List Data) (i : ℕ) → i < length older → begins (map tree (drop i older)) newer ≡ false → lost (map tree (drop i older)) newer ≡ lost (map tree (drop (suc i) older)) newer + 1
    at [] i low other = absurd (omega arith)
    at (row ∷ older) zero low other = ap (λ (t : Bool). if t then 0 else lost (map tree older) newer + 1) other
    at (row ∷ older) (suc i) low other = at older i (omega arith) other

-- the line of one row that went
pub one_gone : (x : CellRef) (count : ℕ) (rows : List Data) (row : Data) → count ≡ 1 → 1 ≤ length rows → row ≡ get_or rows 0 row → gone_line x count (map tree rows) ≡ change_line x (codes " lost the row " ++ value_words (tree row))
one_gone x count [] row is some first = absurd (omega (arith, some))
one_gone x count (r ∷ rows) row is some first =
    ap (λ (n : ℕ). gone_line x n (tree r ∷ map tree rows)) is ∙ ap (λ (d : Data). change_line x (codes " lost the row " ++ value_words (tree d))) (sym first)

-- the lines of what came and of what went are those of the rows
pub rows_are : (x : CellRef) (older newer came : List Data) (gone : ℕ) → gone ≡ lost (map tree older) (map tree newer) → came ≡ drop (length older - gone) newer
    → came_line x (map tree came) ++ gone_line x gone (map tree older) ≡ row_lines x (map tree older) (map tree newer)
unfolding row_lines
rows_are x older newer came gone went behind =
    let rows = map tree newer in
    let size : length older ≡ length (map tree older) = sym (length-map older tree) in
    let came_is : map tree came ≡ drop (length (map tree older) - gone) rows =
    ap (map tree) behind ∙ sym (drop-map tree (length older - gone) newer) ∙ ap (λ (n : ℕ). drop (n - gone) rows) size in
    ap (λ (r : List Tree). came_line x r ++ gone_line x gone (map tree older)) came_is
    ∙ ap (λ (n : ℕ). came_line x (drop (length (map tree older) - n) rows) ++ gone_line x n (map tree older)) went
