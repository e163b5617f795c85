-- Rows of numbers.
use Rattle.std.proofs.Common.{◌≡◌, ◌<◌, ◌≤◌, arith, [], ℕ, Bool, true, false, nat_le, List, get_or, length, map, sym, ap, subst, ◌∙◌, Vec, Global}
use Rattle.std.specs.Bool.{MatchBool}
use Rattle.std.specs.List.{range_with_len}
use Rattle.std.proofs.lemmas.List.{get_or-map, length-map}
use Rattle.std.proofs.lemmas.List.FromFn.{length-range_with_len}
use Rattle.meter_theory.specs.Plan.{Plan, cells}
use Rattle.meter_theory.specs.Sound.{IsSound}
use Rattle.flow_map.specs.Grouping.{AreGrouped}
use Rattle.flow_page.specs.Rows.{AreAlike, AreRowsOf, IsRow, singles}
use Rattle.flow_page.specs.declared.view.limits.TheConstants.{ROWS}
use Rattle.flow_map.proofs.Places.{cells-few}
use Rattle.flow_page.specs.WayTables.{row_at}
use Rattle.flow_page.proofs.GroupRows.{grouped-rows, single-rows}

-- a row of the code is one
pub row-there : (count : ℕ) (rows : List (Vec ℕ Global)) (k : ℕ) (row : Vec ℕ Global) → AreRowsOf count (map (λ v. v.items) rows) → k < length rows → row ≡ get_or rows k row →
    IsRow count row.items
row-there count rows k row are less is =
    let f = λ (v : Vec ℕ Global). v.items in
    subst (IsRow count) (get_or-map f rows k row row.items less ∙ sym (ap f is)) (are k row.items (subst (λ n. k < n) (sym (length-map rows f)) less))

pub alike-rows : {A : Type 0} (key : ℕ → A) (count : ℕ) (rows : List (List ℕ)) → AreAlike key count rows → AreRowsOf count rows
alike-rows key count rows are = at (nat_le count ROWS) are
  where
    at : (b : Bool) → MatchBool b (rows ≡ singles count) (AreGrouped (map key (range_with_len 0 count)) rows) → AreRowsOf count rows
    at true is = subst (AreRowsOf count) (sym is) (single-rows count)
    at false grouped =
        subst (λ n. AreRowsOf n rows) (length-map (range_with_len 0 count) key ∙ length-range_with_len 0 count)
        (grouped-rows (map key (range_with_len 0 count)) rows grouped)

-- a row has no more cells than a plan can have
pub few-cells : (P : Plan) → IsSound P → (rows : List (Vec ℕ Global)) (r size : ℕ) → AreRowsOf (length (cells P)) (map (λ v. v.items) rows) → r < length rows →
    size ≡ length (row_at (map (λ v. v.items) rows) r) → size ≤ 2048
few-cells P sound rows r size are less is =
    let f = λ (v : Vec ℕ Global). v.items in
    let row = are r [] (subst (λ n. r < n) (sym (length-map rows f)) less) in
    omega (arith, is, row.few, cells-few P sound)
