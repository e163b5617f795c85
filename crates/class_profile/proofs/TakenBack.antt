-- A capture that is taken back with the row that it dropped leaves the rows as they were.
use Rattle.std.proofs.Common.{◌≡◌, ℕ, ◌+◌, ◌-◌, ◌<◌, ◌≤◌, ◌==◌, Bool, true, false, List, [], ◌∷◌, ◌++◌, length, take, Some, None, if◌then◌else◌, Option, slice_get, sym, ap, ◌∙◌, refl, arith, length-append}
use Rattle.std.proofs.lemmas.Bool.{eqb-true, eqb-false, leb-true, and_parts}
use Rattle.std.proofs.Math.Seq.{take-append_seam}
use Rattle.cosem_data.specs.Tree.{Tree, array, parts}
use Rattle.cosem_data.specs.TreeCode.{parts-trees, trees-parts}
use Rattle.cosem_data.specs.declared.cell.CellRef.{CellRef}
use Rattle.meter_theory.specs.Menus.{Choice}
use Rattle.meter_theory.specs.Lists.{keep_last}
use Rattle.meter_theory.specs.Value.{elements, array_of}
use Rattle.meter_theory.specs.Steps.{buffer_after}
use Rattle.class_profile.specs.Fifo.{keep_last_few, keep_last_full}
use Rattle.class_profile.specs.ProfileClass.{is_buffer}
use Rattle.class_profile.specs.Reversal.{dropped, rows_before, buffer_before}

-- where there is a newest row, the dropped one stands in front of the others
pub rows_before-some : (row : Tree) (rows : List Tree) → 0 < length rows → rows_before (Some row) rows ≡ row ∷ take (length rows - 1) rows
rows_before-some row [] some = absurd (omega arith)
rows_before-some row (r ∷ rs) some = let e : length rs ≡ length (r ∷ rs) - 1 = omega arith in ap (λ n. row ∷ take n (r ∷ rs)) e

-- and if none was dropped, the others stay
pub rows_before-none : (rows : List Tree) → rows_before None rows ≡ take (length rows - 1) rows
rows_before-none [] = refl
rows_before-none (r ∷ rs) = let e : length rs ≡ length (r ∷ rs) - 1 = omega arith in ap (λ n. take n (r ∷ rs)) e

-- the rows without the last of them, which was put there
rows_before-pushed : (rows : List Tree) (row : Tree) → take (length (rows ++ row ∷ []) - 1) (rows ++ row ∷ []) ≡ rows
rows_before-pushed rows row =
    let l = length-append rows (row ∷ []) in
    let e : length (rows ++ row ∷ []) - 1 ≡ length rows = omega arith in
    ap (λ n. take n (rows ++ row ∷ [])) e ∙ take-append_seam rows (row ∷ [])

-- a capture into a buffer with room, and one into a full one
back_of_few : (entries : ℕ) (rows : List Tree) (row : Tree) → length rows < entries → rows_before None (keep_last entries (rows ++ row ∷ [])) ≡ rows
back_of_few entries rows row few =
    let l = length-append rows (row ∷ []) in
    let room : length (rows ++ row ∷ []) ≤ entries = omega arith in
    ap (rows_before None) (keep_last_few entries (rows ++ row ∷ []) room) ∙ rows_before-none (rows ++ row ∷ []) ∙ rows_before-pushed rows row

back_of_full : (entries : ℕ) (rows : List Tree) (row : Tree) → 1 ≤ entries → length rows ≡ entries → rows_before (slice_get rows 0) (keep_last entries (rows ++ row ∷ [])) ≡ rows
back_of_full entries [] row one full = absurd (omega arith)
back_of_full entries (r ∷ rs) row one full =
    let l = length-append (r ∷ rs) (row ∷ []) in
    let k = length-append rs (row ∷ []) in
    let more : length (r ∷ rs ++ row ∷ []) ≡ entries + 1 = omega arith in
    let some : 0 < length (rs ++ row ∷ []) = omega arith in
    ap (rows_before (Some r)) (keep_last_full entries (r ∷ rs ++ row ∷ []) more)
    ∙ rows_before-some r (rs ++ row ∷ []) some
    ∙ ap (λ xs. r ∷ xs) (rows_before-pushed rs row)

back_of_rows : (full : Bool) (entries : ℕ) (rows : List Tree) (row : Tree) → (length rows == entries) ≡ full → 1 ≤ entries → length rows ≤ entries →
    rows_before (if full then slice_get rows 0 else None) (keep_last entries (rows ++ row ∷ [])) ≡ rows
back_of_rows true entries rows row is one fits = back_of_full entries rows row one (eqb-true (length rows) entries is)
back_of_rows false entries rows row is one fits =
    let not = eqb-false (length rows) entries is in
    back_of_few entries rows row (omega arith)

-- rows after a capture, and the row that had to go, give the rows before it
pub rows_taken_back : (entries : ℕ) (rows new : List Tree) (row : Tree) (gone : Option Tree) → 1 ≤ entries → length rows ≤ entries →
    array_of new ≡ buffer_after entries (array_of rows) row → gone ≡ dropped entries (array_of rows) → rows_before gone new ≡ rows
rows_taken_back entries rows new row gone one fits after is =
    let kept : new ≡ keep_last entries (rows ++ row ∷ []) =
    sym (parts-trees new) ∙ ap elements after ∙ parts-trees _ ∙ ap (λ ts. keep_last entries (ts ++ row ∷ [])) (parts-trees rows) in
    let oldest : gone ≡ (if length rows == entries then slice_get rows 0 else None) =
    is ∙ ap (λ ts. if length ts == entries then slice_get ts 0 else None) (parts-trees rows) in
    ap (λ d. rows_before d new) oldest
    ∙ ap (rows_before (if length rows == entries then slice_get rows 0 else None)) kept
    ∙ back_of_rows (length rows == entries) entries rows row refl one fits

pub taken_back : (columns : Choice (List CellRef)) (entries : ℕ) (buffer row : Tree) → 1 ≤ entries → is_buffer columns entries buffer ≡ true → buffer_before (dropped entries buffer) (buffer_after entries buffer row) ≡ buffer
taken_back columns entries (array rows) row one is =
    let fits = leb-true (length (parts rows)) entries (and_parts _ _ is).0 in
    ap (λ kept. array_of (rows_before (dropped entries (array rows)) kept)) (parts-trees (keep_last entries (parts rows ++ row ∷ [])))
    ∙ ap array_of (back_of_rows (length (parts rows) == entries) entries (parts rows) row refl one fits)
    ∙ ap array (trees-parts rows)
taken_back columns entries _ row one is = cc
