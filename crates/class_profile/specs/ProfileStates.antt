-- What a state of a plan holds of a profile may stand in an object of class 7.
use Rattle.std.specs.Prelude.{◌==◌, ◌≡◌, ℕ, true, List, [], ◌∷◌, length}
use Rattle.std.specs.List.{list_all}
use Rattle.std.proofs.Common.{refl, ap, ◌∙◌, arith}
use Rattle.std.proofs.lemmas.Bool.{and_from, le-leb, eq-eqb}
use Rattle.cosem_data.specs.Tree.{Tree}
use Rattle.cosem_data.specs.TreeCode.{parts-trees}
use Rattle.cosem_data.specs.declared.cell.CellRef.{CellRef}
use Rattle.meter_theory.specs.Lists.{IsIn}
use Rattle.meter_theory.specs.Menus.{Choice, alternatives}
use Rattle.meter_theory.proofs.Lists.{in_any}
use Rattle.meter_theory.specs.Plan.{Plan}
use Rattle.meter_theory.specs.States.{AreCaptured, AreRows, IsBuffer, IsCount}
use Rattle.class_profile.specs.ProfileClass.{is_row_length, is_entry, is_buffer, is_count}
use Rattle.class_profile.specs.ProfileLaws.{is_entry-structure}

-- captured values are as many as there are captured cells
captured_length : (P : Plan) (captured : List CellRef) (values : List Tree) → AreCaptured P captured values → length values ≡ length captured
captured_length P [] [] are = refl
captured_length P [] (v ∷ vs) are = absurd are
captured_length P (x ∷ xs) [] are = absurd are
captured_length P (x ∷ xs) (v ∷ vs) are = let rest = captured_length P xs vs are.1 in cc

-- an alternative has as many cells as a row may have values
pub row_length-of_one : (captured : Choice (List CellRef)) (cells : List CellRef) (number : ℕ) → IsIn (alternatives captured) cells → number ≡ length cells → is_row_length captured number ≡ true
row_length-of_one captured cells number one same = in_any (λ xs. number == length xs) (alternatives captured) cells one (eq-eqb number (length cells) same)

-- rows of the captured values of an alternative are entries
rows_are_entries : (P : Plan) (captured : Choice (List CellRef)) (cells : List CellRef) (rows : List Tree) → IsIn (alternatives captured) cells → AreRows P cells rows → list_all (is_entry captured) rows ≡ true
rows_are_entries P captured cells [] one are = refl
rows_are_entries P captured cells (row ∷ rows) one are =
    let first = are.0 in
    and_from _ _ (ap (is_entry captured) first.1 ∙ is_entry-structure captured first.0 (row_length-of_one captured cells (length first.0) one (captured_length P cells first.0 first.2)))
    (rows_are_entries P captured cells rows one are.1)

-- a buffer of a state is one of the class
pub is_buffer-of_state : (P : Plan) (captured : Choice (List CellRef)) (cells : List CellRef) (entries : ℕ) (buffer : Tree) →
    IsIn (alternatives captured) cells → IsBuffer P cells entries buffer → is_buffer captured entries buffer ≡ true
is_buffer-of_state P captured cells entries buffer one h =
    ap (is_buffer captured entries) h.1
    ∙ and_from _ _ (le-leb _ entries (let same = ap length (parts-trees h.0) in omega arith))
    (ap (list_all (is_entry captured)) (parts-trees h.0) ∙ rows_are_entries P captured cells h.0 one h.3)

-- and a number of entries in use one of the class
pub is_count-of_state : (entries : ℕ) (count : Tree) → IsCount entries count → is_count entries count ≡ true
is_count-of_state entries count h = ap (is_count entries) h.1 ∙ le-leb h.0 entries h.2
