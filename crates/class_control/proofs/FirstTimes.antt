-- The times of the elements of an execution_time.
use Rattle.std.proofs.Common.{◌≡◌, ◌≤◌, ◌-◌, ℕ, List, [], ◌∷◌, map, length, take, drop, get_or, ap, ◌∙◌, arith}
use Rattle.std.proofs.lemmas.List.{take_all}
use Rattle.std.specs.List.{list_all}
use Rattle.std.specs.Str.{bytes_eq}
use Rattle.cosem_data.specs.View.{tree}
use Rattle.cosem_data.specs.declared.data.Data.{Data}
use Rattle.meter_theory.specs.Times.{time_bytes, are_equal_times}

-- all times are the first where the others are
pub equal_times : (values : List Data) (first : Data) (time : List ℕ) → 1 ≤ length values → first ≡ get_or values 0 first →
    time ≡ time_bytes (tree first) →
    list_all (λ v. bytes_eq time (time_bytes v)) (map tree (take (length values - 1) (drop 1 values))) ≡ are_equal_times (map tree values)
equal_times [] first time some at same = absurd (omega arith)
equal_times (value ∷ values) first time some at same =
    ap (λ t. list_all (λ v. bytes_eq t (time_bytes v)) (map tree (take (length (value ∷ values) - 1) values))) (same ∙ ap (λ d. time_bytes (tree d)) at)
    ∙ ap (λ (vs : List Data). list_all (λ v. bytes_eq (time_bytes (tree value)) (time_bytes v)) (map tree vs)) (take_all (length (value ∷ values) - 1) values (omega arith))
