-- What a put leaves, in an object and in a state.
use Rattle.std.proofs.Common.{◌≡◌, ℕ, ◌<◌, ◌+◌, suc, cond, Bool, true, false, List, [], ◌∷◌, length, sym, subst, Some, arith}
use Rattle.std.specs.List.{position_from}
use Rattle.std.specs.Prelude.{◌&&◌}
use Rattle.std.proofs.lemmas.Bool.{and_parts}
use Rattle.cosem_data.specs.Tree.{Tree}
use Rattle.cosem_data.specs.declared.cell.CellRef.{CellRef}
use Rattle.meter_theory.specs.Lists.{IsIn}
use Rattle.meter_theory.specs.Value.{valid_tag, valid_content, is_within_limits}
use Rattle.meter_theory.specs.State.{State}
use Rattle.meter_theory.specs.Plan as theory
use Rattle.meter_theory.specs.Plan.{object_at, class_of, rule_in, rule_of, cells}
use Rattle.meter_theory.specs.Rights.{Given, has_valid_tag}
use Rattle.meter_theory.specs.States.{IsState, MayStand}
use Rattle.meter_theory.proofs.Rights.{ruled-cell}

-- a value that may stand in a cell is put into a cell of the state
pub put-is-there : (P : theory.Plan) (s : State) (x : CellRef) (v : Tree) → IsState P s → MayStand P x v → IsIn (cells P) x
put-is-there P s x v k may =
    (ruled-cell P x (Given v) (subst (λ r. has_valid_tag r (Given v) ≡ true) (sym may.1) (and_parts (valid_tag may.0 v) (is_within_limits v && valid_content may.0 v) may.2).0))

-- a place that is found lies in the list
pub position-within : {A : Type 0} (test : A → Bool) (i : ℕ) (xs : List A) (k : ℕ) → Some k ≡ position_from test i xs → k < i + length xs
position-within test i [] k e = cc
position-within test i (x ∷ xs) k e = at (test x) (λ h. position-within test (i + 1) xs k h) e
  where
    at : (b : Bool) → (Some k ≡ position_from test (i + 1) xs → k < i + 1 + length xs) → Some k ≡ cond b (Some i) (position_from test (i + 1) xs) → k < i + suc (length xs)
    at true rest h = let same : k ≡ i = cc in omega arith
    at false rest h = let less = rest h in omega arith
