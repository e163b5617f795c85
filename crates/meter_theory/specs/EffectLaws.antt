-- The laws of a plan's effects on which influence and secrecy rest. They follow from the laws of the interface classes.
use Rattle.std.specs.Prelude.{◌≡◌, Bool}
use Rattle.cosem_data.specs.declared.cell.CellRef.{CellRef}
use Rattle.meter_theory.specs.Lists.{IsIn}
use Rattle.meter_theory.specs.State.{State, keys, value}
use Rattle.meter_theory.specs.Plan.{Plan}
use Rattle.meter_theory.specs.Steps.{Effect, effect, changed_by}
use Rattle.meter_theory.specs.Edges.{IsClosed, Agree}

-- States with the same cells that agree on the set agree on it after the change.
abbrev pub KeepsAgreementOn : (CellRef → Bool) → (State → State) → Type 0
KeepsAgreementOn set change = (s t : State) → keys s ≡ keys t → Agree set s t → Agree set (change s) (change t)

-- An effect changes only the cells that it says, and over a closed set of cells it keeps agreement.
pub record EffectLaws (P : Plan) : Type 0 where
  pub kept : (e : Effect) (s : State) (x : CellRef) → (IsIn (changed_by e) x → ⊥) → value (effect P s e) x ≡ value s x
  pub agrees : (e : Effect) (S : CellRef → Bool) → IsClosed P S → KeepsAgreementOn S (λ s. effect P s e)
