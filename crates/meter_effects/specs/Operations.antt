-- Operations of objects, as their classes define them, as changes of the meter's state.
use Rattle.std.specs.Prelude.{◌≡◌, ℕ, Bool, true, List, [], Option, Some, None, if◌then◌else◌}
use Rattle.cosem_data.specs.Tree.{Tree}
use Rattle.cosem_data.specs.Cells.{cell}
use Rattle.cosem_data.specs.declared.cell.CellRef.{CellRef}
use Rattle.cosem_data.specs.declared.name.LogicalName.{LogicalName}
use Rattle.meter_theory.specs.Lists.{IsIn}
use Rattle.meter_theory.specs.State.{State, keys, value, put}
use Rattle.meter_theory.specs.Edges.{Agree, among}
use Rattle.meter_theory.specs.EffectLaws.{KeepsAgreementOn}
use Rattle.cosem_class.specs.declared.class.Op.{Op}
use Rattle.cosem_class.specs.declared.class.Op.TheVariants.{Write}
use Rattle.cosem_class.specs.declared.class.ClassFault.{ClassFault}
use Rattle.cosem_class.specs.Objects.{Cells, NewValue, cells_after, HasSources}

-- the cells of the object with this class and name in a state, by index
abbrev pub cells_in : State → (class_id : ℕ) → LogicalName → Cells
cells_in s class_id name index =
    if among (keys s) (cell class_id name index) then Some (value s (cell class_id name index)) else None

-- A change of the state is an operation of the object with this class and name: each cell of the object has afterwards what
-- its class says, over the row that is taken in that state, and the cells of other objects stay.
pub record IsOperation (class_id : ℕ) (name : LogicalName) (touched : ℕ → Bool) (new_value : List Tree → Cells → ℕ → Option Tree) (row : State → List Tree) (change : State → State) : Type 0 where
  pub same_cells : (s : State) → keys (change s) ≡ keys s
  pub own_cells : (s : State) (index : ℕ) → IsIn (keys s) (cell class_id name index) →
      cells_in (change s) class_id name index ≡ cells_after touched (new_value (row s)) (cells_in s class_id name) index
  pub other_cells : (s : State) (x : CellRef) → (x ≡ cell class_id name x.index → ⊥) → value (change s) x ≡ value s x

-- A set of cells has, with each touched cell of the object, the cells on which its new value may depend: its sources in the
-- object and, where it may depend on the row, what decides the row.
pub record HasAllSources (class_id : ℕ) (name : LogicalName) (touched : ℕ → Bool) (own_sources : ℕ → ℕ → Bool) (row_cells : ℕ → Bool) (row : State → List Tree) (set : CellRef → Bool) : Type 0 where
  pub own : HasSources touched own_sources (λ index. set (cell class_id name index))
  pub one_row : (index : ℕ) → touched index ≡ true → row_cells index ≡ true → set (cell class_id name index) ≡ true →
      (s t : State) → Agree set s t → row s ≡ row t

-- An operation of an object of the class keeps agreement on each set that has all sources.
abbrev pub OperationsKeepAgreement : {Fixed : Type 0} → (Op → ℕ → Bool) → (Op → ℕ → ℕ → Bool) → (Op → ℕ → Bool) → NewValue Fixed → Type 0
OperationsKeepAgreement {Fixed} touched own_sources row_cells new_value =
    (class_id : ℕ) (name : LogicalName) (fixed : Fixed) (op : Op) (argument : Tree) (row : State → List Tree) (change : State → State) (set : CellRef → Bool) →
    IsOperation class_id name (touched op) (new_value fixed op argument) row change →
    HasAllSources class_id name (touched op) (own_sources op) (row_cells op) row set → KeepsAgreementOn set change

-- To put what a class keeps of a value that it does not refuse into a cell of an object is its write, where the write touches
-- that cell alone.
abbrev pub PutsAreWrites : {Fixed : Type 0} → (Fixed → Op → Tree → Option ClassFault) → (Op → ℕ → Bool) → NewValue Fixed → (Tree → Tree) → Type 0
PutsAreWrites {Fixed} refusal touched new_value kept =
    (class_id : ℕ) (name : LogicalName) (fixed : Fixed) (index : ℕ) (v : Tree) → refusal fixed (Write index) v ≡ None →
    ((i : ℕ) → touched (Write index) i ≡ true → i ≡ index) →
    IsOperation class_id name (touched (Write index)) (new_value fixed (Write index) v) (λ s. []) (λ s. put s (cell class_id name index) (kept v))
