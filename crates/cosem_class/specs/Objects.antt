-- Objects of interface classes: cells beside a fixed part, and the laws of a class.
use Rattle.std.proofs.Common.{ap}
use Rattle.std.specs.Prelude.{◌≡◌, ℕ, List, [], Option, Result, Ok, Err, Some, None, Bool, true, false, ◌==◌, ◌&&◌, if◌then◌else◌, IsOk}
use Rattle.cosem_data.specs.Tree.{Tree, null_data}
use Rattle.cosem_data.specs.View.{tree}
use Rattle.cosem_data.specs.declared.data.Data.{Data}
use Rattle.cosem_class.specs.declared.class.Op.{Op}
use Rattle.cosem_class.specs.declared.class.Op.TheVariants.{Write}
use Rattle.cosem_class.specs.declared.class.ClassFault.{ClassFault}
use Rattle.cosem_class.specs.declared.class.ClassFault.TheVariants.{NoIndex, NotSettable, Kind, Rule, UnknownScript, Memory}

-- a value at each index that has a cell
abbrev pub Cells : Type 0
Cells = ℕ → Option Tree

-- A fault that isn't want of memory is the definition's; want of memory comes only where the definition has no fault.
abbrev pub FaultAs : ClassFault → Option ClassFault → Type 0
FaultAs Memory refusal = refusal ≡ None
FaultAs NoIndex refusal = refusal ≡ Some NoIndex
FaultAs NotSettable refusal = refusal ≡ Some NotSettable
FaultAs Kind refusal = refusal ≡ Some Kind
FaultAs Rule refusal = refusal ≡ Some Rule
FaultAs UnknownScript refusal = refusal ≡ Some UnknownScript

-- A call is refused as the definition says, want of memory aside.
abbrev pub RefusedAs : {X : Type 0} → Result X ClassFault → Option ClassFault → Type 0
RefusedAs (Ok x) refusal = refusal ≡ None
RefusedAs (Err fault) refusal = FaultAs fault refusal

-- A reading answers as the definition says, want of memory aside.
abbrev pub AnswersAs : Result Data ClassFault → Result Tree ClassFault → Type 0
AnswersAs (Ok value) reading = reading ≡ Ok (tree value)
AnswersAs (Err Memory) reading = IsOk reading
AnswersAs (Err fault) reading = reading ≡ Err fault

-- the new value of each touched cell, over the fixed part, the operation, its argument and its row
abbrev pub NewValue : Type 0 → Type 0
NewValue Fixed = Fixed → Op → Tree → List Tree → Cells → ℕ → Option Tree

-- the touched cells have their new values, and each other cell stays
abbrev pub cells_after : (ℕ → Bool) → (Cells → ℕ → Option Tree) → Cells → Cells
cells_after touched new_value cells index = if touched index then new_value cells index else cells index

-- the cells with this value at an index
abbrev pub put_at : ℕ → Tree → Cells → Cells
put_at index value cells i = if i == index then Some value else cells i

-- no cell at any index
abbrev pub no_cells : Cells
no_cells i = None

-- two maps of cells have the same values at the members of a set
abbrev pub AgreeOn : (ℕ → Bool) → Cells → Cells → Type 0
AgreeOn set cells others = (index : ℕ) → set index ≡ true → cells index ≡ others index

-- The laws

-- A touched cell has one new value over cells that agree on its sources and, where it may depend on the row, over equal
-- rows.
abbrev pub DependsOnlyOnSources : {Fixed : Type 0} → (Op → ℕ → Bool) → (Op → ℕ → ℕ → Bool) → (Op → ℕ → Bool) → NewValue Fixed → Type 0
DependsOnlyOnSources {Fixed} touched own_sources row_cells new_value =
    (fixed : Fixed) (op : Op) (argument : Tree) (row other_row : List Tree) (cells others : Cells) (index : ℕ) →
    touched op index ≡ true → AgreeOn (own_sources op index) cells others →
    (row_cells op index ≡ true → row ≡ other_row) →
    new_value fixed op argument row cells index ≡ new_value fixed op argument other_row others index

-- A write that is not refused puts at its index what the class keeps of its value.
abbrev pub WritesWhatIsKept : {Fixed : Type 0} → (Fixed → Op → Tree → Option ClassFault) → (Op → ℕ → Bool) → NewValue Fixed → (Tree → Tree) → Type 0
WritesWhatIsKept {Fixed} refusal touched new_value kept =
    (fixed : Fixed) (index : ℕ) (value : Tree) (cells : Cells) → refusal fixed (Write index) value ≡ None →
    cells_after (touched (Write index)) (new_value fixed (Write index) value []) cells index ≡ Some (kept value)

-- A write that is not refused puts its value at its index.
abbrev pub WritesItsValue : {Fixed : Type 0} → (Fixed → Op → Tree → Option ClassFault) → (Op → ℕ → Bool) → NewValue Fixed → Type 0
WritesItsValue {Fixed} refusal touched new_value = WritesWhatIsKept refusal touched new_value (λ value. value)

-- Cells that meet their rules meet them after an operation that is not refused.
abbrev pub KeepsRules : {Fixed : Type 0} → (Fixed → Op → Tree → Option ClassFault) → (Fixed → Op → List Tree → Type 0) → (Fixed → ℕ → Option Tree → Type 0) → (Op → ℕ → Bool) → NewValue Fixed → Type 0
KeepsRules {Fixed} refusal IsRow MeetsRule touched new_value =
    (fixed : Fixed) (op : Op) (argument : Tree) (row : List Tree) (cells : Cells) (index : ℕ) →
    refusal fixed op argument ≡ None → IsRow fixed op row → ((i : ℕ) → MeetsRule fixed i (cells i)) →
    touched op index ≡ true → MeetsRule fixed index (new_value fixed op argument row cells index)

-- What follows for every class

-- A cell that an operation does not touch stays.
abbrev pub ChangesOnlyTouched : {Fixed : Type 0} → (Op → ℕ → Bool) → NewValue Fixed → Type 0
ChangesOnlyTouched {Fixed} touched new_value =
    (fixed : Fixed) (op : Op) (argument : Tree) (row : List Tree) (cells : Cells) (index : ℕ) →
    touched op index ≡ false → cells_after (touched op) (new_value fixed op argument row) cells index ≡ cells index

-- a set that has, with a touched cell, that cell's sources
abbrev pub HasSources : (ℕ → Bool) → (ℕ → ℕ → Bool) → (ℕ → Bool) → Type 0
HasSources touched own_sources set = (index source : ℕ) → touched index ≡ true → set index ≡ true → own_sources index source ≡ true → set source ≡ true

-- one row wherever a touched cell of the set may depend on it
abbrev pub AgreeOnRow : (ℕ → Bool) → (ℕ → Bool) → (ℕ → Bool) → List Tree → List Tree → Type 0
AgreeOnRow touched row_cells set row other_row = (index : ℕ) → touched index ≡ true → set index ≡ true → row_cells index ≡ true → row ≡ other_row

-- Over cells that agree on a set with its sources, an operation leaves cells that agree on it.
abbrev pub KeepsAgreement : {Fixed : Type 0} → (Op → ℕ → Bool) → (Op → ℕ → ℕ → Bool) → (Op → ℕ → Bool) → NewValue Fixed → Type 0
KeepsAgreement {Fixed} touched own_sources row_cells new_value =
    (fixed : Fixed) (op : Op) (argument : Tree) (row other_row : List Tree) (cells others : Cells) (set : ℕ → Bool) →
    HasSources (touched op) (own_sources op) set → AgreeOnRow (touched op) (row_cells op) set row other_row →
    AgreeOn set cells others →
    AgreeOn set (cells_after (touched op) (new_value fixed op argument row) cells) (cells_after (touched op) (new_value fixed op argument other_row) others)

-- the value in a cell that an object may lack, as an attribute that a plan may fix; null-data where it lacks it
abbrev pub tree_or_null : Option Data → Tree
tree_or_null (Some value) = tree value
tree_or_null None = null_data

-- Words for classes with one cell

-- a cell's value, where there is the cell
abbrev pub value_or_no_index : Option Tree → Result Tree ClassFault
value_or_no_index (Some value) = Ok value
value_or_no_index None = Err NoIndex

-- a cell is there where `there` says so, and its value passes the test
abbrev pub IsCellWhere : Bool → (Tree → Bool) → Option Tree → Type 0
IsCellWhere true test (Some value) = test value ≡ true
IsCellWhere true test None = ⊥
IsCellWhere false test (Some value) = ⊥
IsCellWhere false test None = Unit {0}

-- a write whose index is the one settable cell
pub writes_one : (index settable : ℕ) (value : Tree) (cells : Cells) → (index == settable) ≡ true →
    (if (index == settable) && (index == settable) then Some value else cells index) ≡ Some value
writes_one index settable value cells is = ap (λ b. if b && b then Some value else cells index) is
