-- An operation over states that agree.
use Rattle.std.proofs.Common.{◌≡◌, ◌⊎◌, ℕ, Bool, true, false, List, Option, Some, None, refl, sym, ap, ap₂, subst, ◌∙◌, inl, inr}
use Rattle.std.specs.Prelude.{if◌then◌else◌}
use Rattle.std.proofs.lemmas.Bool.{false≢true}
use Rattle.cosem_data.specs.Tree.{Tree}
use Rattle.cosem_data.specs.Cells.{cell, same_cell}
use Rattle.cosem_data.specs.declared.cell.CellRef.{CellRef}
use Rattle.cosem_data.specs.declared.name.LogicalName.{LogicalName}
use Rattle.cosem_data.proofs.Same.{same_cell-true, same_cell-refl}
use Rattle.meter_theory.specs.Lists.{IsIn}
use Rattle.meter_theory.specs.State.{State, keys, value}
use Rattle.meter_theory.specs.Edges.{Agree, among}
use Rattle.meter_theory.proofs.Lists.{in_any}
use Rattle.meter_theory.proofs.State.{value_missing, is_touched}
use Rattle.cosem_class.specs.Objects.{Cells, cells_after, HasSources, AgreeOn, AgreeOnRow}
use Rattle.meter_effects.specs.Operations.{cells_in, IsOperation, HasAllSources}

-- a cell that the state has
pub cells_in-there : (s : State) (class_id : ℕ) (name : LogicalName) (i : ℕ) → IsIn (keys s) (cell class_id name i) → cells_in s class_id name i ≡ Some (value s (cell class_id name i))
cells_in-there s class_id name i there =
    let x = cell class_id name i in
    ap (λ b. if b then Some (value s x) else None) (in_any (same_cell x) (keys s) x there (same_cell-refl x))

-- the cells of an object in states that agree
cells_in-agree : (s t : State) (class_id : ℕ) (name : LogicalName) (set : CellRef → Bool) → keys s ≡ keys t → Agree set s t →
    AgreeOn (λ i. set (cell class_id name i)) (cells_in s class_id name) (cells_in t class_id name)
cells_in-agree s t class_id name set same agree i inside =
    ap₂ (λ ks v. if among ks (cell class_id name i) then Some v else None) same (agree (cell class_id name i) inside)

-- a cell is one of the object, or isn't
pub is_own : (class_id : ℕ) (name : LogicalName) (x : CellRef) → (x ≡ cell class_id name x.index) ⊎ (x ≡ cell class_id name x.index → ⊥)
is_own class_id name x =
    elim (same_cell x (cell class_id name x.index)) as (λ b. same_cell x (cell class_id name x.index) ≡ b → (x ≡ cell class_id name x.index) ⊎ (x ≡ cell class_id name x.index → ⊥)) [
      | true ↦ λ is. inl (same_cell-true x _ is)
      | false ↦ λ is. inr (λ e. false≢true (sym is ∙ subst (λ z. same_cell x z ≡ true) e (same_cell-refl x)))
    ] refl

some_same : {a b : Tree} → Some a ≡ Some b → a ≡ b
some_same e = cc

-- An operation leaves what it does not touch.
pub operation-leaves : (class_id : ℕ) (name : LogicalName) (touched : ℕ → Bool) (new_value : List Tree → Cells → ℕ → Option Tree) (row : State → List Tree) (change : State → State) →
    IsOperation class_id name touched new_value row change → (s : State) (x : CellRef) → (x ≡ cell class_id name x.index → touched x.index ≡ false) → value (change s) x ≡ value s x
operation-leaves class_id name touched new_value row change is s x untouched =
    elim (is_own class_id name x) [
      | inl e ↦ subst (λ z. value (change s) z ≡ value s z) (sym e) (own_left (cell class_id name x.index) refl (untouched e))
      | inr other ↦ is.other_cells s x other
    ]
  where
    own_left : (y : CellRef) → y ≡ cell class_id name x.index → touched x.index ≡ false → value (change s) y ≡ value s y
    own_left y own none =
        elim (is_touched (keys s) y) [
          | inl key ↦ subst (λ z. value (change s) z ≡ value s z) (sym own) (held_left (subst (IsIn (keys s)) own key) none)
          | inr missing ↦ value_missing (change s) y (λ m. missing (subst (λ ks. IsIn ks y) (is.same_cells s) m)) ∙ sym (value_missing s y missing)
        ]
      where
        held_left : IsIn (keys s) (cell class_id name x.index) → touched x.index ≡ false → value (change s) (cell class_id name x.index) ≡ value s (cell class_id name x.index)
        held_left key none =
            some_same (sym (cells_in-there (change s) class_id name x.index (subst (λ ks. IsIn ks (cell class_id name x.index)) (sym (is.same_cells s)) key))
            ∙ (is.own_cells s x.index key
            ∙ (ap (λ b. if b then new_value (row s) (cells_in s class_id name) x.index else cells_in s class_id name x.index) none
            ∙ cells_in-there s class_id name x.index key)))

module _ (class_id : ℕ) (name : LogicalName) (touched : ℕ → Bool) (own_sources : ℕ → ℕ → Bool) (row_cells : ℕ → Bool) (new_value : List Tree → Cells → ℕ → Option Tree)
    (keeps : (taken other_row : List Tree) (cells others : Cells) (set : ℕ → Bool) → HasSources touched own_sources set → AgreeOnRow touched row_cells set taken other_row → AgreeOn set cells others →
    AgreeOn set (cells_after touched (new_value taken) cells) (cells_after touched (new_value other_row) others))
    (row : State → List Tree) (change : State → State) (set : CellRef → Bool)
    (is : IsOperation class_id name touched new_value row change) (has : HasAllSources class_id name touched own_sources row_cells row set)
    (s t : State) (same : keys s ≡ keys t) (agree : Agree set s t) where
  abbrev own : ℕ → CellRef
  own i = cell class_id name i

  -- one row, where a touched cell of the set takes it
  rows_agree : AgreeOnRow touched row_cells (λ i. set (own i)) (row s) (row t)
  rows_agree i there inside takes = has.one_row i there takes inside s t agree

  -- a cell of the object that the states have
  held_agrees : (i : ℕ) → IsIn (keys s) (own i) → set (own i) ≡ true → value (change s) (own i) ≡ value (change t) (own i)
  held_agrees i key inside =
      let key_t : IsIn (keys t) (own i) = subst (λ ks. IsIn ks (own i)) same key in
      let in_s : cells_in (change s) class_id name i ≡ Some (value (change s) (own i)) = cells_in-there (change s) class_id name i (subst (λ ks. IsIn ks (own i)) (sym (is.same_cells s)) key) in
      let in_t : cells_in (change t) class_id name i ≡ Some (value (change t) (own i)) = cells_in-there (change t) class_id name i (subst (λ ks. IsIn ks (own i)) (sym (is.same_cells t)) key_t) in
      let both = is.own_cells s i key
      ∙ (keeps (row s) (row t) (cells_in s class_id name) (cells_in t class_id name) (λ j. set (own j)) has.own rows_agree
      (cells_in-agree s t class_id name set same agree) i inside
      ∙ sym (is.own_cells t i key_t)) in
      some_same (sym in_s ∙ (both ∙ in_t))

  own_agrees : (i : ℕ) → set (own i) ≡ true → value (change s) (own i) ≡ value (change t) (own i)
  own_agrees i inside =
      elim (is_touched (keys s) (own i)) [
        | inl key ↦ held_agrees i key inside
        | inr none ↦
            value_missing (change s) (own i) (λ m. none (subst (λ ks. IsIn ks (own i)) (is.same_cells s) m))
            ∙ sym (value_missing (change t) (own i) (λ m. none (subst (λ ks. IsIn ks (own i)) (is.same_cells t ∙ sym same) m)))
      ]

  -- An operation over a set that has all sources.
  pub operation-agrees : Agree set (change s) (change t)
  operation-agrees x inside =
      elim (is_own class_id name x) [
        | inl e ↦ subst (λ z. value (change s) z ≡ value (change t) z) (sym e) (own_agrees x.index (subst (λ z. set z ≡ true) e inside))
        | inr other ↦ is.other_cells s x other ∙ (agree x inside ∙ sym (is.other_cells t x other))
      ]
