-- Puts, captures and clears as operations of one object.
use Rattle.std.proofs.Common.{◌≡◌, ◌==◌, ℕ, Bool, true, false, List, map, Option, Some, refl, sym, ap, subst, ◌∙◌, eqb-true, eq-eqb}
use Rattle.std.specs.Prelude.{◌&&◌, ◌||◌, if◌then◌else◌, option_map}
use Rattle.std.proofs.lemmas.Bool.{and_parts, false≢true, false_from_ne_true}
use Rattle.cosem_data.specs.Tree.{Tree, array, no_trees}
use Rattle.cosem_data.specs.Cells.{cell, same_cell}
use Rattle.cosem_data.specs.declared.cell.CellRef.{CellRef}
use Rattle.cosem_data.specs.declared.name.LogicalName.{LogicalName}
use Rattle.cosem_data.proofs.Same.{same_cell-true}
use Rattle.meter_theory.specs.Lists.{IsIn}
use Rattle.meter_theory.specs.State.{State, keys, value, put}
use Rattle.meter_theory.specs.Plan.{buffer, capture_objects, entries_in_use}
use Rattle.meter_theory.specs.Steps.{captured_in, capture, clear, write, buffer_after, in_use_after}
use Rattle.meter_theory.specs.Value.{counter, structure_of}
use Rattle.meter_theory.proofs.State.{keys-put, value-put_other, value-put_there}
use Rattle.cosem_class.specs.declared.class.Op.TheVariants.{Write, Invoke}
use Rattle.cosem_class.specs.Objects.{Cells, cells_after, put_at}
use Rattle.class_profile.specs.ProfileClass.{ProfileFixed, profile_touched, profile_new_value}
use Rattle.meter_effects.specs.Operations.{cells_in, IsOperation}
use Rattle.meter_effects.proofs.Agreement.{cells_in-there}

-- A put

module _ (class_id : ℕ) (name : LogicalName) (index : ℕ) (v : Tree) where
  -- what a put leaves in the object
  pub cells_in-put : (s : State) (i : ℕ) → IsIn (keys s) (cell class_id name i) →
      cells_in (put s (cell class_id name index) v) class_id name i ≡ put_at index v (cells_in s class_id name) i
  cells_in-put s i key =
      cells_in-there (put s (cell class_id name index) v) class_id name i (subst (λ ks. IsIn ks (cell class_id name i)) (sym (keys-put s (cell class_id name index) v)) key)
      ∙ at (i == index) refl
    where
      at : (b : Bool) → (i == index) ≡ b → Some (value (put s (cell class_id name index) v) (cell class_id name i)) ≡ (if b then Some v else cells_in s class_id name i)
      at true here = ap Some (subst (λ j. value (put s (cell class_id name j) v) (cell class_id name i) ≡ v) (eqb-true i index here) (value-put_there s (cell class_id name i) v key))
      at false elsewhere =
          ap Some (value-put_other s (cell class_id name index) (cell class_id name i) v
          (false_from_ne_true (same_cell (cell class_id name index) (cell class_id name i)) (λ same.
          let e : cell class_id name index ≡ cell class_id name i = same_cell-true _ _ same in
          false≢true (sym elsewhere ∙ eq-eqb i index (sym (ap (λ z. z.index) e))))))
          ∙ sym (cells_in-there s class_id name i key)

  -- and in other objects
  pub put-elsewhere : (s : State) (x : CellRef) → (x ≡ cell class_id name x.index → ⊥) → value (put s (cell class_id name index) v) x ≡ value s x
  put-elsewhere s x other =
      value-put_other s (cell class_id name index) x v
      (false_from_ne_true (same_cell (cell class_id name index) x) (λ same. other (subst (λ z. z ≡ cell class_id name z.index) (same_cell-true (cell class_id name index) x same) refl)))

  -- A put is an operation that leaves one value, whatever the row.
  pub put-is_operation : (touched : ℕ → Bool) (new_value : List Tree → Cells → ℕ → Option Tree) (row : State → List Tree) →
      ((s : State) (cells : Cells) (i : ℕ) → cells_after touched (new_value (row s)) cells i ≡ put_at index v cells i) →
      IsOperation class_id name touched new_value row (λ s. put s (cell class_id name index) v)
  put-is_operation touched new_value row leaves = record {
    same_cells = λ s. keys-put s (cell class_id name index) v;
    own_cells = λ s i key. cells_in-put s i key ∙ sym (leaves s (cells_in s class_id name) i);
    other_cells = put-elsewhere;
  }

-- a write that puts its value and touches no other cell
pub puts-alone : (touched : ℕ → Bool) (new_value : Cells → ℕ → Option Tree) (cells : Cells) (index : ℕ) (v : Tree) → ((i : ℕ) → touched i ≡ true → i ≡ index) →
    cells_after touched new_value cells index ≡ Some v → (i : ℕ) → cells_after touched new_value cells i ≡ put_at index v cells i
puts-alone touched new_value cells index v alone here i = at (i == index) refl (touched i) refl
  where
    at : (b : Bool) → (i == index) ≡ b → (t : Bool) → touched i ≡ t → cells_after touched new_value cells i ≡ (if b then Some v else cells i)
    at true e t is = ap (cells_after touched new_value cells) (eqb-true i index e) ∙ here
    at false e true is = absurd (false≢true (sym e ∙ eq-eqb i index (alone i is)))
    at false e false is = ap (λ t. if t then new_value cells i else cells i) is

-- a write that touches its one settable cell
pub one-touched : (index settable i : ℕ) → ((index == settable) && (i == settable)) ≡ true → i ≡ index
one-touched index settable i h =
    let both = and_parts (index == settable) (i == settable) h in
    eqb-true i settable both.1 ∙ sym (eqb-true index settable both.0)

-- The two cells of a profile that a capture and a clear change

-- the buffer and the entries in use, put one after the other
two_puts : (name : LogicalName) (rows in_use : Tree) (s : State) (i : ℕ) → IsIn (keys s) (cell 7 name i) →
    cells_in (put (put s (buffer name) rows) (entries_in_use name) in_use) 7 name i ≡ put_at 7 in_use (put_at 2 rows (cells_in s 7 name)) i
two_puts name rows in_use s i key =
    cells_in-put 7 name 7 in_use (put s (buffer name) rows) i (subst (λ ks. IsIn ks (cell 7 name i)) (sym (keys-put s (buffer name) rows)) key)
    ∙ ap (λ c. if i == 7 then Some in_use else c) (cells_in-put 7 name 2 rows s i key)

two_elsewhere : (name : LogicalName) (rows in_use : Tree) (s : State) (x : CellRef) → (x ≡ cell 7 name x.index → ⊥) → value (put (put s (buffer name) rows) (entries_in_use name) in_use) x ≡ value s x
two_elsewhere name rows in_use s x other =
    put-elsewhere 7 name 7 in_use (put s (buffer name) rows) x other ∙ put-elsewhere 7 name 2 rows s x other

two_keys : (name : LogicalName) (rows in_use : Tree) (s : State) → keys (put (put s (buffer name) rows) (entries_in_use name) in_use) ≡ keys s
two_keys name rows in_use s = keys-put (put s (buffer name) rows) (entries_in_use name) in_use ∙ keys-put s (buffer name) rows

-- an index is not both
not_both : (i : ℕ) → (i == 2) ≡ true → (i == 7) ≡ true → ⊥
not_both i two seven = let e : 2 ≡ 7 = sym (eqb-true i 2 two) ∙ eqb-true i 7 seven in false≢true (eq-eqb 2 7 e)

-- one of two new values, or what stood there
one_of_two : (two seven : Bool) (rows in_use : Tree) (new_rows new_in_use rest : Option Tree) → (two ≡ true → seven ≡ true → ⊥) →
    (two ≡ true → new_rows ≡ Some rows) → (seven ≡ true → new_in_use ≡ Some in_use) →
    (if seven then Some in_use else if two then Some rows else rest) ≡ (if two || seven then (if two then new_rows else new_in_use) else rest)
one_of_two true true rows in_use new_rows new_in_use rest apart at_2 at_7 = absurd (apart refl refl)
one_of_two true false rows in_use new_rows new_in_use rest apart at_2 at_7 = sym (at_2 refl)
one_of_two false true rows in_use new_rows new_in_use rest apart at_2 at_7 = sym (at_7 refl)
one_of_two false false rows in_use new_rows new_in_use rest apart at_2 at_7 = refl

reset_of_two : (two seven : Bool) (rows in_use : Tree) (rest : Option Tree) → (two ≡ true → seven ≡ true → ⊥) →
    (if seven then Some in_use else if two then Some rows else rest) ≡ (if two || seven then Some (if two then rows else in_use) else rest)
reset_of_two true true rows in_use rest apart = absurd (apart refl refl)
reset_of_two true false rows in_use rest apart = refl
reset_of_two false true rows in_use rest apart = refl
reset_of_two false false rows in_use rest apart = refl

three_or_two : (three two seven : Bool) (v rows in_use : Tree) (rest : Option Tree) → (two ≡ true → seven ≡ true → ⊥) →
    (if three then Some v else if seven then Some in_use else if two then Some rows else rest)
    ≡ (if three || (two || seven) then (if three then Some v else Some (if two then rows else in_use)) else rest)
three_or_two true two seven v rows in_use rest apart = refl
three_or_two false two seven v rows in_use rest apart = reset_of_two two seven rows in_use rest apart

module _ (fixed : ProfileFixed) (name : LogicalName) (row : State → List Tree) where
  -- A clear is method 1 of a profile.
  pub clear-is_operation : (argument : Tree) →
      IsOperation 7 name (profile_touched (Invoke 1)) (profile_new_value fixed (Invoke 1) argument) row (λ s. clear s name)
  clear-is_operation argument = record {
    same_cells = two_keys name (array no_trees) (counter 0);
    own_cells = λ s i key. two_puts name (array no_trees) (counter 0) s i key ∙ reset_of_two (i == 2) (i == 7) (array no_trees) (counter 0) _ (not_both i);
    other_cells = two_elsewhere name (array no_trees) (counter 0);
  }

  -- A write of capture_objects is that of attribute 3 of a profile: it puts its value, and leaves beside it what a reset leaves.
  pub choice-is_operation : (v : Tree) →
      IsOperation 7 name (profile_touched (Write 3)) (profile_new_value fixed (Write 3) v) row (λ s. write s (capture_objects name) v)
  choice-is_operation v = record {
    same_cells = λ s. keys-put (clear s name) (capture_objects name) v ∙ two_keys name (array no_trees) (counter 0) s;
    own_cells = λ s i key.
        cells_in-put 7 name 3 v (clear s name) i (subst (λ ks. IsIn ks (cell 7 name i)) (sym (two_keys name (array no_trees) (counter 0) s)) key)
        ∙ ap (λ c. if i == 3 then Some v else c) (two_puts name (array no_trees) (counter 0) s i key)
        ∙ three_or_two (i == 3) (i == 2) (i == 7) v (array no_trees) (counter 0) _ (not_both i);
    other_cells = λ s x other. put-elsewhere 7 name 3 v (clear s name) x other ∙ two_elsewhere name (array no_trees) (counter 0) s x other;
  }

module _ (fixed : ProfileFixed) (name : LogicalName) where
  -- what a capture takes and leaves
  abbrev taken : State → List Tree
  taken s = map (value s) (captured_in s name fixed.captured)

  abbrev rows_after : State → Tree
  rows_after s = buffer_after fixed.entries (value s (buffer name)) (structure_of (taken s))

  abbrev number_after : State → Tree
  number_after s = in_use_after fixed.entries (value s (entries_in_use name))

  there : (s : State) (i j : ℕ) → IsIn (keys s) (cell 7 name i) → (i == j) ≡ true → cells_in s 7 name j ≡ Some (value s (cell 7 name j))
  there s i j key is = cells_in-there s 7 name j (subst (λ k. IsIn (keys s) (cell 7 name k)) (eqb-true i j is) key)

  -- A capture is method 2 of a profile, over the row of the cells that it captures then.
  pub capture-is_operation : (argument : Tree) →
      IsOperation 7 name (profile_touched (Invoke 2)) (profile_new_value fixed (Invoke 2) argument) taken (λ s. capture s name (Some (record { captured = fixed.captured; entries = fixed.entries })))
  capture-is_operation argument = record {
    same_cells = λ s. two_keys name (rows_after s) (number_after s) s;
    own_cells = λ s i key.
        two_puts name (rows_after s) (number_after s) s i key
        ∙ one_of_two (i == 2) (i == 7) (rows_after s) (number_after s) _ _ _ (not_both i)
        (λ is. ap (option_map (λ old. buffer_after fixed.entries old (structure_of (taken s)))) (there s i 2 key is))
        (λ is. ap (option_map (in_use_after fixed.entries)) (there s i 7 key is));
    other_cells = λ s. two_elsewhere name (rows_after s) (number_after s) s;
  }
