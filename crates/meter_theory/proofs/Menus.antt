-- Attributes that may have a menu: which alternative is chosen, and what stands in the start of their objects.
use Rattle.std.proofs.Common.{◌≡◌, ◌⊎◌, Bool, true, false, cond, ◌||◌, List, [], ◌∷◌, map, find, ℕ, Option, Some, None, option_map, refl, sym, ap, subst, ◌∙◌, inl, inr}
use Rattle.std.specs.List.{list_any}
use Rattle.cosem_data.specs.Tree.{Tree, array, structure, no_trees, trees}
use Rattle.cosem_data.specs.TreeCode.{trees-parts}
use Rattle.cosem_data.specs.Equal.{same_tree, same_trees}
use Rattle.cosem_data.specs.declared.name.LogicalName.{LogicalName}
use Rattle.cosem_data.specs.declared.cell.CellRef.{CellRef}
use Rattle.meter_theory.specs.declared.refs.ScriptRef.{ScriptRef}
use Rattle.meter_theory.specs.Lists.{IsIn}
use Rattle.meter_theory.specs.Menus.{Choice, alternatives, has_any, has_menu, chosen, capture_objects_value, script_ref_value}
use Rattle.meter_theory.specs.Times.{parts_of}
use Rattle.meter_theory.specs.Value.{counter}
use Rattle.meter_theory.specs.Plan.{ProfileGeneric, SingleActionSchedule, start_of, start_of_choice, buffer, capture_objects, capture_period, entries_in_use, executed_script, execution_time}
use Rattle.std.specs.Option.{unwrap_or}
use Rattle.meter_theory.proofs.Lists.{found, in_append_left, in_append_right, in_append_cases}

-- The chosen alternative

-- it is one of the alternatives
pub chosen-in : {A : Type 0} (value_of : A → Tree) (c : Choice A) (v : Tree) → IsIn (alternatives c) (chosen value_of c v)
chosen-in {A = A} value_of c v = at (find (λ a. same_tree (value_of a) v) c.menu) refl
  where
    at : (o : Option A) → find (λ a. same_tree (value_of a) v) c.menu ≡ o → IsIn (alternatives c) (unwrap_or o c.configured)
    at None is = inl refl
    at (Some a) is = inr (found (λ a. same_tree (value_of a) v) c.menu a is).0

-- Without a menu the value decides nothing; with one, equal values choose alike.
pub chosen-alike : {A : Type 0} (value_of : A → Tree) (c : Choice A) (v w : Tree) → (has_menu c ≡ true → v ≡ w) → chosen value_of c v ≡ chosen value_of c w
chosen-alike {A = A} value_of c v w same = at c.menu refl
  where
    at : (menu : List A) → c.menu ≡ menu → chosen value_of c v ≡ chosen value_of c w
    at [] e =
        subst (λ m. unwrap_or (find (λ a. same_tree (value_of a) v) m) c.configured ≡ unwrap_or (find (λ a. same_tree (value_of a) w) m) c.configured)
        (sym e) refl
    at (a ∷ menu) e = ap (chosen value_of c) (same (ap has_any e))

-- what is found of what a list stands for
pub find_map : {A B : Type 0} (f : A → B) (test : B → Bool) (xs : List A) → find test (map f xs) ≡ option_map f (find (λ x. test (f x)) xs)
find_map f test [] = refl
find_map f test (x ∷ xs) = at (find_map f test xs) (test (f x))
  where
    at : find test (map f xs) ≡ option_map f (find (λ y. test (f y)) xs) → (b : Bool) → cond b (Some (f x)) (find test (map f xs)) ≡ option_map f (cond b (Some x) (find (λ y. test (f y)) xs))
    at rest true = refl
    at rest false = rest

any_map : {A B : Type 0} (f : A → B) (test : B → Bool) (xs : List A) → list_any test (map f xs) ≡ list_any (λ x. test (f x)) xs
any_map f test [] = refl
any_map f test (x ∷ xs) = ap (λ b. test (f x) || b) (any_map f test xs)

-- what is found in a menu whose alternatives stand for others is what is chosen of those
pub chosen-by : {A B : Type 0} (value_of : B → Tree) (stands : A → B) (configured : B) (menu : List A) (v : Tree) (found : Option A) →
    found ≡ find (λ a. same_tree (value_of (stands a)) v) menu →
    unwrap_or (option_map stands found) configured ≡ chosen value_of (record { configured = configured; menu = map stands menu }) v
chosen-by value_of stands configured menu v found is =
    ap (λ o. unwrap_or (option_map stands o) configured) is ∙ ap (λ o. unwrap_or o configured) (sym (find_map stands (λ b. same_tree (value_of b) v) menu))

-- and what is offered by it is among their values
pub offered-by : {A B : Type 0} (value_of : B → Tree) (stands : A → B) (menu : List A) (v : Tree) →
    list_any (λ a. same_tree (value_of (stands a)) v) menu ≡ list_any (λ w. same_tree w v) (map value_of (map stands menu))
offered-by value_of stands menu v =
    sym (any_map stands (λ b. same_tree (value_of b) v) menu) ∙ sym (any_map value_of (λ w. same_tree w v) (map stands menu))

-- and what is offered by a menu itself
pub offered : {A : Type 0} (value_of : A → Tree) (menu : List A) (v : Tree) → list_any (λ a. same_tree (value_of a) v) menu ≡ list_any (λ w. same_tree w v) (map value_of menu)
offered value_of menu v = sym (any_map value_of (λ w. same_tree w v) menu)

-- a value is the same as a structure of some parts exactly where its parts are
pub same_structure : (x : Tree) (xs : List Tree) (v : Tree) → same_tree (structure (trees (x ∷ xs))) v ≡ same_trees (trees (x ∷ xs)) (trees (parts_of v))
same_structure x xs (structure ts) = ap (same_trees (trees (x ∷ xs))) (sym (trees-parts ts))
same_structure x xs _ = refl

-- The start of the cell of a choice

pub in_choice : {A : Type 0} (x : CellRef) (value_of : A → Tree) (c : Choice A) → has_menu c ≡ true → IsIn (start_of_choice x value_of c) (x, value_of c.configured)
in_choice x value_of c h =
    let entry : CellRef × Tree = (x, value_of c.configured) in
    subst (λ b. IsIn (cond b (entry ∷ []) []) entry) (sym h) (inl refl)

pub from_choice : {A : Type 0} (x : CellRef) (value_of : A → Tree) (c : Choice A) (e : CellRef × Tree) → IsIn (start_of_choice x value_of c) e → (has_menu c ≡ true) × (e ≡ (x, value_of c.configured))
from_choice x value_of c e i = at (has_menu c) refl i
  where
    at : (b : Bool) → has_menu c ≡ b → IsIn (cond b ((x, value_of c.configured) ∷ []) []) e → (has_menu c ≡ true) × (e ≡ (x, value_of c.configured))
    at true h (inl same) = (h, same)
    at true h (inr none) = absurd none
    at false h none = absurd none

-- The start of a profile

module _ (n : LogicalName) (captured : Choice (List CellRef)) (period entries : ℕ) where
  abbrev behind : List (CellRef × Tree)
  behind = (capture_period n, counter period) ∷ (entries_in_use n, counter 0) ∷ []

  abbrev of_menu : List (CellRef × Tree)
  of_menu = start_of_choice (capture_objects n) capture_objects_value captured

  pub in_menu : has_menu captured ≡ true → IsIn (start_of n (ProfileGeneric captured period entries)) (capture_objects n, capture_objects_value captured.configured)
  in_menu h = inr (in_append_left of_menu behind _ (in_choice (capture_objects n) capture_objects_value captured h))

  pub in_period : IsIn (start_of n (ProfileGeneric captured period entries)) (capture_period n, counter period)
  in_period = inr (in_append_right of_menu behind _ (inl refl))

  pub in_count : IsIn (start_of n (ProfileGeneric captured period entries)) (entries_in_use n, counter 0)
  in_count = inr (in_append_right of_menu behind _ (inr (inl refl)))

  -- each of its entries
  pub profile_entry : (e : CellRef × Tree) → IsIn (start_of n (ProfileGeneric captured period entries)) e →
      (e ≡ (buffer n, array no_trees))
      ⊎ (((has_menu captured ≡ true) × (e ≡ (capture_objects n, capture_objects_value captured.configured)))
      ⊎ ((e ≡ (capture_period n, counter period)) ⊎ (e ≡ (entries_in_use n, counter 0))))
  profile_entry e (inl same) = inl same
  profile_entry e (inr i) =
      elim (in_append_cases of_menu behind e i) [
        | inl j ↦ inr (inl (from_choice (capture_objects n) capture_objects_value captured e j))
        | inr j ↦ elim j [
          | inl same ↦ inr (inr (inl same))
          | inr k ↦ elim k [ inl same ↦ inr (inr (inr same)) | inr none ↦ absurd none ]
        ]
      ]

-- The start of a schedule

module _ (n : LogicalName) (script : Choice ScriptRef) (type : ℕ) (times : Tree) where
  pub in_script : has_menu script ≡ true → IsIn (start_of n (SingleActionSchedule script type times)) (executed_script n, script_ref_value script.configured)
  in_script h = in_append_left (start_of_choice (executed_script n) script_ref_value script) _ _ (in_choice (executed_script n) script_ref_value script h)

  pub in_times : IsIn (start_of n (SingleActionSchedule script type times)) (execution_time n, times)
  in_times = in_append_right (start_of_choice (executed_script n) script_ref_value script) ((execution_time n, times) ∷ []) _ (inl refl)

  pub schedule_entry : (e : CellRef × Tree) → IsIn (start_of n (SingleActionSchedule script type times)) e →
      ((has_menu script ≡ true) × (e ≡ (executed_script n, script_ref_value script.configured))) ⊎ (e ≡ (execution_time n, times))
  schedule_entry e i =
      elim (in_append_cases (start_of_choice (executed_script n) script_ref_value script) ((execution_time n, times) ∷ []) e i) [
        | inl j ↦ inl (from_choice (executed_script n) script_ref_value script e j)
        | inr j ↦ elim j [ inl same ↦ inr same | inr none ↦ absurd none ]
      ]
