-- Without menus.
use Rattle.std.proofs.Common.{◌≡◌, ℕ, false, cond, List, [], ◌∷◌, ◌++◌, map, None, refl, sym, ap, subst, ◌∙◌}
use Rattle.std.proofs.lemmas.Bool.{false_from_ne_true}
use Rattle.cosem_data.specs.Tree.{Tree, array, no_trees}
use Rattle.cosem_data.specs.declared.name.LogicalName.{LogicalName}
use Rattle.cosem_data.specs.declared.cell.CellRef.{CellRef}
use Rattle.meter_theory.specs.declared.refs.ScriptRef.{ScriptRef}
use Rattle.meter_theory.specs.declared.flow.Cause.TheVariants.{Captured, Period, Schedule}
use Rattle.meter_theory.specs.Lists.{IsIn}
use Rattle.meter_theory.specs.Menus.{Choice, has_any, has_menu, capture_objects_value, script_ref_value}
use Rattle.meter_theory.specs.Value.{counter}
use Rattle.meter_theory.specs.State.{State, put}
use Rattle.meter_theory.specs.Plan.{Plan, ProfileGeneric, HasNoMenus, part_has_menu, SingleActionSchedule, cells, start_of, rule_in, buffer, capture_objects, capture_period, entries_in_use, executed_script, execution_time}
use Rattle.meter_theory.specs.Steps.{changed, effects_of_script, captured_in, script_now, empties, clear, kept, write, changed_by_write}
use Rattle.meter_theory.specs.Edges.{edge, edges_in, edges_from_clock, in_plan_order, script_changes}
use Rattle.meter_theory.proofs.Agreement.{not_both}
use Rattle.meter_theory.proofs.Writes.{menu_cell}

-- a choice without a menu, as it stands
abbrev alone : {A : Type 0} → A → Choice A
alone a = record { configured = a; menu = [] }

alone-is : {A : Type 0} (c : Choice A) → has_menu c ≡ false → c ≡ alone c.configured
alone-is {A = A} c h = at c.menu refl h
  where
    at : (menu : List A) → c.menu ≡ menu → has_any menu ≡ false → c ≡ alone c.configured
    at [] e g = λ i. record { configured = c.configured; menu = e i }
    at (a ∷ menu) e g = cc

append_none : {A : Type 0} (xs : List A) → xs ++ [] ≡ xs
append_none [] = refl
append_none (x ∷ xs) = ap (λ ys. x ∷ ys) (append_none xs)

pub captures-alone : (s : State) (n : LogicalName) (c : Choice (List CellRef)) → has_menu c ≡ false → captured_in s n c ≡ c.configured
captures-alone s n c h = subst (λ d. captured_in s n d ≡ d.configured) (sym (alone-is c h)) refl

pub runs-alone : (s : State) (n : LogicalName) (c : Choice ScriptRef) → has_menu c ≡ false → script_now s n c ≡ c.configured
runs-alone s n c h = subst (λ d. script_now s n d ≡ d.configured) (sym (alone-is c h)) refl

pub profile-alone : (n : LogicalName) (c : Choice (List CellRef)) (period entries : ℕ) → has_menu c ≡ false →
    start_of n (ProfileGeneric c period entries) ≡ (buffer n, array no_trees) ∷ (capture_period n, counter period) ∷ (entries_in_use n, counter 0) ∷ []
profile-alone n c period entries h =
    ap (λ b. (buffer n, array no_trees) ∷ cond b ((capture_objects n, capture_objects_value c.configured) ∷ []) [] ++ (capture_period n, counter period) ∷ (entries_in_use n, counter 0) ∷ []) h

pub schedule-alone : (n : LogicalName) (c : Choice ScriptRef) (type : ℕ) (times : Tree) → has_menu c ≡ false → start_of n (SingleActionSchedule c type times) ≡ (execution_time n, times) ∷ []
schedule-alone n c type times h = ap (λ b. cond b ((executed_script n, script_ref_value c.configured) ∷ []) [] ++ (execution_time n, times) ∷ []) h

pub objects_rule-alone : (P : Plan) (c : Choice (List CellRef)) (period entries : ℕ) → has_menu c ≡ false → rule_in P (ProfileGeneric c period entries) 3 ≡ None
objects_rule-alone P c period entries h = ap (λ d. rule_in P (ProfileGeneric d period entries) 3) (alone-is c h)

pub script_rule-alone : (P : Plan) (c : Choice ScriptRef) (type : ℕ) (times : Tree) → has_menu c ≡ false → rule_in P (SingleActionSchedule c type times) 2 ≡ None
script_rule-alone P c type times h = ap (λ d. rule_in P (SingleActionSchedule d type times) 2) (alone-is c h)

pub profile_edges-alone : (P : Plan) (n : LogicalName) (c : Choice (List CellRef)) (period entries : ℕ) → has_menu c ≡ false →
    edges_in P n (ProfileGeneric c period entries)
    ≡ map (λ x. edge Captured x (buffer n)) c.configured ++ edge Period (capture_period n) (buffer n) ∷ edge Period (capture_period n) (entries_in_use n)
    ∷ edges_from_clock P (buffer n ∷ entries_in_use n ∷ [])
profile_edges-alone P n c period entries h =
    ap (λ d. edges_in P n (ProfileGeneric d period entries)) (alone-is c h)
    ∙ ap (λ xs. map (λ x. edge Captured x (buffer n)) xs ++ edge Period (capture_period n) (buffer n) ∷ edge Period (capture_period n) (entries_in_use n)
    ∷ edges_from_clock P (buffer n ∷ entries_in_use n ∷ [])) (append_none c.configured)

pub schedule_edges-alone : (P : Plan) (n : LogicalName) (c : Choice ScriptRef) (type : ℕ) (times : Tree) → has_menu c ≡ false →
    edges_in P n (SingleActionSchedule c type times)
    ≡ map (λ y. edge Schedule (execution_time n) y) (in_plan_order P (script_changes P c.configured))
    ++ edges_from_clock P (in_plan_order P (script_changes P c.configured))
schedule_edges-alone P n c type times h =
    ap (λ d. edges_in P n (SingleActionSchedule d type times)) (alone-is c h)
    ∙ ap (λ es. map (λ y. edge Schedule (execution_time n) y) (in_plan_order P (changed es)) ++ edges_from_clock P (in_plan_order P (changed es))) (append_none (effects_of_script P c.configured))

pub writes-alone : (P : Plan) → HasNoMenus P → (x : CellRef) → IsIn (cells P) x → (s : State) (v : Tree) → (write s x v ≡ put s x (kept x v)) × (changed_by_write x ≡ x ∷ [])
writes-alone P none x there s v = (
  ap (λ b. put (cond b (clear s x.name) s) x (kept x v)) empties_none,
  ap (λ b. x ∷ cond b (buffer x.name ∷ entries_in_use x.name ∷ []) []) empties_none,
)
  where
    empties_none : empties x ≡ false
    empties_none = false_from_ne_true (empties x) (λ h.
        let m = menu_cell P x there h in
        not_both (has_menu m.captured) m.menu (subst (λ part. part_has_menu part ≡ false) m.part (none m.object m.there)))
