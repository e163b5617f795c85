-- What a register monitor remembers has its cell.
use Rattle.std.proofs.Common.{◌≡◌, ℕ, sym, ap, subst, ◌∙◌, refl, inl, inr, arith, true, List, Option, Some, None, flat_map}
use Rattle.std.specs.Prelude.{option_map}
use Rattle.std.specs.List.{position_from}
use Rattle.std.proofs.lemmas.Bool.{false≢true}
use Rattle.cosem_data.specs.Tree.{Tree, null_data, array, no_trees}
use Rattle.cosem_data.specs.Cells.{same_cell}
use Rattle.cosem_data.proofs.Same.{same_cell-refl}
use Rattle.cosem_data.specs.declared.cell.CellRef.{CellRef}
use Rattle.cosem_data.specs.declared.name.LogicalName.{LogicalName}
use Rattle.meter_theory.specs.Lists.{IsIn}
use Rattle.meter_theory.specs.State.{State, keys, value}
use Rattle.meter_theory.specs.States.{IsState, IsBuffer, IsCount, Holds, IsRemembered, Fits}
use Rattle.meter_theory.specs.Steps.{Put, Captures, captures_in, captures_of, captured_in}
use Rattle.meter_theory.specs.Plan.{Plan, Object, Part, ProfileGeneric, RegisterMonitor, SingleActionSchedule, object_at, is_cell, cells, clock_object, clock_cell, start_of, buffer, capture_objects, entries_in_use, seen, executed_script}
use Rattle.meter_theory.specs.declared.refs.ScriptRef.{ScriptRef}
use Rattle.meter_theory.specs.Menus.{Choice, has_menu, capture_objects_value, script_ref_value}
use Rattle.meter_theory.proofs.Menus.{in_menu, in_script}
use Rattle.meter_theory.proofs.Lists.{in_any}
use Rattle.meter_theory.proofs.Agreement.{object-found}
use Rattle.meter_theory.proofs.Rights.{cell_of_object}
use Rattle.object_model.specs.EffectView.{IsProfile}
use Rattle.object_model.specs.declared.stored.Stored.{Stored}
use Rattle.object_model.specs.Stored.{stored_pairs, stores}
use Rattle.object_model.proofs.Puts.{put-is-there}
use Rattle.object_model.proofs.Stores.{nowhere}

pub remembered-there : (P : Plan) (s : State) (n : LogicalName) (v : Tree) → IsState P s → Fits P (Put (seen n) v) → IsIn (cells P) (seen n)
remembered-there P s n v k (inl may) = put-is-there P s (seen n) v k may
remembered-there P s n v k (inr (inl fits)) = at fits.0.part refl fits.2
  where
    at : (p : Part) → fits.0.part ≡ p → IsRemembered P fits.0.name fits.0.part (seen n) v → IsIn (cells P) (seen n)
    at (RegisterMonitor monitored th actions) is r =
        let here : seen n ≡ seen fits.0.name = (subst (λ q. IsRemembered P fits.0.name q (seen n) v) is r).0 in
        subst (IsIn (cells P)) (sym here)
        (cell_of_object P fits.0 (seen fits.0.name) null_data fits.1 (subst (λ q. IsIn (start_of fits.0.name q) (seen fits.0.name, null_data)) (sym is) (inr (inl refl))))
    at p is r = absurd (subst (λ q. IsRemembered P fits.0.name q (seen n) v) is r)
remembered-there P s n v k (inr (inr put)) = absurd (no_clock (clock_object P) (ap (λ x. x.class_id) put.0))
  where
    no_clock : (o : Option Object) → ◌≡◌ {A = ℕ} 21 (clock_cell o).class_id → ⊥
    no_clock None e = omega (arith, e)
    no_clock (Some o) e = omega (arith, e)

-- a cell of the state is stored somewhere
pub stored-somewhere : (ms : List Stored) (x : CellRef) → IsIn (keys (flat_map stored_pairs ms)) x → position_from (stores x) 0 ms ≡ None → ⊥
stored-somewhere ms x there none =
    false≢true (sym (nowhere ms x 0 (sym none)) ∙ in_any (same_cell x) (keys (flat_map stored_pairs ms)) x there (same_cell-refl x))

-- a profile of a state has rows and their number
pub profile_holds : (P : Plan) (s : State) (n : LogicalName) (c : Captures) → IsState P s → Some c ≡ captures_of (object_at P n) →
    IsBuffer P (captured_in s n c.captured) c.entries (value s (buffer n)) × IsCount c.entries (value s (entries_in_use n))
profile_holds P s n c k is = at (object_at P n) refl is
  where
    in_part : (part : Part) → Some c ≡ captures_in part → Holds P s n part → IsBuffer P (captured_in s n c.captured) c.entries (value s (buffer n)) × IsCount c.entries (value s (entries_in_use n))
    in_part (ProfileGeneric captured period entries) e holds =
        let same : c ≡ record { captured = captured; entries = entries } = cc in
        subst (λ (z : Captures). IsBuffer P (captured_in s n z.captured) z.entries (value s (buffer n)) × IsCount z.entries (value s (entries_in_use n))) (sym same) holds
    in_part p e holds = cc

    at : (o : Option Object) → object_at P n ≡ o → Some c ≡ captures_of o → IsBuffer P (captured_in s n c.captured) c.entries (value s (buffer n)) × IsCount c.entries (value s (entries_in_use n))
    at None found e = cc
    at (Some o) found e =
        let there = object-found P n o found in
        in_part o.part e (subst (λ m. Holds P s m o.part) there.1 (k.inner o there.0))

-- a profile of the plan has its cells
pub profile-there : (P : Plan) (s : State) (n : LogicalName) → IsState P s → IsProfile P n → IsIn (cells P) (buffer n)
profile-there P s n k is = at (object_at P n) refl is.1
  where
    in_part : (o : Object) → IsIn P.objects o → o.name ≡ n → (p : Part) → o.part ≡ p → captures_in p ≡ Some is.0 → IsIn (cells P) (buffer n)
    in_part o i named (ProfileGeneric captured period entries) here e =
        subst (λ m. IsIn (cells P) (buffer m)) named
        (cell_of_object P o (buffer o.name) (array no_trees) i (subst (λ q. IsIn (start_of o.name q) (buffer o.name, array no_trees)) (sym here) (inl refl)))
    in_part o i named p here e = cc

    at : (o : Option Object) → object_at P n ≡ o → captures_of o ≡ Some is.0 → IsIn (cells P) (buffer n)
    at None found e = cc
    at (Some o) found e = let there = object-found P n o found in in_part o there.0 there.1 o.part refl e

-- and where it has a menu capture_objects are one of them
pub objects-there : (P : Plan) (n : LogicalName) (c : Captures) → captures_of (object_at P n) ≡ Some c → has_menu c.captured ≡ true → is_cell P (capture_objects n) ≡ true
objects-there P n c is menu = in_any (same_cell (capture_objects n)) (cells P) (capture_objects n) (at (object_at P n) refl is) (same_cell-refl (capture_objects n))
  where
    in_part : (o : Object) → IsIn P.objects o → o.name ≡ n → (p : Part) → o.part ≡ p → captures_in p ≡ Some c → IsIn (cells P) (capture_objects n)
    in_part o i named (ProfileGeneric captured period entries) here e =
        let same : captured ≡ c.captured = cc in
        subst (λ m. IsIn (cells P) (capture_objects m)) named
        (cell_of_object P o (capture_objects o.name) (capture_objects_value captured.configured) i
        (subst (λ q. IsIn (start_of o.name q) (capture_objects o.name, capture_objects_value captured.configured)) (sym here) (in_menu o.name captured period entries (ap has_menu same ∙ menu))))
    in_part o i named p here e = cc

    at : (o : Option Object) → object_at P n ≡ o → captures_of o ≡ Some c → IsIn (cells P) (capture_objects n)
    at None found e = cc
    at (Some o) found e = let there = object-found P n o found in in_part o there.0 there.1 o.part refl e

-- the same of executed_script of a schedule
pub script-stands : (P : Plan) (n : LogicalName) (script : Choice ScriptRef) (type : ℕ) (times : Tree) → option_map (λ o. o.part) (object_at P n) ≡ Some (SingleActionSchedule script type times) →
    has_menu script ≡ true → is_cell P (executed_script n) ≡ true
script-stands P n script type times is menu = in_any (same_cell (executed_script n)) (cells P) (executed_script n) (at (object_at P n) refl is) (same_cell-refl (executed_script n))
  where
    at : (o : Option Object) → object_at P n ≡ o → option_map (λ o. o.part) o ≡ Some (SingleActionSchedule script type times) → IsIn (cells P) (executed_script n)
    at None found e = cc
    at (Some o) found e =
        let there = object-found P n o found in
        let here : o.part ≡ SingleActionSchedule script type times = cc in
        subst (λ m. IsIn (cells P) (executed_script m)) there.1
        (cell_of_object P o (executed_script o.name) (script_ref_value script.configured) there.0
        (subst (λ q. IsIn (start_of o.name q) (executed_script o.name, script_ref_value script.configured)) (sym here) (in_script o.name script type times menu)))
