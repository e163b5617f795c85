-- What a walk copies, and that a sound plan's effects may be taken.
use Rattle.std.specs.Prelude.{◌≡◌, ℕ, ◌==◌, Bool, true, false, cond, List, [], ◌∷◌, map, find, Option, Some, None}
use Rattle.std.specs.List.{FoldsTo}
use Rattle.std.proofs.Common.{refl, sym, ap, subst, ◌∙◌, inl, inr}
use Rattle.std.proofs.lemmas.List.{append-nil}
use Rattle.cosem_data.specs.declared.cell.MethodRef.{MethodRef}
use Rattle.cosem_data.specs.declared.name.LogicalName.{LogicalName}
use Rattle.meter_theory.specs.Lists.{IsIn, for_some}
use Rattle.meter_theory.specs.declared.refs.ScriptRef.{ScriptRef}
use Rattle.meter_theory.specs.Rights.{Argument, script_number}
use Rattle.meter_theory.specs.Plan.{Plan, Object, Part, Script, Action, Write, Invoke, Register, ProfileGeneric, ScriptTable, object_at, register_value}
use Rattle.meter_theory.specs.Sound.{IsSound}
use Rattle.meter_theory.specs.Steps as theory
use Rattle.meter_theory.specs.Steps.{captures_in, captures_of, scripts_of, script_in}
use Rattle.meter_theory.proofs.Agreement.{object-found}
use Rattle.meter_theory.proofs.Lists.{from_flat_map, found}
use Rattle.object_model.specs.EffectView.{effect_of, MayTakeAll}
use Rattle.object_model.specs.declared.effect.Effect.{Effect}
use Rattle.meter_effects.specs.Adds.{Adds}
use Rattle.meter_effects.specs.Planned.{MayBePlanned, MayAllBePlanned, IsCopied}
use Rattle.meter_effects.specs.Writes.{AreWrites}
use Rattle.meter_effects.proofs.Added.{adds_more, default_may_stand, found_again}

-- a walk that copies adds what it comes to
pub copies_added : {C : Type 0} (held : C → List Effect) (P : Plan) (es : List theory.Effect) (old new : C) → MayAllBePlanned P es →
    FoldsTo (λ a e b. IsCopied (held a) e (held b)) old es new → Adds P es (held old) (held new)
copies_added held P [] old new may h = record {
  effects = ap (λ c. map effect_of (held c)) (sym h) ∙ sym (append-nil (map effect_of (held old)));
  fits = subst (λ c. MayTakeAll P (held old) → MayTakeAll P (held c)) h (λ all. all);
}
copies_added held P (e ∷ es) old new may h =
    adds_more P (e ∷ []) es (held old) (held h.0) (held new) (h.1 P (may e (inl refl))) (copies_added held P es h.0 new (λ d i. may d (inr i)) h.2)

-- the effect alone
may_one : (P : Plan) (e : theory.Effect) → MayBePlanned P e → MayAllBePlanned P (e ∷ [])
may_one P e may d (inl same) = subst (MayBePlanned P) (sym same) may
may_one P e may d (inr none) = absurd none

-- reset and capture of an object
plain_may : (P : Plan) (n : LogicalName) (o : Object) (index : ℕ) → IsSound P → Some o ≡ object_at P n → MayAllBePlanned P (theory.plain_method n o.part index)
plain_may P n o index sound is = in_part o.part refl
  where
    of_profile : (b : Bool) → MayBePlanned P (theory.Capture n) → MayAllBePlanned P (cond b (theory.Clear n ∷ []) (theory.Capture n ∷ []))
    of_profile true may = may_one P (theory.Clear n) tt
    of_profile false may = may_one P (theory.Capture n) may

    in_part : (part : Part) → o.part ≡ part → MayAllBePlanned P (theory.plain_method n part index)
    in_part (Register first default unit) part =
        may_one P (theory.Put (register_value n) default)
        (subst (λ m. MayBePlanned P (theory.Put (register_value m) default)) (object-found P n o (sym is)).1 (default_may_stand P o first default unit sound (found_again P n o is) part))
    in_part (ProfileGeneric captured period entries) part =
        of_profile (index == 1) (record { captured = captured; entries = entries }, ap captures_of (sym is) ∙ ap captures_in part)
    in_part _ part = λ e none. absurd none

action_may : (P : Plan) (a : Action) → IsSound P → AreWrites P (a ∷ []) → MayAllBePlanned P (theory.action_effects P a)
action_may P (Write x v) sound writes = let w = writes x v (inl refl) in may_one P (theory.Put x v) (w.rule, w.settable, w.fits)
action_may P (Invoke m parameter) sound writes = at (object_at P m.name) refl
  where
    at : (o : Option Object) → object_at P m.name ≡ o → MayAllBePlanned P (for_some o (λ z. theory.plain_method m.name z.part m.index))
    at None there = λ e none. absurd none
    at (Some o) there = plain_may P m.name o m.index sound (sym there)

actions_may : (P : Plan) (actions : List Action) → IsSound P → AreWrites P actions → MayAllBePlanned P (theory.actions_effects P actions)
actions_may P actions sound writes = λ e i.
    let f = from_flat_map (theory.action_effects P) actions e i in
    action_may P f.0 sound (λ x v h. elim h [
      | inl same ↦ writes x v (subst (IsIn actions) (sym same) f.1)
      | inr none ↦ absurd none
    ]) e f.2

-- a script of a table of the plan
table_may : (P : Plan) (o : Object) (id : ℕ) → IsSound P → IsIn P.objects o → MayAllBePlanned P (script_in P (scripts_of o.part) id)
table_may P o id sound there = at (find (λ s. s.id == id) (scripts_of o.part)) refl
  where
    at : (s : Option Script) → find (λ s. s.id == id) (scripts_of o.part) ≡ s → MayAllBePlanned P (for_some s (λ s. theory.actions_effects P s.actions))
    at None is = λ e none. absurd none
    at (Some s) is = actions_may P s.actions sound (sound.writes o there s (found (λ s. s.id == id) (scripts_of o.part) s is).0)

pub script_may : (P : Plan) (r : ScriptRef) → IsSound P → MayAllBePlanned P (theory.effects_of_script P r)
script_may P r sound = at (object_at P r.table) refl
  where
    at : (o : Option Object) → object_at P r.table ≡ o → MayAllBePlanned P (for_some o (λ o. script_in P (scripts_of o.part) r.script))
    at None there = λ e none. absurd none
    at (Some o) there = table_may P o r.script sound (object-found P r.table o there).0

pub method_may : (P : Plan) (m : MethodRef) (argument : Argument) → IsSound P → MayAllBePlanned P (theory.method_effects P m argument)
method_may P m argument sound = at (object_at P m.name) refl
  where
    in_part : (o : Object) → object_at P m.name ≡ Some o → (part : Part) → o.part ≡ part → (id : Option ℕ) → MayAllBePlanned P (theory.method_in P m part id)
    in_part o there (ScriptTable scripts) part (Some id) = subst (λ p. MayAllBePlanned P (script_in P (scripts_of p) id)) part (table_may P o id sound (object-found P m.name o there).0)
    in_part o there (ScriptTable scripts) part None = λ e none. absurd none
    in_part o there _ part id = subst (λ p. MayAllBePlanned P (theory.plain_method m.name p m.index)) part (plain_may P m.name o m.index sound (sym there))

    at : (o : Option Object) → object_at P m.name ≡ o → MayAllBePlanned P (for_some o (λ z. theory.method_in P m z.part (script_number argument)))
    at None there = λ e none. absurd none
    at (Some o) there = in_part o there o.part refl (script_number argument)
