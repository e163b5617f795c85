-- What scripts and methods of a bare plan change is what those of the plan change.
use Rattle.std.proofs.Common.{◌≡◌, ◌∙◌, ℕ, ◌==◌, Bool, true, false, cond, List, [], ◌∷◌, ◌++◌, Option, None, Some, ap, ap₂, append_assoc, find, flat_map, map, option_map, refl, sym}
use Rattle.cosem_data.specs.Cells.{same_name}
use Rattle.cosem_data.specs.declared.cell.MethodRef.{MethodRef}
use Rattle.cosem_data.specs.declared.name.LogicalName.{LogicalName}
use Rattle.meter_theory.specs.Lists.{for_some}
use Rattle.meter_theory.specs.Plan.{Action, Clock, Data1, Invoke, Object, Part, Plan, ProfileGeneric, Register, RegisterMonitor, Script, ScriptTable, SingleActionSchedule, Write, object_at}
use Rattle.meter_theory.specs.Steps.{Effect, action_effects, actions_effects, changed, changed_by, effects_of_script, plain_method, plain_method_of, script_in, scripts_of}
use Rattle.meter_theory.specs.declared.refs.ScriptRef.{ScriptRef}
use Rattle.flow_ways.specs.Bare.{bare, bare_action, bare_object, bare_part, bare_script}

-- what is found among changed items is changed from what is found, where a test passes the same
picked : {A : Type 0} (f : A → A) (x : A) (b : Bool) (o p : Option A) → o ≡ option_map f p → cond b (Some (f x)) o ≡ option_map f (cond b (Some x) p)
picked f x true o p e = refl
picked f x false o p e = e

pub found-map : {A : Type 0} (f : A → A) (test : A → Bool) → ((x : A) → test (f x) ≡ test x) → (xs : List A) → find test (map f xs) ≡ option_map f (find test xs)
found-map f test same [] = refl
found-map f test same (x ∷ xs) =
    ap (λ b. cond b (Some (f x)) (find test (map f xs))) (same x) ∙ picked f x (test x) (find test (map f xs)) (find test xs) (found-map f test same xs)

-- what is joined from one list and from another
pub changed-append : (es fs : List Effect) → changed (es ++ fs) ≡ changed es ++ changed fs
changed-append [] fs = refl
changed-append (e ∷ es) fs = ap (λ xs. changed_by e ++ xs) (changed-append es fs) ∙ sym (append_assoc (changed_by e) (changed es) (changed fs))

module _ (P : Plan) where
  pub found-object : (n : LogicalName) → object_at (bare P) n ≡ option_map bare_object (object_at P n)
  found-object n = found-map bare_object (λ o. same_name o.name n) (λ o. refl) P.objects

  pub plain-same : (n : LogicalName) (p : Part) (index : ℕ) → changed (plain_method n (bare_part p) index) ≡ changed (plain_method n p index)
  plain-same n (Data1 start) index = refl
  plain-same n (Register start default scaler_unit) index = refl
  plain-same n (ProfileGeneric captured period entries) index = refl
  plain-same n (Clock start) index = refl
  plain-same n (ScriptTable scripts) index = refl
  plain-same n (RegisterMonitor monitored thresholds actions) index = refl
  plain-same n (SingleActionSchedule script type times) index = refl

  method-same : (m : MethodRef) → changed (plain_method_of (bare P) m) ≡ changed (plain_method_of P m)
  method-same m = ap (λ o. changed (for_some o (λ o. plain_method m.name o.part m.index))) (found-object m.name) ∙ at (object_at P m.name)
    where
      at : (o : Option Object) → changed (for_some (option_map bare_object o) (λ o. plain_method m.name o.part m.index)) ≡ changed (for_some o (λ o. plain_method m.name o.part m.index))
      at None = refl
      at (Some o) = plain-same m.name o.part m.index

  action-same : (a : Action) → changed (action_effects (bare P) (bare_action a)) ≡ changed (action_effects P a)
  action-same (Write x v) = refl
  action-same (Invoke m parameter) = method-same m

  pub actions-same : (actions : List Action) → changed (actions_effects (bare P) (map bare_action actions)) ≡ changed (actions_effects P actions)
  actions-same [] = refl
  actions-same (a ∷ rest) =
      changed-append (action_effects (bare P) (bare_action a)) (actions_effects (bare P) (map bare_action rest))
      ∙ (ap₂ (λ xs ys. xs ++ ys) (action-same a) (actions-same rest) ∙ sym (changed-append (action_effects P a) (actions_effects P rest)))

  pub script-same : (scripts : List Script) (id : ℕ) → changed (script_in (bare P) (map bare_script scripts) id) ≡ changed (script_in P scripts id)
  script-same scripts id =
      ap (λ s. changed (for_some s (λ s. actions_effects (bare P) s.actions))) (found-map bare_script (λ s. s.id == id) (λ s. refl) scripts) ∙ at (find (λ s. s.id == id) scripts)
    where
      at : (s : Option Script) → changed (for_some (option_map bare_script s) (λ s. actions_effects (bare P) s.actions)) ≡ changed (for_some s (λ s. actions_effects P s.actions))
      at None = refl
      at (Some s) = actions-same s.actions

  pub scripts-same : (p : Part) → scripts_of (bare_part p) ≡ map bare_script (scripts_of p)
  scripts-same (Data1 start) = refl
  scripts-same (Register start default scaler_unit) = refl
  scripts-same (ProfileGeneric captured period entries) = refl
  scripts-same (Clock start) = refl
  scripts-same (ScriptTable scripts) = refl
  scripts-same (RegisterMonitor monitored thresholds actions) = refl
  scripts-same (SingleActionSchedule script type times) = refl

  pub ref-same : (r : ScriptRef) → changed (effects_of_script (bare P) r) ≡ changed (effects_of_script P r)
  ref-same r = ap (λ o. changed (for_some o (λ o. script_in (bare P) (scripts_of o.part) r.script))) (found-object r.table) ∙ at (object_at P r.table)
    where
      at : (o : Option Object) → changed (for_some (option_map bare_object o) (λ o. script_in (bare P) (scripts_of o.part) r.script)) ≡ changed (for_some o (λ o. script_in P (scripts_of o.part) r.script))
      at None = refl
      at (Some o) = ap (λ scripts. changed (script_in (bare P) scripts r.script)) (scripts-same o.part) ∙ script-same (scripts_of o.part) r.script

  pub refs-same : (rs : List ScriptRef) → changed (flat_map (effects_of_script (bare P)) rs) ≡ changed (flat_map (effects_of_script P) rs)
  refs-same [] = refl
  refs-same (r ∷ rs) =
      changed-append (effects_of_script (bare P) r) (flat_map (effects_of_script (bare P)) rs)
      ∙ (ap₂ (λ xs ys. xs ++ ys) (ref-same r) (refs-same rs) ∙ sym (changed-append (effects_of_script P r) (flat_map (effects_of_script P) rs)))
