-- Where a right grants a cell a request is shown, and a right allows it.
use Rattle.std.proofs.Common.{◌≡◌, ◌==◌, ℕ, Bool, true, ◌&&◌, List, ◌∷◌, flat_map, map, find, Option, Some, None, option_map, option_and_then, refl, sym, ap, subst, ◌∙◌, inl, inr, eqb-true}
use Rattle.std.proofs.lemmas.Bool.{and_from, and_parts, eq-eqb, false≢true}
use Rattle.cosem_data.specs.declared.cell.CellRef.{CellRef}
use Rattle.cosem_data.specs.declared.cell.MethodRef.{MethodRef}
use Rattle.meter_theory.specs.Edges.{among}
use Rattle.meter_theory.specs.Labels.{MayChange, all_scripts, calls_in, method_changes_of}
use Rattle.meter_theory.specs.Lists.{AreDistinct, IsIn, for_some}
use Rattle.meter_theory.specs.Plan.{Plan, Object, Script, Part, Data1, Register, ProfileGeneric, Clock, ScriptTable, RegisterMonitor, SingleActionSchedule, cells, object_at}
use Rattle.meter_theory.specs.Rights.{may_act, may_set}
use Rattle.meter_theory.specs.Sound.{IsSound}
use Rattle.meter_theory.specs.Steps.{actions_effects, changed, changed_by, changed_by_write, method_in, script_in, scripts_of}
use Rattle.meter_theory.specs.Ways.{Grants}
use Rattle.meter_theory.specs.declared.flow.Reach.{Reach}
use Rattle.meter_theory.specs.declared.flow.Reach.TheVariants.{Influence, Learn}
use Rattle.meter_theory.proofs.Agreement.{object-found}
use Rattle.meter_theory.proofs.Check.{among_in, in_among}
use Rattle.meter_theory.proofs.Lists.{found, from_flat_map, in_any, in_flat_map, one_of_key}
use Rattle.label_certificate.specs.Granted.{methods_of}
use Rattle.label_certificate.proofs.Joins.{calls-found}
use Rattle.flow_map.specs.Granting.{Allows, call_in, calls_change, executed_changes, first_call, first_set, or_call, shown_request}
use Rattle.flow_map.specs.declared.request.GrantedRequest.{GrantedRequest}
use Rattle.flow_map.specs.declared.request.GrantedRequest.TheVariants.{Get, Set, Act, Execute}
use Rattle.flow_map.proofs.Found.{some-found}

module _ (P : Plan) (sound : IsSound P) (x : CellRef) where
  -- a script by its number, in its table
  script-is : (o : Object) (scripts : List Script) → IsIn P.objects o → o.part ≡ ScriptTable scripts → (s : Script) → IsIn scripts s → IsIn (changed (actions_effects P s.actions)) x →
      among (changed (script_in P scripts s.id)) x ≡ true
  script-is o scripts there is s i changes =
      let f = some-found (λ z. z.id == s.id) scripts (in_any (λ z. z.id == s.id) scripts s i (eq-eqb s.id s.id refl)) in
      let z = found (λ z. z.id == s.id) scripts f.0 f.1 in
      let apart = subst (λ p. AreDistinct (0 ∷ map (λ t. t.id) (scripts_of p))) is (sound.scripts o there) in
      let same : f.0 ≡ s = one_of_key (λ t. t.id) scripts apart.1 f.0 s z.0 i (eqb-true f.0.id s.id z.1) in
      in_among (changed (script_in P scripts s.id)) x
      (subst (λ r. IsIn (changed (for_some r (λ t. actions_effects P t.actions))) x) (sym (f.1 ∙ ap Some same)) changes)

  script-there : (m : MethodRef) (o : Object) (scripts : List Script) → object_at P m.name ≡ Some o → o.part ≡ ScriptTable scripts → IsIn (changed (all_scripts P scripts)) x →
      (s : Script) × (find (λ t. among (executed_changes P m t.id) x) scripts ≡ Some s)
  script-there m o scripts at is i =
      let e = from_flat_map changed_by (all_scripts P scripts) x i in
      let s = from_flat_map (λ t. actions_effects P t.actions) scripts e.0 e.1 in
      some-found (λ t. among (executed_changes P m t.id) x) scripts
      (in_any (λ t. among (executed_changes P m t.id) x) scripts s.0 s.1
      (subst (λ r. among (changed (for_some r (λ z. method_in P m z.part (Some s.0.id)))) x ≡ true) (sym at)
      (subst (λ p. among (changed (method_in P m p (Some s.0.id))) x ≡ true) (sym is)
      (script-is o scripts (object-found P m.name o at).0 is s.0 s.1 (in_flat_map changed_by (actions_effects P s.0.actions) e.0 x s.2 e.2)))))

  abbrev Shown : ℕ → Option GrantedRequest → Type 0
  Shown c r = (request : GrantedRequest) × (r ≡ Some request) × Allows P c x request

  call-there : (c : ℕ) (m : MethodRef) (o : Object) (part : Part) → object_at P m.name ≡ Some o → o.part ≡ part → may_act P c m ≡ true → among (method_changes_of P m) x ≡ true →
      among (changed (calls_in P m part)) x ≡ true → Shown c (call_in P x m part)
  call-there c m o (ScriptTable scripts) at is may changes here =
      let s = script-there m o scripts at is (among_in (changed (all_scripts P scripts)) x here) in (
        Execute m s.0.id,
        ap (λ r. option_map (Execute m) (option_map (λ t. t.id) r)) s.1,
        (may, (found (λ t. among (executed_changes P m t.id) x) scripts s.0 s.1).1),
      )
  call-there c m o (Data1 start) at is may changes here = (Act m, refl, (may, changes))
  call-there c m o (Register start default scaler_unit) at is may changes here = (Act m, refl, (may, changes))
  call-there c m o (ProfileGeneric captured period entries) at is may changes here = (Act m, refl, (may, changes))
  call-there c m o (Clock first) at is may changes here = (Act m, refl, (may, changes))
  call-there c m o (RegisterMonitor monitored th actions) at is may changes here = (Act m, refl, (may, changes))
  call-there c m o (SingleActionSchedule script type times) at is may changes here = (Act m, refl, (may, changes))

  first-there : (c : ℕ) (m : MethodRef) → find (calls_change P c x) (flat_map methods_of P.objects) ≡ Some m → Shown c (first_call P c x)
  first-there c m is =
      subst (λ r. Shown c (option_and_then (λ n. option_and_then (λ o. call_in P x n o.part) (object_at P n.name)) r)) (sym is) (named (object_at P m.name) refl)
    where
      parts : (may_act P c m ≡ true) × (among (method_changes_of P m) x ≡ true)
      parts = and_parts (may_act P c m) (among (method_changes_of P m) x) (found (calls_change P c x) (flat_map methods_of P.objects) m is).1

      named : (r : Option Object) → object_at P m.name ≡ r → Shown c (option_and_then (λ o. call_in P x m o.part) (object_at P m.name))
      named None at = absurd (false≢true (subst (λ r. among (changed (for_some r (λ o. calls_in P m o.part))) x ≡ true) at parts.1))
      named (Some o) at =
          subst (λ r. Shown c (option_and_then (λ z. call_in P x m z.part) r)) (sym at)
          (call-there c m o o.part at refl parts.0 parts.1 (subst (λ r. among (changed (for_some r (λ z. calls_in P m z.part))) x ≡ true) at parts.1))

  change-there : (c : ℕ) → MayChange P c x → Shown c (or_call (first_set P c x) (first_call P c x))
  change-there c may = at (first_set P c x) refl may
    where
      sets : CellRef → Bool
      sets y = may_set P c y && among (changed_by_write y) x

      at : (r : Option CellRef) → first_set P c x ≡ r → MayChange P c x → Shown c (or_call r (first_call P c x))
      at (Some y) is m = (Set y, refl, and_parts (may_set P c y) (among (changed_by_write y) x) (found (λ z. may_set P c z && among (changed_by_write z) x) (cells P) y is).1)
      at None is (inl h) =
          let f = some-found (λ z. may_set P c z && among (changed_by_write z) x) (cells P)
          (in_any (λ z. may_set P c z && among (changed_by_write z) x) (cells P) h.0 h.1 (and_from (may_set P c h.0) (among (changed_by_write h.0) x) h.2 (in_among (changed_by_write h.0) x h.3))) in
          absurd (none_some (sym is ∙ f.1))
        where
          none_some : {y : CellRef} → None ≡ Some y → ⊥
          none_some e = cc
      at None is (inr h) =
          let f = some-found (calls_change P c x) (flat_map methods_of P.objects) (calls-found P sound c x h.0 h.1 h.2) in
          first-there c f.0 f.1

  pub shown-there : (reach : Reach) (c : ℕ) → Grants P reach c x → (request : GrantedRequest) × (shown_request P reach c x ≡ Some request) × Allows P c x request
  shown-there Influence c may = change-there c may
  shown-there Learn c may = (Get x, refl, (refl, may.1))
