-- What is shown of the ways of a bare plan is what is shown of those of the plan.
use Rattle.std.proofs.Common.{◌≡◌, ◌∙◌, ℕ, ◌&&◌, List, [], ◌∷◌, ◌++◌, Option, None, Some, ap, ap₂, find, flat_map, length, map, option_and_then, option_map, refl}
use Rattle.std.specs.List.{range_with_len}
use Rattle.cosem_data.specs.declared.cell.CellRef.{CellRef}
use Rattle.cosem_data.specs.declared.cell.MethodRef.{MethodRef}
use Rattle.cosem_data.specs.Tree.{long_unsigned}
use Rattle.meter_theory.specs.Edges.{among}
use Rattle.meter_theory.specs.Lists.{for_some}
use Rattle.meter_theory.specs.Plan.{Clock, Data1, Object, Part, Plan, ProfileGeneric, Register, RegisterMonitor, Script, ScriptTable, SingleActionSchedule, cells, interface_of, object_at}
use Rattle.meter_theory.specs.Rights.{Given, may_act, may_set, script_number}
use Rattle.meter_theory.specs.Steps.{changed, changed_by_write, method_in}
use Rattle.meter_theory.specs.Ways.{is_within, shown_way}
use Rattle.meter_theory.specs.declared.flow.Edge.{Edge}
use Rattle.meter_theory.specs.declared.flow.Reach.{Reach}
use Rattle.meter_theory.specs.declared.flow.Reach.TheVariants.{Influence, Learn}
use Rattle.meter_theory.specs.declared.refs.Interface.{Interface}
use Rattle.label_certificate.specs.Granted.{methods_of}
use Rattle.flow_ways.specs.Found.{distance_of, way_of}
use Rattle.flow_map.specs.Granting.{call_in, calls_change, executed_changes, first_call, first_script, or_call, shown_request}
use Rattle.flow_map.specs.declared.request.GrantedRequest.{GrantedRequest}
use Rattle.flow_map.specs.declared.request.GrantedRequest.TheVariants.{Execute}
use Rattle.flow_ways.specs.Bare.{bare, bare_object, bare_part, bare_script}
use Rattle.flow_ways.proofs.BareFlow.{cells-same, first-edge, method-changes-same, ways-same, within-same}
use Rattle.flow_ways.proofs.BareScripts.{found-map, found-object, plain-same, script-same}

pub interface-same : (p : Part) → interface_of (bare_part p) ≡ interface_of p
interface-same (Data1 start) = refl
interface-same (Register start default scaler_unit) = refl
interface-same (ProfileGeneric captured period entries) = refl
interface-same (Clock start) = refl
interface-same (ScriptTable scripts) = refl
interface-same (RegisterMonitor monitored thresholds actions) = refl
interface-same (SingleActionSchedule script type times) = refl

methods-same : (os : List Object) → flat_map methods_of (map bare_object os) ≡ flat_map methods_of os
methods-same [] = refl
methods-same (o ∷ os) =
    ap₂ (λ xs ys. xs ++ ys) (ap (λ (i : Interface). map (λ k. (record { class_id = i.class_id; name = o.name; index = k })) (range_with_len 1 i.methods)) (interface-same o.part)) (methods-same os)

module _ (P : Plan) where
  -- Distances

  pub distance-same : (reach : Reach) (c : ℕ) (x : CellRef) → distance_of (bare P) reach c x ≡ distance_of P reach c x
  distance-same reach c x =
      ap (λ xs. find (λ k. is_within (bare P) reach c k x) (map (λ k. k) (range_with_len 0 (length xs)))) (cells-same P)
      ∙ first-edge P (λ k. is_within (bare P) reach c k x) (λ k. is_within P reach c k x) (λ k. within-same P reach c k x) (map (λ k. k) (range_with_len 0 (length (cells P))))

  each-way : (f g : ℕ → List Edge) → ((d : ℕ) → f d ≡ g d) → (o : Option ℕ) → option_map f o ≡ option_map g o
  each-way f g same None = refl
  each-way f g same (Some d) = ap Some (same d)

  pub way-same : (reach : Reach) (c : ℕ) (x : CellRef) → way_of (bare P) reach c x ≡ way_of P reach c x
  way-same reach c x =
      ap (option_map (λ d. shown_way (bare P) reach c d x)) (distance-same reach c x)
      ∙ each-way (λ d. shown_way (bare P) reach c d x) (λ d. shown_way P reach c d x) (λ d. ways-same P reach c d x) (distance_of P reach c x)

  -- Requests

  effects-in-same : (m : MethodRef) (p : Part) (id : Option ℕ) → changed (method_in (bare P) m (bare_part p) id) ≡ changed (method_in P m p id)
  effects-in-same m (Data1 start) id = plain-same P m.name (Data1 start) m.index
  effects-in-same m (Register start default scaler_unit) id = plain-same P m.name (Register start default scaler_unit) m.index
  effects-in-same m (ProfileGeneric captured period entries) id = plain-same P m.name (ProfileGeneric captured period entries) m.index
  effects-in-same m (Clock start) id = plain-same P m.name (Clock start) m.index
  effects-in-same m (ScriptTable scripts) None = refl
  effects-in-same m (ScriptTable scripts) (Some id) = script-same P scripts id
  effects-in-same m (RegisterMonitor monitored thresholds actions) id = plain-same P m.name (RegisterMonitor monitored thresholds actions) m.index
  effects-in-same m (SingleActionSchedule script type times) id = plain-same P m.name (SingleActionSchedule script type times) m.index

  executed-same : (m : MethodRef) (s : ℕ) → executed_changes (bare P) m s ≡ executed_changes P m s
  executed-same m s = ap (λ o. changed (for_some o (λ o. method_in (bare P) m o.part id))) (found-object P m.name) ∙ at (object_at P m.name)
    where
      id : Option ℕ
      id = script_number (Given (long_unsigned s))

      at : (o : Option Object) → changed (for_some (option_map bare_object o) (λ o. method_in (bare P) m o.part id)) ≡ changed (for_some o (λ o. method_in P m o.part id))
      at None = refl
      at (Some o) = effects-in-same m o.part id

  script-number : (s : Option Script) → option_map (λ s. s.id) (option_map bare_script s) ≡ option_map (λ s. s.id) s
  script-number None = refl
  script-number (Some s) = refl

  first-script-same : (m : MethodRef) (x : CellRef) (scripts : List Script) → first_script (bare P) m x (map bare_script scripts) ≡ first_script P m x scripts
  first-script-same m x scripts =
      ap (option_map (λ s. s.id)) (found-map bare_script (λ s. among (executed_changes (bare P) m s.id) x) (λ s. refl) scripts)
      ∙ (script-number (find (λ s. among (executed_changes (bare P) m s.id) x) scripts)
      ∙ ap (option_map (λ s. s.id)) (first-edge P (λ s. among (executed_changes (bare P) m s.id) x) (λ s. among (executed_changes P m s.id) x) (λ s. ap (λ ys. among ys x) (executed-same m s.id)) scripts))

  call-in-same : (x : CellRef) (m : MethodRef) (p : Part) → call_in (bare P) x m (bare_part p) ≡ call_in P x m p
  call-in-same x m (Data1 start) = refl
  call-in-same x m (Register start default scaler_unit) = refl
  call-in-same x m (ProfileGeneric captured period entries) = refl
  call-in-same x m (Clock start) = refl
  call-in-same x m (ScriptTable scripts) = ap (option_map (Execute m)) (first-script-same m x scripts)
  call-in-same x m (RegisterMonitor monitored thresholds actions) = refl
  call-in-same x m (SingleActionSchedule script type times) = refl

  call-at-same : (x : CellRef) (m : MethodRef) → option_and_then (λ o. call_in (bare P) x m o.part) (object_at (bare P) m.name) ≡ option_and_then (λ o. call_in P x m o.part) (object_at P m.name)
  call-at-same x m = ap (option_and_then (λ o. call_in (bare P) x m o.part)) (found-object P m.name) ∙ at (object_at P m.name)
    where
      at : (o : Option Object) → option_and_then (λ o. call_in (bare P) x m o.part) (option_map bare_object o) ≡ option_and_then (λ o. call_in P x m o.part) o
      at None = refl
      at (Some o) = call-in-same x m o.part

  each-call : (f g : MethodRef → Option GrantedRequest) → ((m : MethodRef) → f m ≡ g m) → (o : Option MethodRef) → option_and_then f o ≡ option_and_then g o
  each-call f g same None = refl
  each-call f g same (Some m) = same m

  first-call-same : (c : ℕ) (x : CellRef) → first_call (bare P) c x ≡ first_call P c x
  first-call-same c x =
      ap (option_and_then (λ m. option_and_then (λ o. call_in (bare P) x m o.part) (object_at (bare P) m.name)))
      (ap (find (calls_change (bare P) c x)) (methods-same P.objects)
      ∙ first-edge P (calls_change (bare P) c x) (calls_change P c x) (λ m. ap (λ ys. may_act P c m && among ys x) (method-changes-same P m)) (flat_map methods_of P.objects))
      ∙ each-call (λ m. option_and_then (λ o. call_in (bare P) x m o.part) (object_at (bare P) m.name)) (λ m. option_and_then (λ o. call_in P x m o.part) (object_at P m.name)) (call-at-same x)
      (find (calls_change P c x) (flat_map methods_of P.objects))

  pub request-same : (reach : Reach) (c : ℕ) (x : CellRef) → shown_request (bare P) reach c x ≡ shown_request P reach c x
  request-same Learn c x = refl
  request-same Influence c x = ap₂ or_call (ap (find (λ y. may_set P c y && among (changed_by_write y) x)) (cells-same P)) (first-call-same c x)
