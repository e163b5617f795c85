-- What the actions of scripts write and call is there.
use Rattle.std.proofs.Common.{◌≡◌, ℕ, ◌==◌, Bool, true, false, cond, not, List, [], ◌∷◌, map, length, refl, sym, ap, subst, ◌∙◌, Option, Some, None, eqb-true, eq-eqb, nat_le}
use Rattle.std.specs.Prelude.{option_map, option_and_then, ◌&&◌}
use Rattle.std.proofs.lemmas.Bool.{and_parts, and_from, or_parts, false≢true}
use Rattle.std.proofs.lemmas.List.{length-map}
use Rattle.std.specs.List.{list_all}
use Rattle.cosem_data.specs.Tree.{Tree, null_data}
use Rattle.cosem_data.specs.Equal.{same_tree, same_tree-true}
use Rattle.cosem_data.specs.Kinds.{kind_of, same_kind}
use Rattle.cosem_data.specs.declared.kind.Kind.{Kind}
use Rattle.cosem_data.specs.declared.kind.Kind.TheVariants.{Array, Structure, DoubleLongUnsigned}
use Rattle.cosem_data.specs.declared.cell.CellRef.{CellRef}
use Rattle.meter_theory.specs.Classes.{has_method, is_of_class}
use Rattle.meter_theory.specs.declared.classes.Class.TheVariants as classes
use Rattle.meter_theory.specs.Lists.{IsIn, some_passes}
use Rattle.meter_theory.specs.Menus.{Choice, alternatives, has_menu, capture_objects_value, script_ref_value}
use Rattle.cosem_data.specs.declared.cell.MethodRef.{MethodRef}
use Rattle.meter_theory.specs.State.{value}
use Rattle.meter_theory.specs.Value.{Rule, OfKind, Thresholds, ExecutionTimes, OneOf, meets, is_within_limits, elements}
use Rattle.meter_theory.specs.Times.{are_execution_times}
use Rattle.meter_theory.specs.Plan as theory
use Rattle.meter_theory.specs.Plan.{Script, Action, rule_of, rule_in, rule_of_choice, cells, class_of}
use Rattle.meter_theory.specs.Steps.{scripts_of}
use Rattle.meter_theory.specs.Sound.{IsWrite, has_plain_method, are_indexes, highest_method}
use Rattle.meter_theory.specs.declared.limits.TheConstants as limits
use Rattle.meter_theory.proofs.Lists.{from_map, any_in}
use Rattle.config_text.specs.declared.service.Service.{Service}
use Rattle.config_text.specs.declared.service.Service.TheVariants as services
use Rattle.config_text.specs.Parts.{Text, ConfigText, ObjectText, ActionText, ScriptText, BodyText, DataText, RegisterText, ProfileText, ClockText, ScriptTableText, MonitorText, ScheduleText, UnknownText}
use Rattle.config_rules.specs.Names.{object_named, class_named}
use Rattle.value_text.specs.Texts.{value_in}
use Rattle.config_rules.specs.Values.{kind_in, has_kind, kind_named}
use Rattle.config_rules.specs.Written.{is_one_of, may_stand, may_stand_at}
use Rattle.config_rules.specs.PlanOf.{captures_of, scripts_of as choice_of, part_of, plan_of, value_of, or_else, cell_named, method_named, up_down_of, script_of, action_of, parameter_of}
use Rattle.config_rules.specs.Passes as passes
use Rattle.config_rules.proofs.Nothing.{both_none, holds, not_faulty, each_ok}
use Rattle.config_rules.proofs.Passed.{each_action_ok, EachReference}
use Rattle.config_rules.proofs.Cells.{IsRight, IsTarget, settable_cell, rule_at}
use Rattle.config_rules.proofs.Starts.{IsStart, of_body, data_start, register_start}
use Rattle.config_rules.proofs.Scripts.{IsScript}
use Rattle.config_rules.proofs.Indexes.{method_of}
use Rattle.config_rules.proofs.Fits.{known_of, monitor_source}

chosen : (b : Bool) (r rule : Rule) → cond b (Some r) None ≡ Some rule → r ≡ rule
chosen true r rule h = cc
chosen false r rule h = cc

-- a choice's rule, where it has one
chosen_of : {A : Type 0} (kind : Kind) (value_of : A → Tree) (choice : Choice A) (rule : Rule) → rule_of_choice kind value_of choice ≡ Some rule →
    OneOf kind (map value_of (alternatives choice)) ≡ rule
chosen_of kind value_of choice rule h = chosen (has_menu choice) _ rule h

kind_meets : (k : Kind) (v : Tree) → same_kind (kind_of v) k ≡ true → is_within_limits v ≡ true → meets (OfKind k) v ≡ true
kind_meets k v kind limit = and_from (same_kind (kind_of v) k) (is_within_limits v && true) kind (and_from (is_within_limits v) true limit refl)

-- of the kind of a start value
start_meets : (text : Text) (v : Tree) → IsStart text → has_kind (kind_in text) v ≡ true → is_within_limits v ≡ true → meets (OfKind (kind_of (value_of text))) v ≡ true
start_meets text v w kind limit =
    subst (λ z. meets (OfKind (kind_of z)) v ≡ true) (sym w.2)
    (kind_meets (kind_of w.0) v (subst (λ r. has_kind (option_map kind_of r) v ≡ true) w.1 kind) limit)

-- one of the values of alternatives, which are all of a kind
choice_meets : {A : Type 0} (kind : Kind) (value_of : A → Tree) (choice : Choice A) → ((a : A) → same_kind (kind_of (value_of a)) kind ≡ true) →
    (v : Tree) → is_one_of (map value_of (alternatives choice)) v ≡ true → is_within_limits v ≡ true → meets (OneOf kind (map value_of (alternatives choice))) v ≡ true
choice_meets kind value_of choice kinds v among limit =
    let w = any_in (λ z. same_tree z v) (map value_of (alternatives choice)) among in
    let a = from_map value_of (alternatives choice) w.0 w.1 in
    let tag : same_kind (kind_of v) kind ≡ true = subst (λ z. same_kind (kind_of z) kind ≡ true) (sym a.2 ∙ same_tree-true w.0 v w.2) (kinds a.0) in
    and_from (same_kind (kind_of v) kind) _ tag (and_from (is_within_limits v) _ limit among)

-- a value at the index of a choice, or at that of another cell
at_index : {A : Type 0} (kind : Kind) (value_of : A → Tree) (choice : Choice A) (place : ℕ) (other : Rule) (stands : Bool) →
    ((a : A) → same_kind (kind_of (value_of a)) kind ≡ true) → (4 == place) ≡ false → (v : Tree) → is_within_limits v ≡ true → (stands ≡ true → meets other v ≡ true) →
    (index : ℕ) (rule : Rule) → cond (index == 4) (Some other) (cond (index == place) (rule_of_choice kind value_of choice) None) ≡ Some rule →
    cond (index == place) (is_one_of (map value_of (alternatives choice)) v) stands ≡ true → meets rule v ≡ true
at_index kind value_of choice place other stands kinds apart v limit meets_other index rule = at (index == 4) (index == place) refl refl
  where
    at : (b d : Bool) → (index == 4) ≡ b → (index == place) ≡ d → cond b (Some other) (cond d (rule_of_choice kind value_of choice) None) ≡ Some rule →
        cond d (is_one_of (map value_of (alternatives choice)) v) stands ≡ true → meets rule v ≡ true
    at true true p q h s =
        absurd (false≢true (sym apart ∙ (ap (λ n. n == place) (sym (eqb-true index 4 p)) ∙ q)))
    at true false p q h s = subst (λ r. meets r v ≡ true) (chosen true other rule h) (meets_other s)
    at false true p q h s = subst (λ r. meets r v ≡ true) (chosen_of kind value_of choice rule h) (choice_meets kind value_of choice kinds v s limit)
    at false false p q h s = cc

-- what may stand in a body, within the limits, meets the rule of its part
meets_rule : (c : ConfigText) → IsRight c → (o : ObjectText) → IsIn c.objects o → (body : BodyText) → o.body ≡ body → (index : ℕ) (rule : Rule) → rule_in (plan_of c) (part_of c body) index ≡ Some rule →
    (v : Tree) → may_stand c body index v ≡ true → is_within_limits v ≡ true → meets rule v ≡ true
meets_rule c ok o i (DataText text) is index rule h v stands limit =
    subst (λ r. meets r v ≡ true) (chosen (index == 2) _ rule h) (start_meets text v (data_start c ok o i text is) stands limit)
meets_rule c ok o i (RegisterText text default scaler unit) is index rule h v stands limit =
    subst (λ r. meets r v ≡ true) (chosen (index == 2) _ rule h) (start_meets text v (register_start c ok o i text default scaler unit is).0 stands limit)
meets_rule c ok o i (ProfileText captures period entries sort_method) is index rule h v stands limit =
    at_index Array capture_objects_value (captures_of c captures) 3 (OfKind DoubleLongUnsigned) (same_kind (kind_of v) DoubleLongUnsigned) (λ cells. refl) refl v limit
    (λ s. kind_meets DoubleLongUnsigned v s limit) index rule h stands
meets_rule c ok o i (ClockText time) is index rule h v stands limit =
    subst (λ r. meets r v ≡ true) (chosen (index == 2) _ rule h) stands
meets_rule c ok o i (ScriptTableText scripts) is index rule h v stands limit = cc
meets_rule c ok o i (MonitorText monitored ths actions) is index rule h v stands limit =
    let source = monitor_source c ok o i monitored ths actions is in
    let parts = and_parts (same_kind (kind_of v) Array) ((length (elements v) == length actions) && list_all (has_kind (kind_named c monitored.object)) (elements v)) stands in
    let rest = and_parts (length (elements v) == length actions) (list_all (has_kind (kind_named c monitored.object)) (elements v)) parts.1 in
    subst (λ r. meets r v ≡ true) (chosen (index == 2) _ rule h)
    (subst (λ z. meets (Thresholds (length (map up_down_of actions)) (kind_of z)) v ≡ true) (sym source.1.starts)
    (and_from (same_kind (kind_of v) Array) _ parts.0
    (and_from (is_within_limits v) _ limit
    (and_from (length (elements v) == length (map up_down_of actions)) _
    (eq-eqb (length (elements v)) (length (map up_down_of actions)) (eqb-true (length (elements v)) (length actions) rest.0 ∙ sym (length-map actions up_down_of)))
    (subst (λ k. list_all (has_kind k) (elements v) ≡ true) source.1.kind rest.1)))))
meets_rule c ok o i (ScheduleText script type times) is index rule h v stands limit =
    at_index Structure script_ref_value (choice_of script) 2 (ExecutionTimes type) (same_kind (kind_of v) Array && are_execution_times type (elements v)) (λ r. refl) refl v limit
    (λ s. let parts = and_parts (same_kind (kind_of v) Array) (are_execution_times type (elements v)) s in
    and_from (same_kind (kind_of v) Array) _ parts.0 (and_from (is_within_limits v) _ limit parts.1)) index rule h stands
meets_rule c ok o i UnknownText is index rule h v stands limit = cc

-- what the passes found of a script's action
pub record IsAction (c : ConfigText) (a : ActionText) : Type 0 where
  pub object : ObjectText
  pub target : IsTarget c a.target.object object
  pub index : (at : Text) × (passes.usable_action c a.service at a.target ≡ [])
  pub value : passes.action_value c a.service a.target a.value ≡ true
  pub plain : passes.executes c a ≡ false
  pub limit : passes.is_small (option_and_then value_in a.value) ≡ true

pub action_at : (c : ConfigText) → IsRight c → (o : ObjectText) → IsIn c.objects o → (scripts : List ScriptText) → o.body ≡ ScriptTableText scripts →
    (s : ScriptText) → IsIn scripts s → (a : ActionText) → IsIn s.actions a → IsAction c a
unfolding passes.usable_indexes passes.valid_values_in passes.limits_in passes.script_limits
action_at c ok o i scripts is s j a k =
    let refers = subst (EachReference (λ t. (p : ObjectText) × IsTarget c t.object p) (IsScript c)) is (known_of c ok o i) s j a k in
    let found = of_body c ok o i (ScriptTableText scripts) is in
    let few = both_none (passes.at_most _ limits.SCRIPTS _ scripts) _ found.limits.1 in
    let actions = both_none (passes.at_most _ limits.ACTIONS _ s.actions) _ (each_ok _ _ _ _ few.1 s j).1 in
    record {
      object = refers.0;
      target = refers.1;
      index = each_action_ok _ _ scripts found.indexes.1 s j a k;
      value = holds _ _ _ (each_action_ok _ _ scripts found.values.1 s j a k).1;
      plain = not_faulty _ _ _ (each_action_ok _ _ scripts found.executes.1 s j a k).1;
      limit = holds _ _ _ (each_ok _ _ _ _ actions.1 a k).1;
    }

-- the value that is written
pub record IsWritten (c : ConfigText) (a : ActionText) (o : ObjectText) (v : Tree) : Type 0 where
  pub stands : may_stand c o.body a.target.index v ≡ true
  pub limit : is_within_limits v ≡ true

pub written_value : (c : ConfigText) (a : ActionText) (o : ObjectText) → object_named c a.target.object ≡ Some o →
    passes.written_value c a.target (option_and_then value_in a.value) ≡ true → passes.is_small (option_and_then value_in a.value) ≡ true → IsWritten c a o (parameter_of a.value)
written_value c a o is written small = at a.value refl
  where
    at : (text : Option Text) → a.value ≡ text → IsWritten c a o (parameter_of a.value)
    at None e = let h : false ≡ true = subst (λ r. passes.written_value c a.target (option_and_then value_in r) ≡ true) e written in absurd (false≢true h)
    at (Some text) e =
        there (value_in text) refl (subst (λ r. passes.written_value c a.target (option_and_then value_in r) ≡ true) e written)
        (subst (λ r. passes.is_small (option_and_then value_in r) ≡ true) e small)
      where
        there : (r : Option Tree) → value_in text ≡ r → passes.written_value c a.target (value_in text) ≡ true → passes.is_small (value_in text) ≡ true → IsWritten c a o (parameter_of a.value)
        there None q w l = let h : false ≡ true = subst (λ z. passes.written_value c a.target z ≡ true) q w in absurd (false≢true h)
        there (Some v) q w l =
            let same : parameter_of a.value ≡ v = ap parameter_of e ∙ ap (or_else null_data) q in
            subst (IsWritten c a o) (sym same) (record {
              stands = subst (λ r. may_stand_at c r a.target.index v ≡ true) is (subst (λ z. passes.written_value c a.target z ≡ true) q w);
              limit = subst (λ z. passes.is_small z ≡ true) q l;
            })

-- a script's action that writes
action_writes : (c : ConfigText) → IsRight c → (a : ActionText) → IsAction c a → (service : Service) → a.service ≡ service → (x : CellRef) (v : Tree) →
    theory.Write x v ≡ action_of c service a.target a.value → IsWrite (plan_of c) x v
action_writes c ok a act services.Invoke is x v e = cc
action_writes c ok a act services.Write is x v e =
    let index = subst (λ s. passes.usable_action c s act.index.0 a.target ≡ []) is act.index.1 in
    let place = settable_cell c ok a.target act.object act.target (holds _ _ _ index) in
    let written = written_value c a act.object act.target.is (subst (λ s. passes.action_value c s a.target a.value ≡ true) is act.value) act.limit in
    let cell_is : x ≡ cell_named c a.target = cc in
    let value_is : v ≡ parameter_of a.value = cc in
    record {
      cell = subst (IsIn (cells (plan_of c))) (sym cell_is) place.0;
      rule = place.1.0;
      settable = ap (rule_of (plan_of c)) cell_is ∙ place.1.1;
      fits = subst (λ z. meets place.1.0 z ≡ true) (sym value_is)
          (meets_rule c ok act.object act.target.there act.object.body refl a.target.index place.1.0 (sym (rule_at c a.target.object act.object act.target a.target.index) ∙ place.1.1)
          (parameter_of a.value) written.stands written.limit);
    }

-- a script's action that calls: a method of its object, which executes no script
action_calls : (c : ConfigText) (a : ActionText) → IsAction c a → (service : Service) → a.service ≡ service → (m : MethodRef) (v : Tree) →
    theory.Invoke m v ≡ action_of c service a.target a.value → has_plain_method (plan_of c) m ≡ true
action_calls c a act services.Write is m v e = cc
action_calls c a act services.Invoke is m v e =
    let index = subst (λ s. passes.usable_action c s act.index.0 a.target ≡ []) is act.index.1 in
    let method : has_method (class_named c a.target.object) a.target.index ≡ true = holds _ _ _ index in
    let plain : (class_named c a.target.object == 9) ≡ false =
    (or_parts (class_named c a.target.object == 9) false
    (subst (λ s. (passes.is_invoke s && is_of_class (class_named c a.target.object) classes.ScriptTable) ≡ false) is act.plain)).0 in
    let there = method_of (part_of c act.object.body) a.target.index (subst (λ k. has_method k a.target.index ≡ true) act.target.class method) in
    let method_is : m ≡ method_named c a.target = cc in
    subst (λ z. has_plain_method (plan_of c) z ≡ true) (sym method_is)
    (subst (λ found. some_passes (λ o. (class_of o.part == class_named c a.target.object)
    && (not (class_named c a.target.object == 9) && are_indexes (highest_method o.part) (a.target.index ∷ []))) found ≡ true) (sym act.target.planned)
    (and_from (class_of (part_of c act.object.body) == class_named c a.target.object) _ (eq-eqb (class_of (part_of c act.object.body)) (class_named c a.target.object) (sym act.target.class))
    (and_from (not (class_named c a.target.object == 9)) _ (ap not plain)
    (and_from (nat_le 1 a.target.index && nat_le a.target.index (highest_method (part_of c act.object.body))) true there refl))))

-- an action of a script of the plan
action_of_plan : (c : ConfigText) → IsRight c → (o : ObjectText) → IsIn c.objects o → (body : BodyText) → o.body ≡ body → (script : Script) → IsIn (scripts_of (part_of c body)) script →
    (action : Action) → IsIn script.actions action → (a : ActionText) × IsAction c a × (action ≡ action_of c a.service a.target a.value)
action_of_plan c ok o i (DataText value) is script j action k = absurd j
action_of_plan c ok o i (RegisterText value default scaler unit) is script j action k = absurd j
action_of_plan c ok o i (ProfileText captures period entries sort_method) is script j action k = absurd j
action_of_plan c ok o i (ClockText time) is script j action k = absurd j
action_of_plan c ok o i (ScriptTableText scripts) is script j action k =
    let s = from_map (script_of c) scripts script j in
    let a = from_map (λ z. action_of c z.service z.target z.value) s.0.actions action (subst (λ z. IsIn z.actions action) s.2 k) in
    (a.0, action_at c ok o i scripts is s.0 s.1 a.0 a.1, a.2)
action_of_plan c ok o i (MonitorText monitored ths actions) is script j action k = absurd j
action_of_plan c ok o i (ScheduleText r type times) is script j action k = absurd j
action_of_plan c ok o i UnknownText is script j action k = absurd j

pub writes : (c : ConfigText) → IsRight c → (o : ObjectText) → IsIn c.objects o → (script : Script) → IsIn (scripts_of (part_of c o.body)) script →
    (x : CellRef) (v : Tree) → IsIn script.actions (theory.Write x v) → IsWrite (plan_of c) x v
writes c ok o i script j x v k = let a = action_of_plan c ok o i o.body refl script j (theory.Write x v) k in action_writes c ok a.0 a.1 a.0.service refl x v a.2

pub calls : (c : ConfigText) → IsRight c → (o : ObjectText) → IsIn c.objects o → (script : Script) → IsIn (scripts_of (part_of c o.body)) script →
    (m : MethodRef) (v : Tree) → IsIn script.actions (theory.Invoke m v) → has_plain_method (plan_of c) m ≡ true
calls c ok o i script j m v k = let a = action_of_plan c ok o i o.body refl script j (theory.Invoke m v) k in action_calls c a.0 a.1 a.0.service refl m v a.2
