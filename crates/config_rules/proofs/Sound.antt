-- The plan of a configuration in which the passes find nothing is sound.
use Rattle.std.proofs.Common.{◌≡◌, ◌⊎◌, ℕ, ◌==◌, Bool, true, false, not, List, [], ◌∷◌, map, length, refl, sym, ap, subst, ◌∙◌, inl, inr, Option, Some, None, is_some, eq-eqb, nat_lt, nat_le, leb-true, Ok}
use Rattle.std.specs.Prelude.{option_and_then, ◌&&◌, ◌||◌}
use Rattle.std.proofs.lemmas.Bool.{or_cases, and_parts, and_from, false≢true}
use Rattle.std.specs.List.{list_all}
use Rattle.cosem_data.specs.Tree.{Tree, null_data}
use Rattle.cosem_data.specs.Kinds.{kind_of}
use Rattle.cosem_data.specs.Cells.{cell, same_name}
use Rattle.cosem_data.specs.declared.cell.CellRef.{CellRef}
use Rattle.meter_theory.specs.Classes.{is_known, is_of_class, is_settable, is_capturable, may_be_fed}
use Rattle.meter_theory.specs.declared.classes.Class.TheVariants as classes
use Rattle.meter_theory.specs.ClientNames.{may_be_named}
use Rattle.meter_theory.specs.Lists.{IsIn, AreDistinct}
use Rattle.meter_theory.specs.Menus.{alternatives}
use Rattle.meter_theory.specs.declared.refs.ScriptRef.{ScriptRef}
use Rattle.meter_theory.specs.State.{value}
use Rattle.meter_theory.specs.Value.{OfKind, counter, is_within_limits}
use Rattle.meter_theory.specs.Plan.{start_of, cells, entries_in_use, class_of, association_name}
use Rattle.meter_theory.specs.Steps.{scripts_of, Captures, captures_in}
use Rattle.meter_theory.specs.Sound.{IsSound, IsCapturable, IsSoundPart, is_name, has_action_sizes, has_script_sizes, has_capture_sizes, has_part_sizes, has_sizes, has_ranges, has_sap, is_password_or_none, has_script, is_right, sets_cells, has_numbers, scripts_run_by, HasOwnAlternatives}
use Rattle.meter_theory.specs.declared.limits.TheConstants as limits
use Rattle.meter_theory.proofs.Menus.{in_count}
use Rattle.meter_theory.proofs.Rights.{cell_of_found}
use Rattle.meter_theory.specs.Edges.{captured_by}
use Rattle.meter_theory.proofs.Lists.{in_map, from_map, from_flat_map}
use Rattle.config_text.specs.declared.service.Service.{Service}
use Rattle.config_text.specs.declared.service.Service.TheVariants as services
use Rattle.config_text.specs.Fault.{fault_where}
use Rattle.config_text.specs.Parts.{Text, ConfigText, ClientText, ObjectText, TargetText, ActionText, UpDownText, BodyText, DataText, RegisterText, ProfileText, ClockText, ScriptTableText, MonitorText, ScheduleText, UnknownText}
use Rattle.config_rules.specs.Names.{target_is, class_named, menu_in}
use Rattle.value_text.specs.Texts.{value_in}
use Rattle.config_rules.specs.PlanOf.{cells_named, captures_of, part_of, object_of, plan_of, name_of, value_of, or_else, cell_named, up_down_of, script_of, action_of, parameter_of, thresholds_value, right_of, client_of, script_named}
use Rattle.config_rules.specs.Read.{IsRead, is_body_of, may_have}
use Rattle.config_rules.specs.Passes as passes
use Rattle.config_rules.specs.Passes.{judged}
use Rattle.config_rules.proofs.Nothing.{both_none, holds, each_ok}
use Rattle.config_rules.proofs.Passed.{each_capture_ok, alternatives_in, EachReference, passed, limits_parts}
use Rattle.config_rules.proofs.Named.{IsName, client_names_new, saps_new, names_apart, plan_names}
use Rattle.config_rules.proofs.Cells.{IsRight, IsTarget, right, settable_cell, only_place}
use Rattle.config_rules.proofs.Clocks.{moment_there}
use Rattle.config_rules.proofs.Starts.{of_body, register_start}
use Rattle.config_rules.proofs.Scripts.{IsScript, script_numbers}
use Rattle.config_rules.proofs.Actions.{IsAction, action_at, written_value, writes, calls}
use Rattle.config_rules.proofs.Rights.{right_is, right_sets}
use Rattle.config_rules.proofs.Sizes.{at_most_ok, few_of_map, each_of_map, six, profile_sizes, schedule_sizes}
use Rattle.config_rules.proofs.Fits.{known_of, monitor_source, starts}
use Rattle.config_rules.proofs.Objects.{known_class, fed_of_class, ranges_of, numbers_of}
use Rattle.config_rules.proofs.Alternatives.{own_alternatives}
use Rattle.config_rules.proofs.NoMenus.{no_menus}
use Rattle.config_rules.proofs.OneClock.{one_clock_at_most}

-- Captures

-- the entries in use of a profile, named by a target
in_use : (c : ConfigText) (t : TargetText) (o : ObjectText) → IsTarget c t.object o → 7 ≡ class_named c t.object → 7 ≡ t.index →
    IsIn (cells (plan_of c)) (cell_named c t) × IsCapturable (plan_of c) (cell_named c t)
in_use c t o target class index = at o.body refl
  where
    named : cell_named c t ≡ entries_in_use (name_of o.name)
    named k = cell (sym class k) (name_of (sym target.name k)) (sym index k)

    planned : IsIn (plan_of c).objects (object_of c o)
    planned = in_map (object_of c) c.objects o target.there

    other : {A : Type 0} (n : ℕ) → (7 == n) ≡ false → 7 ≡ n → A
    other n apart e = absurd (false≢true (sym apart ∙ eq-eqb 7 n e))

    class_at : (body : BodyText) → o.body ≡ body → 7 ≡ class_of (part_of c body)
    class_at body is = class ∙ (target.class ∙ ap (λ b. class_of (part_of c b)) is)

    at : (body : BodyText) → o.body ≡ body → IsIn (cells (plan_of c)) (cell_named c t) × IsCapturable (plan_of c) (cell_named c t)
    at (DataText value) is = other 1 refl (class_at (DataText value) is)
    at (RegisterText value default scaler unit) is = other 3 refl (class_at (RegisterText value default scaler unit) is)
    at (ProfileText captures period entries sort_method) is =
        let there : IsIn {A = CellRef × Tree} (start_of (name_of t.object) (part_of c o.body)) (entries_in_use (name_of t.object), counter 0) =
        subst (λ b. IsIn {A = CellRef × Tree} (start_of (name_of t.object) (part_of c b)) (entries_in_use (name_of t.object), counter 0)) (sym is)
        (in_count (name_of t.object) (captures_of c captures) period entries) in
        let same : entries_in_use (name_of t.object) ≡ cell_named c t = λ k. cell (class k) (name_of t.object) (index k) in (
          subst (IsIn (cells (plan_of c))) same (cell_of_found (plan_of c) (name_of t.object) (object_of c o) target.planned (entries_in_use (name_of t.object)) (counter 0) there),
          inr (object_of c o, planned, _, ap (λ b. captures_in (part_of c b)) is, named),
        )
    at (ClockText time) is = other 8 refl (class_at (ClockText time) is)
    at (ScriptTableText scripts) is = other 9 refl (class_at (ScriptTableText scripts) is)
    at (MonitorText monitored ths actions) is = other 21 refl (class_at (MonitorText monitored ths actions) is)
    at (ScheduleText script type times) is = other 22 refl (class_at (ScheduleText script type times) is)
    at UnknownText is = other 9 refl (class_at UnknownText is)

-- what is capturable by the table of the classes is settable, or the entries in use of a profile
capturable_body : (c : ConfigText) (index : ℕ) (body : BodyText) → is_capturable (class_of (part_of c body)) index ≡ true →
    (is_settable (class_of (part_of c body)) index ≡ true) ⊎ ((7 ≡ class_of (part_of c body)) × (7 ≡ index))
capturable_body c index (DataText value) h = inl h
capturable_body c index (RegisterText value default scaler unit) h = inl h
capturable_body c index (ProfileText captures period entries sort_method) h =
    elim (or_cases (index == 4) ((index == 7) || false) h) [ inl e ↦ inl (ap (λ b. b || false) e) | inr e ↦ inr (refl, sym (only_place 7 index e)) ]
capturable_body c index (ClockText time) h = inl h
capturable_body c index (ScriptTableText scripts) h = absurd (false≢true h)
capturable_body c index (MonitorText monitored thresholds actions) h = inl h
capturable_body c index (ScheduleText script type times) h = inl h
capturable_body c index UnknownText h = absurd (false≢true h)

or_left : (b more : Bool) → b ≡ true → (b || more) ≡ true
or_left b more h = ap (λ z. z || more) h

captured_cell : (c : ConfigText) → IsRight c → (t : TargetText) (o : ObjectText) → IsTarget c t.object o → target_is c is_capturable t ≡ true →
    IsIn (cells (plan_of c)) (cell_named c t) × IsCapturable (plan_of c) (cell_named c t)
captured_cell c ok t o target h =
    elim (capturable_body c t.index o.body (subst (λ k. is_capturable k t.index ≡ true) target.class h)) [
      | inl e ↦ let s = settable_cell c ok t o target (or_left _ _ (subst (λ k. is_settable k t.index ≡ true) (sym target.class) e)) in (s.0, inl s.1)
      | inr e ↦ in_use c t o target (e.0 ∙ sym target.class) e.1
    ]

-- a target that a profile captures
abbrev IsCapture : ConfigText → CellRef → Type 0
IsCapture c x = (t : TargetText) × (o : ObjectText) × IsTarget c t.object o × (target_is c is_capturable t ≡ true) × (x ≡ cell_named c t)

captured_target : (c : ConfigText) → IsRight c → (o : ObjectText) → IsIn c.objects o → (body : BodyText) → o.body ≡ body → (taken : Captures) → captures_in (part_of c body) ≡ Some taken →
    (x : CellRef) → IsIn (captured_by taken.captured) x → IsCapture c x
unfolding passes.usable_indexes
captured_target c ok o i (DataText value) is taken e x j = cc
captured_target c ok o i (RegisterText value default scaler unit) is taken e x j = cc
captured_target c ok o i (ProfileText all period entries sort_method) is taken e x j =
    let own : Captures = record { captured = captures_of c all; entries = entries } in
    let same : own ≡ taken = cc in
    let cells_of = from_flat_map (λ ys. ys) (alternatives (captures_of c all)) x (subst (λ z. IsIn (captured_by z.captured) x) (sym same) j) in
    let texts = from_map (cells_named c) (alternatives_in all) cells_of.0 cells_of.1 in
    let y = from_map (λ z. cell_named c z.target) texts.0 x (subst (λ ys. IsIn ys x) texts.2 cells_of.2) in
    let refers = subst (EachReference (λ t. (p : ObjectText) × IsTarget c t.object p) (IsScript c)) is (known_of c ok o i) texts.0 texts.1 y.0 y.1 in
    let index = each_capture_ok _ _ all (of_body c ok o i (ProfileText all period entries sort_method) is).indexes.1 texts.0 texts.1 y.0 y.1 in
    (y.0.target, refers.0, refers.1, holds _ _ _ index.1, y.2)
captured_target c ok o i (ClockText time) is taken e x j = cc
captured_target c ok o i (ScriptTableText scripts) is taken e x j = cc
captured_target c ok o i (MonitorText monitored ths actions) is taken e x j = cc
captured_target c ok o i (ScheduleText script type times) is taken e x j = cc
captured_target c ok o i UnknownText is taken e x j = cc

captures : (c : ConfigText) → IsRight c → (x : CellRef) → IsCapture c x → IsIn (cells (plan_of c)) x × IsCapturable (plan_of c) x
captures c ok x t =
    let r = captured_cell c ok t.0 t.1 t.2 t.3 in
    (subst (IsIn (cells (plan_of c))) (sym t.4) r.0, subst (IsCapturable (plan_of c)) (sym t.4) r.1)

-- References

-- what monitors and schedules have run is there
scripts_run : (c : ConfigText) → IsRight c → (o : ObjectText) → IsIn c.objects o → (body : BodyText) → o.body ≡ body → (r : ScriptRef) → IsIn (scripts_run_by (part_of c body)) r →
    has_script (plan_of c) r ≡ true
scripts_run c ok o i (DataText value) is r j = absurd j
scripts_run c ok o i (RegisterText value default scaler unit) is r j = absurd j
scripts_run c ok o i (ProfileText captures period entries sort_method) is r j = absurd j
scripts_run c ok o i (ClockText time) is r j = absurd j
scripts_run c ok o i (ScriptTableText scripts) is r j = absurd j
scripts_run c ok o i (MonitorText monitored ths actions) is r j =
    let refers = subst (EachReference (λ t. (p : ObjectText) × IsTarget c t.object p) (IsScript c)) is (known_of c ok o i) in
    let up_down = from_flat_map (λ z. z.up ∷ z.down ∷ []) (map up_down_of actions) r j in
    let a = from_map up_down_of actions up_down.0 up_down.1 in
    one a.0 (refers.1 a.0 a.1) (subst (λ z. IsIn (z.up ∷ z.down ∷ []) r) a.2 up_down.2)
  where
    one : (a : UpDownText) → IsScript c a.up × IsScript c a.down → IsIn (script_named a.up ∷ script_named a.down ∷ []) r → has_script (plan_of c) r ≡ true
    one a both (inl e) = subst (λ z. has_script (plan_of c) z ≡ true) (sym e) both.0
    one a both (inr (inl e)) = subst (λ z. has_script (plan_of c) z ≡ true) (sym e) both.1
    one a both (inr (inr none)) = absurd none
scripts_run c ok o i (ScheduleText script type times) is r j =
    let text = from_map script_named (alternatives_in script) r j in
    subst (λ z. has_script (plan_of c) z ≡ true) (sym text.2)
    (subst (EachReference (λ t. (p : ObjectText) × IsTarget c t.object p) (IsScript c)) is (known_of c ok o i) text.0 text.1)
scripts_run c ok o i UnknownText is r j = absurd j

-- Parts

sound_part : (c : ConfigText) → IsRight c → (o : ObjectText) → IsIn c.objects o → (body : BodyText) → o.body ≡ body → IsSoundPart (plan_of c) (part_of c body)
sound_part c ok o i (DataText value) is = tt
sound_part c ok o i (RegisterText value default scaler unit) is = (register_start c ok o i value default scaler unit is).1
sound_part c ok o i (ProfileText captures period entries sort_method) is = tt
sound_part c ok o i (ClockText time) is = moment_there time
sound_part c ok o i (ScriptTableText scripts) is = tt
sound_part c ok o i (MonitorText monitored ths actions) is =
    let source = monitor_source c ok o i monitored ths actions is in
    (source.1.cell, source.1.rule ∙ ap (λ v. Some (OfKind (kind_of v))) (sym source.1.starts))
sound_part c ok o i (ScheduleText script type times) is = tt
sound_part c ok o i UnknownText is = tt

-- Sizes

-- the value of an action keeps within the limits
small_parameter : (value : Option Text) → ((text : Text) → value ≡ Some text → is_some (value_in text) ≡ true) → passes.is_small (option_and_then value_in value) ≡ true →
    is_within_limits (parameter_of value) ≡ true
small_parameter None h small = refl
small_parameter (Some text) h small = at (value_in text) refl (h text refl) small
  where
    at : (r : Option Tree) → value_in text ≡ r → is_some r ≡ true → passes.is_small (value_in text) ≡ true → is_within_limits (value_of text) ≡ true
    at None e s l = cc
    at (Some v) e s l = subst (λ z. is_within_limits z ≡ true) (sym (ap (or_else null_data) e)) (subst (λ z. passes.is_small z ≡ true) e l)

action_sizes : (c : ConfigText) (a : ActionText) → IsAction c a → IsName a.target.object → (service : Service) → a.service ≡ service →
    has_action_sizes (action_of c service a.target a.value) ≡ true
action_sizes c a act name services.Write is =
    let written = written_value c a act.object act.target.is (subst (λ s. passes.action_value c s a.target a.value ≡ true) is act.value) act.limit in
    and_from (is_name (name_of a.target.object)) (is_within_limits (parameter_of a.value)) (six a.target.object name) written.limit
action_sizes c a act name services.Invoke is =
    and_from (is_name (name_of a.target.object)) (is_within_limits (parameter_of a.value)) (six a.target.object name)
    (small_parameter a.value (λ text e. subst (λ v. passes.action_value c services.Invoke a.target v ≡ true) e (subst (λ s. passes.action_value c s a.target a.value ≡ true) is act.value)) act.limit)

part_sizes : (c : ConfigText) → IsRight c → (o : ObjectText) → IsIn c.objects o → (body : BodyText) → o.body ≡ body → has_part_sizes (part_of c body) ≡ true
unfolding passes.limits_in passes.script_limits
part_sizes c ok o i (DataText value) is = refl
part_sizes c ok o i (RegisterText value default scaler unit) is = refl
part_sizes c ok o i (ProfileText all period entries sort_method) is =
    let sizes = profile_sizes c ok o i all period entries sort_method is in
    let body = (and_parts (is_of_class o.class classes.ProfileGeneric) _ (subst (λ b. is_body_of c.version o.class b ≡ true) is (ok.read.bodies o i))).1 in
    let one = (and_parts (nat_le 1 entries) (may_have c.version all) body).0 in
    and_from (nat_le (length (map (cells_named c) (menu_in all))) limits.MENU) _ sizes.few
    (and_from (list_all has_capture_sizes (alternatives (captures_of c all))) _ (each_of_map has_capture_sizes (cells_named c) (alternatives_in all) sizes.each)
    (and_from (nat_le 1 entries) (nat_le entries limits.PROFILE_ENTRIES) one sizes.kept))
part_sizes c ok o i (ClockText time) is = refl
part_sizes c ok o i (ScriptTableText scripts) is =
    let names = subst (EachReference (λ t. IsName t.object) (λ r. IsName r.table)) is (ok.names.references o i) in
    let few = both_none (passes.at_most _ limits.SCRIPTS _ scripts) _ (of_body c ok o i (ScriptTableText scripts) is).limits.1 in
    and_from (nat_le (length (map (script_of c) scripts)) limits.SCRIPTS) (list_all has_script_sizes (map (script_of c) scripts)) (few_of_map (script_of c) limits.SCRIPTS scripts (at_most_ok _ _ _ scripts few.0))
    (each_of_map has_script_sizes (script_of c) scripts (λ s j.
    let actions = both_none (passes.at_most _ limits.ACTIONS _ s.actions) _ (each_ok _ _ _ _ few.1 s j).1 in
    and_from (nat_le (length (map (λ a. action_of c a.service a.target a.value) s.actions)) limits.ACTIONS) _ (few_of_map (λ a. action_of c a.service a.target a.value) limits.ACTIONS s.actions (at_most_ok _ _ _ s.actions actions.0))
    (each_of_map has_action_sizes (λ a. action_of c a.service a.target a.value) s.actions (λ a k.
    action_sizes c a (action_at c ok o i scripts is s j a k) (names s j a k) a.service refl))))
part_sizes c ok o i (MonitorText monitored ths actions) is =
    let names = subst (EachReference (λ t. IsName t.object) (λ r. IsName r.table)) is (ok.names.references o i) in
    let few = both_none (fault_where _ _ (nat_lt limits.THRESHOLDS (length ths) || not (is_within_limits (thresholds_value ths)))) _ (of_body c ok o i (MonitorText monitored ths actions) is).limits.1 in
    and_from (is_name (name_of monitored.object)) _ (six monitored.object names.0)
    (and_from (nat_le (length (map up_down_of actions)) limits.THRESHOLDS) _ (few_of_map up_down_of limits.THRESHOLDS actions (at_most_ok _ _ _ actions few.1))
    (each_of_map (λ a. is_name a.up.table && is_name a.down.table) up_down_of actions (λ a j.
    and_from (is_name (name_of a.up.table)) (is_name (name_of a.down.table)) (six a.up.table (names.1 a j).0) (six a.down.table (names.1 a j).1))))
part_sizes c ok o i (ScheduleText script type times) is =
    let sizes = schedule_sizes c ok o i script type times is in
    and_from (nat_le (length (map script_named (menu_in script))) limits.MENU) _ sizes.few
    (each_of_map (λ r. is_name r.table) script_named (alternatives_in script) sizes.each)
part_sizes c ok o i UnknownText is = refl

-- The whole

-- the configuration's own limits
few : (c : ConfigText) → IsRight c → (nat_le (length c.clients) limits.CLIENTS ≡ true) × (nat_le (length c.objects) limits.OBJECTS ≡ true)
few c ok =
    let parts = limits_parts c ok.judged.limits in
    (at_most_ok _ _ _ c.clients parts.0, at_most_ok _ _ _ c.objects parts.1)

-- a plan's clients have the names of the configuration's, and their service access points
names_of_clients : (clients : List ClientText) → map (λ client. client.name) (map client_of clients) ≡ map (λ client. client.name) clients
names_of_clients [] = refl
names_of_clients (client ∷ clients) = ap (λ names. client.name ∷ names) (names_of_clients clients)

saps_of_clients : (clients : List ClientText) → map (λ client. client.sap) (map client_of clients) ≡ map (λ client. client.sap) clients
saps_of_clients [] = refl
saps_of_clients (client ∷ clients) = ap (λ saps. client.sap ∷ saps) (saps_of_clients clients)

-- The plan of a configuration without a fault is sound.
pub plan_is_sound : (c : ConfigText) → IsRead c → judged c ≡ Ok tt → IsSound (plan_of c)
plan_is_sound c read h = record {
  version = read.version;
  names = plan_names c ok.names ok.new;
  apart = λ o i. let p = from_map (object_of c) c.objects o i in
      subst (λ z. same_name z.name association_name ≡ false) (sym p.2) (names_apart c ok.names ok.judged.objects p.0 p.1);
  classes = λ o i. let p = from_map (object_of c) c.objects o i in
      subst (λ z. is_known c.version (class_of z.part) ≡ true) (sym p.2) (known_class c ok p.0 p.1);
  few_clients = leb-true (length (map client_of c.clients)) limits.CLIENTS (few_of_map client_of limits.CLIENTS c.clients (few c ok).0);
  few_objects = leb-true (length (map (object_of c) c.objects)) limits.OBJECTS (few_of_map (object_of c) limits.OBJECTS c.objects (few c ok).1);
  sizes = λ o i. let p = from_map (object_of c) c.objects o i in
      subst (λ z. has_sizes z ≡ true) (sym p.2)
      (and_from (is_name (name_of p.0.name)) (has_part_sizes (part_of c p.0.body)) (six p.0.name (ok.names.objects p.0 p.1)) (part_sizes c ok p.0 p.1 p.0.body refl));
  ranges = λ o i. let p = from_map (object_of c) c.objects o i in
      subst (λ z. has_ranges z.part ≡ true) (sym p.2) (ranges_of c p.0.body (read.ranges p.0 p.1));
  saps = λ client i. let p = from_map client_of c.clients client i in subst (λ z. has_sap z ≡ true) (sym p.2) (read.saps p.0 p.1);
  saps_apart = subst AreDistinct (sym (saps_of_clients c.clients)) (saps_new c ok.judged.access);
  client_names = λ client i. let p = from_map client_of c.clients client i in
      subst (λ z. may_be_named c.version z.name ≡ true) (sym p.2) (ok.names.clients p.0 p.1);
  clients_apart = subst AreDistinct (sym (names_of_clients c.clients)) (client_names_new c ok.judged.access);
  passwords = λ client i. let p = from_map client_of c.clients client i in
      subst (λ z. is_password_or_none z.password ≡ true) (sym p.2) (read.passwords p.0 p.1);
  rights = λ r i. let p = from_map (right_of c) c.rights r i in
      subst (λ z. is_right (plan_of c) z ≡ true) (sym p.2) (right_is c ok p.0 p.1);
  sets = λ r i. let p = from_map (right_of c) c.rights r i in
      subst (λ z. sets_cells (plan_of c) z ≡ true) (sym p.2) (right_sets c ok p.0 p.1);
  inputs = λ o i fed. let p = from_map (object_of c) c.objects o i in
      subst (λ z. may_be_fed (class_of z.part) ≡ true) (sym p.2) (fed_of_class c ok p.0 p.1 (ap (λ z. z.fed) (sym p.2) ∙ fed));
  starts = starts c ok;
  numbers = λ o i. let p = from_map (object_of c) c.objects o i in
      subst (λ z. has_numbers (plan_of c) z.part ≡ true) (sym p.2) (numbers_of c ok p.0 p.1 p.0.body refl);
  writes = λ o i script j x v k. let p = from_map (object_of c) c.objects o i in
      writes c ok p.0 p.1 script (subst (λ z. IsIn (scripts_of z.part) script) p.2 j) x v k;
  calls = λ o i script j m v k. let p = from_map (object_of c) c.objects o i in
      calls c ok p.0 p.1 script (subst (λ z. IsIn (scripts_of z.part) script) p.2 j) m v k;
  scripts = λ o i. let p = from_map (object_of c) c.objects o i in
      subst (λ z. AreDistinct (0 ∷ map (λ s. s.id) (scripts_of z.part))) (sym p.2) (script_numbers c ok p.0 p.1);
  references = λ o i r j. let p = from_map (object_of c) c.objects o i in
      scripts_run c ok p.0 p.1 p.0.body refl r (subst (λ z. IsIn (scripts_run_by z.part) r) p.2 j);
  captures = λ o i taken is x j. let p = from_map (object_of c) c.objects o i in
      captures c ok x (captured_target c ok p.0 p.1 p.0.body refl taken (sym (ap (λ z. captures_in z.part) p.2) ∙ is) x j);
  capturable = λ o i taken is x j. let p = from_map (object_of c) c.objects o i in
      let t = captured_target c ok p.0 p.1 p.0.body refl taken (sym (ap (λ z. captures_in z.part) p.2) ∙ is) x j in
      subst (λ y. is_capturable y.class_id y.index ≡ true) (sym t.4) t.3;
  parts = λ o i. let p = from_map (object_of c) c.objects o i in
      subst (λ z. IsSoundPart (plan_of c) z.part) (sym p.2) (sound_part c ok p.0 p.1 p.0.body refl);
  alternatives = λ o i. let p = from_map (object_of c) c.objects o i in
      subst (λ z. HasOwnAlternatives z.part) (sym p.2) (own_alternatives c ok p.0 p.1 p.0.body refl);
  menus_since = no_menus c read;
  one_clock = one_clock_at_most c read h;
}
  where
    ok : IsRight c
    ok = right c read (passed c h)
