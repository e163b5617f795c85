-- The cells that a configuration names are cells of its plan, with their rules.
use Rattle.std.proofs.Common.{◌≡◌, ℕ, ◌==◌, Bool, true, false, cond, not, List, [], ◌∷◌, map, length, nat_lt, refl, sym, ap, subst, ◌∙◌, inl, inr, Option, Some, None, is_some, eqb-true, eq-eqb, ◌++◌}
use Rattle.std.specs.Prelude.{◌||◌, ◌&&◌, option_map, option_and_then, codes}
use Rattle.std.specs.Option.{unwrap_or}
use Rattle.std.proofs.lemmas.Bool.{or_cases, and_parts, cond-true, false≢true, not-true}
use Rattle.cosem_data.specs.Tree.{Tree}
use Rattle.cosem_data.specs.Cells.{cell}
use Rattle.cosem_data.specs.declared.name.LogicalName.{LogicalName}
use Rattle.cosem_data.specs.declared.kind.Kind.TheVariants.{Array, Structure}
use Rattle.meter_theory.specs.Classes.{is_known, is_of_class, is_settable, is_choice}
use Rattle.meter_theory.specs.declared.classes.Class.TheVariants as classes
use Rattle.meter_theory.specs.Lists.{IsIn}
use Rattle.meter_theory.specs.Menus.{alternatives, has_any, capture_objects_value, script_ref_value}
use Rattle.meter_theory.specs.Value.{Rule, OneOf, is_within_limits}
use Rattle.meter_theory.specs.Plan.{Plan, start_of, rule_in, rule_of, class_of, cells, object_at, part_has_menu}
use Rattle.meter_theory.specs.declared.limits.TheConstants as limits
use Rattle.meter_theory.proofs.Menus.{in_menu, in_period, in_script, in_times}
use Rattle.meter_theory.proofs.Rights.{cell_of_found}
use Rattle.config_text.specs.Parts.{Text, ConfigText, ObjectText, TargetText, BodyText, DataText, RegisterText, ProfileText, ClockText, ScriptTableText, MonitorText, ScheduleText, UnknownText}
use Rattle.config_text.specs.Fault.{fault_where}
use Rattle.config_text.specs.declared.cause.Cause.TheVariants.{ClassUnknown}
use Rattle.config_rules.specs.Names.{object_named, class_named, class_in, has_menu_key, menu_key_of, passes_or_chosen}
use Rattle.config_rules.specs.Read.{is_body_of, IsRead}
use Rattle.config_rules.specs.Passes as passes
use Rattle.config_rules.specs.PlanOf.{part_of, object_of, plan_of, name_of, cell_named, cells_named, captures_of, script_named, scripts_of, times_value}
use Rattle.config_rules.proofs.Nothing.{both_none, holds, each_ok}
use Rattle.config_rules.proofs.Passed.{IsJudged, limits_parts, profile_limits}
use Rattle.config_rules.proofs.Named.{IsName, AreNames, AreNew, names_ok, names_new, finds, found_named, object_at_named}

-- a settable cell of an object: its rule, and its start value
abbrev pub IsSettable : Plan → ConfigText → BodyText → LogicalName → ℕ → Type 0
IsSettable P c body n index =
    ((rule : Rule) × (rule_in P (part_of c body) index ≡ Some rule)) × ((v : Tree) × IsIn (start_of n (part_of c body)) (cell (class_of (part_of c body)) n index, v))

-- the index at which the test of a list with one fitting pair holds
pub only_place : (place index : ℕ) → ((index == place) || false) ≡ true → index ≡ place
only_place place index h = elim (or_cases (index == place) false h) [ inl e ↦ eqb-true index place e | inr e ↦ absurd (false≢true e) ]

-- where an object has the key of a menu, its part has alternatives
abbrev pub HasMenuOfKey : ConfigText → BodyText → Type 0
HasMenuOfKey c body = has_menu_key body ≡ true → part_has_menu (part_of c body) ≡ true

-- it can be set, or is a choice of an object with the key of a menu
abbrev may_be_set : ConfigText → BodyText → ℕ → Bool
may_be_set c body index = is_settable (class_of (part_of c body)) index || (has_menu_key body && is_choice (class_of (part_of c body)) index)

-- without the key it is settable
no_choice : (b more : Bool) → (b || (false && more)) ≡ true → b ≡ true
no_choice true more h = refl
no_choice false more h = cc

-- the attribute that has the menu
chosen_place : (menu : Bool) (place index : ℕ) → (menu && ((index == place) || false)) ≡ true → (menu ≡ true) × (index ≡ place)
chosen_place menu place index h = let both = and_parts menu ((index == place) || false) h in (both.0, only_place place index both.1)

-- what is settable by the table of the classes, or a choice with a menu, is a settable cell
settable_body : (P : Plan) (c : ConfigText) (n : LogicalName) (index : ℕ) (body : BodyText) → HasMenuOfKey c body → may_be_set c body index ≡ true → IsSettable P c body n index
settable_body P c n index (DataText value) m s =
    subst (IsSettable P c (DataText value) n) (sym (only_place 2 index (no_choice ((index == 2) || false) (is_choice 1 index) s))) ((_, refl), (_, inl refl))
settable_body P c n index (RegisterText value default scaler unit) m s =
    subst (IsSettable P c (RegisterText value default scaler unit) n) (sym (only_place 2 index (no_choice ((index == 2) || false) (is_choice 3 index) s))) ((_, refl), (_, inl refl))
settable_body P c n index (ProfileText captures period entries sort_method) m s =
    let part = captures_of c captures in
    elim (or_cases ((index == 4) || false) (is_some captures.menu && ((index == 3) || false)) s) [
      | inl e ↦ subst (IsSettable P c (ProfileText captures period entries sort_method) n) (sym (only_place 4 index e)) ((_, refl), (_, in_period n part period entries))
      | inr e ↦
          let at = chosen_place (is_some captures.menu) 3 index e in
          subst (IsSettable P c (ProfileText captures period entries sort_method) n) (sym at.1)
          ((_, ap (λ b. cond b (Some (OneOf Array (map capture_objects_value (alternatives part)))) None) (m at.0)), (_, in_menu n part period entries (m at.0)))
    ]
settable_body P c n index (ClockText time) m s = subst (IsSettable P c (ClockText time) n) (sym (only_place 2 index (no_choice ((index == 2) || false) (is_choice 8 index) s))) ((_, refl), (_, inl refl))
settable_body P c n index (ScriptTableText scripts) m s = absurd (false≢true s)
settable_body P c n index (MonitorText monitored thresholds actions) m s =
    subst (IsSettable P c (MonitorText monitored thresholds actions) n) (sym (only_place 2 index (no_choice ((index == 2) || false) (is_choice 21 index) s))) ((_, refl), (_, inl refl))
settable_body P c n index (ScheduleText script type times) m s =
    let part = scripts_of script in
    elim (or_cases ((index == 4) || false) (is_some script.menu && ((index == 2) || false)) s) [
      | inl e ↦ subst (IsSettable P c (ScheduleText script type times) n) (sym (only_place 4 index e)) ((_, refl), (_, in_times n part type (times_value times)))
      | inr e ↦
          let at = chosen_place (is_some script.menu) 2 index e in
          subst (IsSettable P c (ScheduleText script type times) n) (sym at.1)
          ((_, ap (λ b. cond b (Some (OneOf Structure (map script_ref_value (alternatives part)))) None) (m at.0)), (_, in_script n part type (times_value times) (m at.0)))
    ]
settable_body P c n index UnknownText m s = absurd (false≢true s)

-- the class of a part is that of its body
pub class_is : (c : ConfigText) (class : ℕ) (body : BodyText) → is_body_of c.version class body ≡ true → is_known c.version class ≡ true → class ≡ class_of (part_of c body)
class_is c class (DataText value) b k = only_place _ class b
class_is c class (RegisterText value default scaler unit) b k = only_place _ class b
class_is c class (ProfileText captures period entries sort_method) b k = only_place _ class (and_parts (is_of_class class classes.ProfileGeneric) _ b).0
class_is c class (ClockText time) b k = only_place _ class b
class_is c class (ScriptTableText scripts) b k = only_place _ class b
class_is c class (MonitorText monitored thresholds actions) b k = only_place _ class b
class_is c class (ScheduleText script type times) b k = only_place _ class (and_parts (is_of_class class classes.SingleActionSchedule) _ b).0
class_is c class UnknownText b k = absurd (false≢true (sym (not-true (is_known c.version class) b) ∙ k))

-- a menu that is there has alternatives
menu_there : {A B : Type 0} (f : A → B) (at : Text) (menu : Option (List A)) → passes.menu_size at menu ≡ [] → is_some menu ≡ true → has_any (map f (unwrap_or menu [])) ≡ true
menu_there f at None h some = absurd (false≢true some)
menu_there f at (Some []) h some = cc
menu_there f at (Some (x ∷ xs)) h some = refl

menus_there : (c : ConfigText) (at : Text) (body : BodyText) → passes.limits_in at body ≡ [] → HasMenuOfKey c body
unfolding passes.limits_in
menus_there c at (ProfileText captures period entries sort_method) h =
    menu_there (cells_named c) _ captures.menu (profile_limits at captures period entries sort_method h).2
menus_there c at (ScheduleText script type times) h =
    let few = both_none (fault_where _ _ (nat_lt limits.EXECUTION_TIMES (length times) || not (is_within_limits (times_value times)))) _ h in
    menu_there script_named _ script.menu few.1
menus_there c at (DataText value) h = λ none. absurd (false≢true none)
menus_there c at (RegisterText value default scaler unit) h = λ none. absurd (false≢true none)
menus_there c at (ClockText time) h = λ none. absurd (false≢true none)
menus_there c at (ScriptTableText scripts) h = λ none. absurd (false≢true none)
menus_there c at (MonitorText monitored thresholds actions) h = λ none. absurd (false≢true none)
menus_there c at UnknownText h = λ none. absurd (false≢true none)

-- What a configuration with its passes passed has, part by part.
pub record IsRight (c : ConfigText) : Type 0 where
  pub judged : IsJudged c
  pub read : IsRead c
  pub names : AreNames c
  pub new : AreNew c
  pub known : (o : ObjectText) → IsIn c.objects o → is_known c.version o.class ≡ true
  pub menus : (o : ObjectText) → IsIn c.objects o → HasMenuOfKey c o.body

pub right : (c : ConfigText) → IsRead c → IsJudged c → IsRight c
unfolding passes.known_classes
right c read judged = record {
  judged = judged;
  read = read;
  names = names_ok c judged.forms;
  new = names_new c judged.objects;
  known = λ o i. let at = each_ok (λ place p. fault_where (ClassUnknown c.version) (place ++ codes ".class") (not (is_known c.version p.class))) (codes "object") 0 c.objects judged.classes o i in
      holds _ (at.0 ++ codes ".class") (is_known c.version o.class) at.1;
  menus = λ o i. let at = each_ok (λ place p. passes.limits_in place p.body) (codes "object") 0 c.objects (limits_parts c judged.limits).2 o i in
      menus_there c at.0 o.body at.1;
}

-- the object that a target names, in the configuration and in its plan
pub record IsTarget (c : ConfigText) (text : Text) (o : ObjectText) : Type 0 where
  pub is : object_named c text ≡ Some o
  pub there : IsIn c.objects o
  pub name : o.name ≡ text
  pub planned : object_at (plan_of c) (name_of text) ≡ Some (object_of c o)
  pub class : class_named c text ≡ class_of (part_of c o.body)

pub target_of : (c : ConfigText) → IsRight c → (text : Text) → IsName text → is_some (object_named c text) ≡ true → (o : ObjectText) × IsTarget c text o
target_of c ok text name h = at (object_named c text) refl h
  where
    at : (r : Option ObjectText) → object_named c text ≡ r → is_some r ≡ true → (o : ObjectText) × IsTarget c text o
    at None is e = cc
    at (Some o) is e =
        let there = found_named c text o is in (
          o,
          record {
            is = is;
            there = there.0;
            name = there.1;
            planned = object_at_named c ok.names.objects text name ∙ ap (option_map (object_of c)) is;
            class = ap class_in is ∙ class_is c o.class o.body (ok.read.bodies o there.0) (ok.known o there.0);
          },
        )

-- an object found by its own name
pub target_itself : (c : ConfigText) → IsRight c → (o : ObjectText) → IsIn c.objects o → IsTarget c o.name o
target_itself c ok o i = record {
  is = finds c ok.new o i;
  there = i;
  name = refl;
  planned = object_at_named c ok.names.objects o.name (ok.names.objects o i) ∙ ap (option_map (object_of c)) (finds c ok.new o i);
  class = ap class_in (finds c ok.new o i) ∙ class_is c o.class o.body (ok.read.bodies o i) (ok.known o i);
}

-- the rule of a cell is that of its object's part
pub rule_at : (c : ConfigText) (text : Text) (o : ObjectText) → IsTarget c text o → (index : ℕ) →
    rule_of (plan_of c) (cell (class_named c text) (name_of text) index) ≡ rule_in (plan_of c) (part_of c o.body) index
rule_at c text o t index =
    ap (λ r. option_and_then (λ p. cond (class_of p.part == class_named c text) (rule_in (plan_of c) p.part index) None) r) t.planned
    ∙ cond-true (class_of (part_of c o.body) == class_named c text) (rule_in (plan_of c) (part_of c o.body) index) None (eq-eqb (class_of (part_of c o.body)) (class_named c text) (sym t.class))

-- a target that a script may write is a cell of the plan with a rule
pub settable_cell : (c : ConfigText) → IsRight c → (t : TargetText) (o : ObjectText) → IsTarget c t.object o → passes_or_chosen c is_settable t.object t.index ≡ true →
    IsIn (cells (plan_of c)) (cell_named c t) × ((rule : Rule) × (rule_of (plan_of c) (cell_named c t) ≡ Some rule))
settable_cell c ok t o target h =
    let found = subst (λ r. (is_settable (class_named c t.object) t.index || (menu_key_of r && is_choice (class_named c t.object) t.index)) ≡ true) target.is h in
    let own = subst (λ k. (is_settable k t.index || (has_menu_key o.body && is_choice k t.index)) ≡ true) target.class found in
    let s = settable_body (plan_of c) c (name_of t.object) t.index o.body (ok.menus o target.there) own in
    let there = subst (λ k. IsIn (start_of (name_of t.object) (part_of c o.body)) (cell k (name_of t.object) t.index, s.1.0)) (sym target.class) s.1.1 in
    (cell_of_found (plan_of c) (name_of t.object) (object_of c o) target.planned (cell_named c t) s.1.0 there, (s.0.0, rule_at c t.object o target t.index ∙ s.0.1))
