-- What the reading and the passes say of an object alone: its class, its numbers, and whether it may be fed.
use Rattle.std.proofs.Common.{◌≡◌, Bool, true, false, not, List, refl, sym, subst, ◌∙◌}
use Rattle.std.specs.Prelude.{ℤ, ℕ, option_map, ◌&&◌}
use Rattle.std.proofs.lemmas.Bool.{and_from, false≢true}
use Rattle.std.proofs.lemmas.List.Folds.{list_all-map}
use Rattle.cosem_data.specs.Kinds.{kind_of, is_number_kind}
use Rattle.meter_theory.specs.Classes.{is_known, is_monitorable, may_be_fed}
use Rattle.meter_theory.specs.Lists.{IsIn}
use Rattle.meter_theory.specs.State.{value}
use Rattle.meter_theory.specs.Plan.{class_of, start_values}
use Rattle.meter_theory.specs.Sound.{has_ranges, has_numbers, is_script_number}
use Rattle.config_text.specs.Fault.{fault_where}
use Rattle.config_text.specs.Parts.{Text, ConfigText, ObjectText, TargetText, UpDownText, BodyText, DataText, RegisterText, ProfileText, ClockText, ScriptTableText, MonitorText, ScheduleText, UnknownText}
use Rattle.config_rules.specs.Names.{target_is}
use Rattle.config_rules.specs.Values.{kind_in, kind_named, is_number, may_be_number}
use Rattle.config_rules.specs.PlanOf.{part_of, plan_of, value_of, script_of, cell_named}
use Rattle.config_rules.specs.Read as texts
use Rattle.config_rules.specs.Passes as passes
use Rattle.config_rules.proofs.Nothing.{both_none, holds, not_faulty, each_ok}
use Rattle.config_rules.proofs.Cells.{IsRight, class_is}
use Rattle.config_rules.proofs.Starts.{IsStart, of_body, register_start}
use Rattle.config_rules.proofs.Fits.{monitor_source}

-- the class of an object's part is that of its text
pub class_of_text : (c : ConfigText) → IsRight c → (o : ObjectText) → IsIn c.objects o → o.class ≡ class_of (part_of c o.body)
class_of_text c ok o i = class_is c o.class o.body (ok.read.bodies o i) (ok.known o i)

pub known_class : (c : ConfigText) → IsRight c → (o : ObjectText) → IsIn c.objects o → is_known c.version (class_of (part_of c o.body)) ≡ true
known_class c ok o i = subst (λ k. is_known c.version k ≡ true) (class_of_text c ok o i) (ok.known o i)

-- Inputs

may_be : (fed may : Bool) → (fed && not may) ≡ false → fed ≡ true → may ≡ true
may_be true true h is = refl
may_be true false h is = absurd (false≢true (sym h))
may_be false may h is = absurd (false≢true is)

pub fed_of_class : (c : ConfigText) → IsRight c → (o : ObjectText) → IsIn c.objects o → o.fed ≡ true → may_be_fed (class_of (part_of c o.body)) ≡ true
unfolding passes.fed_values
fed_of_class c ok o i fed =
    let at = each_ok _ _ _ _ ok.judged.inputs o i in
    subst (λ k. may_be_fed k ≡ true) (class_of_text c ok o i) (may_be o.fed (may_be_fed o.class) (not_faulty _ _ _ at.1) fed)

-- Numbers

-- those of a part are those of its body
pub ranges_of : (c : ConfigText) (body : BodyText) → texts.has_ranges body ≡ true → has_ranges (part_of c body) ≡ true
ranges_of c (DataText value) h = refl
ranges_of c (RegisterText value default scaler unit) h = h
ranges_of c (ProfileText captures period entries sort_method) h = h
ranges_of c (ClockText time) h = refl
ranges_of c (ScriptTableText scripts) h = list_all-map (λ s. is_script_number s.id) (script_of c) scripts ∙ h
ranges_of c (MonitorText monitored thresholds actions) h = refl
ranges_of c (ScheduleText script type times) h = h
ranges_of c UnknownText h = refl

number_of_start : (text : Text) → IsStart text → is_number (kind_in text) ≡ true → is_number_kind (kind_of (value_of text)) ≡ true
number_of_start text v h =
    subst (λ z. is_number_kind (kind_of z) ≡ true) (sym v.2) (subst (λ r. is_number (option_map kind_of r) ≡ true) v.1 h)

register_number : (c : ConfigText) → IsRight c → (o : ObjectText) → IsIn c.objects o → (text default : Text) (scaler : ℤ) (unit : ℕ) →
    o.body ≡ RegisterText text default scaler unit → is_number_kind (kind_of (value_of text)) ≡ true
unfolding passes.valid_values_in
register_number c ok o i text default scaler unit is =
    let found = of_body c ok o i (RegisterText text default scaler unit) is in
    let right = both_none (fault_where _ _ (not (is_number (kind_in text)))) _ found.values.1 in
    number_of_start text (register_start c ok o i text default scaler unit is).0 (holds _ _ _ right.0)

monitored_number : (c : ConfigText) → IsRight c → (o : ObjectText) → IsIn c.objects o → (monitored : TargetText) (ths : List Text) (actions : List UpDownText) →
    o.body ≡ MonitorText monitored ths actions → has_numbers (plan_of c) (part_of c (MonitorText monitored ths actions)) ≡ true
unfolding passes.valid_values_in passes.usable_indexes
monitored_number c ok o i monitored ths actions is =
    let source = monitor_source c ok o i monitored ths actions is in
    let found = of_body c ok o i (MonitorText monitored ths actions) is in
    let place : target_is c is_monitorable monitored ≡ true = holds _ _ _ found.indexes.1 in
    let kind = both_none (fault_where _ _ (not (may_be_number (kind_named c monitored.object)))) _ found.values.1 in
    let number = subst (λ k. may_be_number k ≡ true) source.1.kind (holds _ _ _ kind.0) in
    and_from (target_is c is_monitorable monitored) (is_number_kind (kind_of (value (start_values (plan_of c)) (cell_named c monitored)))) place
    (subst (λ v. is_number_kind (kind_of v) ≡ true) (sym source.1.starts) number)

pub numbers_of : (c : ConfigText) → IsRight c → (o : ObjectText) → IsIn c.objects o → (body : BodyText) → o.body ≡ body →
    has_numbers (plan_of c) (part_of c body) ≡ true
numbers_of c ok o i (DataText value) is = refl
numbers_of c ok o i (RegisterText text default scaler unit) is = register_number c ok o i text default scaler unit is
numbers_of c ok o i (ProfileText captures period entries sort_method) is = refl
numbers_of c ok o i (ClockText time) is = refl
numbers_of c ok o i (ScriptTableText scripts) is = refl
numbers_of c ok o i (MonitorText monitored ths actions) is = monitored_number c ok o i monitored ths actions is
numbers_of c ok o i (ScheduleText script type times) is = refl
numbers_of c ok o i UnknownText is = refl
