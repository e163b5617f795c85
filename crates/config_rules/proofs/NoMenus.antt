-- A configuration of version 1 has no menus.
use Rattle.std.proofs.Common.{◌≡◌, ℕ, true, false, not, List, [], map, refl, ap, subst, ◌∙◌, Option, Some, None, is_some}
use Rattle.std.specs.Option.{unwrap_or}
use Rattle.std.proofs.lemmas.Bool.{and_parts, false≢true}
use Rattle.meter_theory.specs.Classes.{is_of_class}
use Rattle.meter_theory.specs.declared.classes.Class.TheVariants as classes
use Rattle.meter_theory.specs.Lists.{IsIn}
use Rattle.meter_theory.specs.Menus.{has_any}
use Rattle.meter_theory.specs.Plan.{Object, part_has_menu}
use Rattle.meter_theory.proofs.Lists.{from_map}
use Rattle.config_text.specs.Parts.{MenuText, ConfigText, BodyText, DataText, RegisterText, ProfileText, ClockText, ScriptTableText, MonitorText, ScheduleText, UnknownText}
use Rattle.config_rules.specs.Names.{menu_in}
use Rattle.config_rules.specs.PlanOf.{object_of, part_of, plan_of, cells_named, script_named}
use Rattle.config_rules.specs.Read.{IsRead, is_body_of, may_have}

-- no menu is there
none_there : {A B : Type 0} (f : A → B) (m : MenuText A) → may_have 1 m ≡ true → has_any (map f (menu_in m)) ≡ false
none_there {A = A} f m h = at m.menu h
  where
    at : (menu : Option (List A)) → not (is_some menu) ≡ true → has_any (map f (unwrap_or menu [])) ≡ false
    at None none = refl
    at (Some xs) none = absurd (false≢true none)

body_without : (c : ConfigText) (class : ℕ) (body : BodyText) → is_body_of 1 class body ≡ true → part_has_menu (part_of c body) ≡ false
body_without c class (DataText value) h = refl
body_without c class (RegisterText value default scaler unit) h = refl
body_without c class (ProfileText captures period entries sort_method) h =
    none_there (cells_named c) captures (and_parts _ (may_have 1 captures) (and_parts (is_of_class class classes.ProfileGeneric) _ h).1).1
body_without c class (ClockText time) h = refl
body_without c class (ScriptTableText scripts) h = refl
body_without c class (MonitorText monitored thresholds actions) h = refl
body_without c class (ScheduleText script type times) h =
    none_there script_named script (and_parts (is_of_class class classes.SingleActionSchedule) _ h).1
body_without c class UnknownText h = refl

pub no_menus : (c : ConfigText) → IsRead c → c.version ≡ 1 → (o : Object) → IsIn (plan_of c).objects o → part_has_menu o.part ≡ false
no_menus c read version o i =
    let t = from_map (object_of c) c.objects o i in
    ap (λ z. part_has_menu z.part) t.2 ∙ body_without c t.0.class t.0.body (subst (λ v. is_body_of v t.0.class t.0.body ≡ true) version (read.bodies t.0 t.1))
