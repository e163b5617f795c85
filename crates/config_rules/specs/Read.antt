-- What the reading of a configuration's tables has judged before: numbers within their ranges, passwords of their form, and
-- objects that say what their classes ask for.
use Rattle.std.specs.Prelude.{◌≡◌, ℕ, nat_le, Bool, true, not, ◌&&◌, ◌||◌, is_some}
use Rattle.std.specs.List.{list_all}
use Rattle.meter_theory.specs.Classes.{is_known, is_of_class}
use Rattle.meter_theory.specs.declared.classes.Class.TheVariants as classes
use Rattle.meter_theory.specs.Lists.{IsIn}
use Rattle.meter_theory.specs.Sound.{is_version, is_password_or_none, is_scaler, is_unit, is_period, is_script_number, is_schedule_type}
use Rattle.config_text.specs.Objects.{has_menus}
use Rattle.config_text.specs.Parts.{MenuText, ClientText, ObjectText, ConfigText, BodyText, DataText, RegisterText, ProfileText, ClockText, ScriptTableText, MonitorText, ScheduleText, UnknownText}

-- a service access point is 1 to 127
abbrev pub has_sap : ClientText → Bool
has_sap client = nat_le 1 client.sap && nat_le client.sap 127

-- a configuration of this version may have this menu
abbrev pub may_have : {A : Type 0} → ℕ → MenuText A → Bool
may_have version m = has_menus version || not (is_some m.menu)

-- in a configuration of this version the body is that of the class; a profile has at least 1 entry
abbrev pub is_body_of : ℕ → ℕ → BodyText → Bool
is_body_of version class (DataText value) = is_of_class class classes.Data
is_body_of version class (RegisterText value default scaler unit) = is_of_class class classes.Register
is_body_of version class (ProfileText captures period entries sort_method) =
    is_of_class class classes.ProfileGeneric && (nat_le 1 entries && may_have version captures)
is_body_of version class (ClockText time) = is_of_class class classes.Clock
is_body_of version class (ScriptTableText scripts) = is_of_class class classes.ScriptTable
is_body_of version class (MonitorText monitored thresholds actions) = is_of_class class classes.RegisterMonitor
is_body_of version class (ScheduleText script type times) = is_of_class class classes.SingleActionSchedule && may_have version script
is_body_of version class UnknownText = not (is_known version class)

-- the numbers of a body keep to their ranges
abbrev pub has_ranges : BodyText → Bool
has_ranges (RegisterText value default scaler unit) = is_scaler scaler && is_unit unit
has_ranges (ProfileText captures period entries sort_method) = is_period period
has_ranges (ScriptTableText scripts) = list_all (λ s. is_script_number s.id) scripts
has_ranges (ScheduleText script type times) = is_schedule_type type
has_ranges _ = true

pub record IsRead (c : ConfigText) : Type 0 where
  pub version : is_version c.version ≡ true
  pub saps : (client : ClientText) → IsIn c.clients client → has_sap client ≡ true
  pub passwords : (client : ClientText) → IsIn c.clients client → is_password_or_none client.password ≡ true
  pub bodies : (o : ObjectText) → IsIn c.objects o → is_body_of c.version o.class o.body ≡ true
  pub ranges : (o : ObjectText) → IsIn c.objects o → has_ranges o.body ≡ true
