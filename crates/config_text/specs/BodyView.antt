-- What the parts of the code say, without where they lie in memory.
use Rattle.std.specs.Prelude.{option_map, string_bytes}
use Rattle.config_text.specs.Parts.{BodyText, DataText, RegisterText, ProfileText, ClockText, ScriptTableText, MonitorText, ScheduleText, UnknownText}
use Rattle.config_text.specs.declared.parts.BodyParts.{BodyParts}
use Rattle.config_text.specs.declared.parts.BodyParts.TheVariants as bodies

abbrev pub body_text : BodyParts → BodyText
body_text (bodies.Data value) = DataText value
body_text (bodies.Register value default scaler unit) = RegisterText value default scaler unit
body_text (bodies.ProfileGeneric capture period entries sort_method menu) =
    ProfileText (record { start = capture.items; menu = option_map (λ alternatives. alternatives.items) menu }) period entries sort_method
body_text (bodies.Clock time) = ClockText (string_bytes time)
body_text (bodies.ScriptTable scripts) = ScriptTableText scripts.items
body_text (bodies.RegisterMonitor monitored thresholds actions) = MonitorText monitored thresholds.items actions.items
body_text (bodies.SingleActionSchedule script type times menu) =
    ScheduleText (record { start = script; menu = option_map (λ alternatives. alternatives.items) menu }) type times.items
body_text bodies.Unknown = UnknownText
