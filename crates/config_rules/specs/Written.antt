-- What a script may write.
use Rattle.std.specs.Prelude.{ℕ, ◌==◌, Bool, true, false, ◌&&◌, cond, if◌then◌else◌, List, length, map, Option, Some, None}
use Rattle.std.specs.List.{list_all, list_any}
use Rattle.cosem_data.specs.Tree.{Tree}
use Rattle.cosem_data.specs.Equal.{same_tree}
use Rattle.cosem_data.specs.Kinds.{kind_of, same_kind}
use Rattle.cosem_data.specs.declared.kind.Kind.TheVariants.{Array, DoubleLongUnsigned, OctetString, Structure}
use Rattle.cosem_data.specs.declared.kind.Kind.{Kind}
use Rattle.config_text.specs.declared.cause.Cause.{Cause}
use Rattle.config_text.specs.declared.cause.Cause.TheVariants.{Rule, Value}
use Rattle.config_text.specs.declared.cause.Rule as rules
use Rattle.config_text.specs.declared.cause.Rule.TheVariants as of
use Rattle.meter_theory.specs.Menus.{alternatives, capture_objects_value, script_ref_value}
use Rattle.meter_theory.specs.Times.{are_execution_times}
use Rattle.meter_theory.specs.Value.{ClockTime, elements, meets}
use Rattle.config_text.specs.Parts.{ConfigText, ObjectText, BodyText, DataText, RegisterText, ProfileText, ClockText, MonitorText, ScheduleText}
use Rattle.config_rules.specs.PlanOf.{captures_of, scripts_of}
use Rattle.config_rules.specs.Values.{kind_in, kind_named, has_kind}

-- it is one of these values
abbrev pub is_one_of : List Tree → Tree → Bool
is_one_of values v = list_any (λ w. same_tree w v) values

-- the value may stand in the settable cell of an object with this index, the limits left aside
abbrev pub may_stand : ConfigText → BodyText → ℕ → Tree → Bool
may_stand c (DataText value) index v = has_kind (kind_in value) v
may_stand c (RegisterText value default scaler unit) index v = has_kind (kind_in value) v
may_stand c (ProfileText captures period entries sort_method) index v =
    cond (index == 3) (is_one_of (map capture_objects_value (alternatives (captures_of c captures))) v)
    (same_kind (kind_of v) DoubleLongUnsigned)
may_stand c (ClockText time) index v = meets ClockTime v
may_stand c (MonitorText monitored thresholds actions) index v =
    same_kind (kind_of v) Array
    && ((length (elements v) == length actions) && list_all (has_kind (kind_named c monitored.object)) (elements v))
may_stand c (ScheduleText script type times) index v =
    cond (index == 2) (is_one_of (map script_ref_value (alternatives (scripts_of script))) v)
    (same_kind (kind_of v) Array && are_execution_times type (elements v))
may_stand c _ index v = true

-- the kind that each such value has (IEC 62056-6-2, Profile generic, Clock, Register monitor, Single action schedule)
abbrev pub kind_in_cell : BodyText → ℕ → Option Kind
kind_in_cell (DataText value) index = kind_in value
kind_in_cell (RegisterText value default scaler unit) index = kind_in value
kind_in_cell (ProfileText captures period entries sort_method) index = Some (if index == 3 then Array else DoubleLongUnsigned)
kind_in_cell (ClockText time) index = Some OctetString
kind_in_cell (MonitorText monitored thresholds actions) index = Some Array
kind_in_cell (ScheduleText script type times) index = Some (if index == 2 then Structure else Array)
kind_in_cell _ index = None

-- the rule that such a value may break
abbrev pub rule_in_cell : BodyText → ℕ → rules.Rule
rule_in_cell (ClockText time) index = of.Moment
rule_in_cell (MonitorText monitored thresholds actions) index = of.Thresholds
rule_in_cell (ScheduleText script type times) index = if index == 2 then of.Menu else of.Times
rule_in_cell _ index = of.Menu

-- a kind is asked, and is this one
abbrev pub is_kind : Option Kind → Kind → Bool
is_kind None kind = false
is_kind (Some asked) kind = same_kind asked kind

abbrev pub may_stand_at : ConfigText → Option ObjectText → ℕ → Tree → Bool
may_stand_at c None index v = true
may_stand_at c (Some o) index v = may_stand c o.body index v

-- the cause of a value that may not stand in a cell: it isn't of the kind, or it breaks a rule
abbrev pub cause_in_cell : BodyText → ℕ → Option Tree → Cause
cause_in_cell body index (Some v) = if is_kind (kind_in_cell body index) (kind_of v) then Rule (rule_in_cell body index) else Value (kind_in_cell body index)
cause_in_cell body index None = Value (kind_in_cell body index)

abbrev pub written_cause : Option ObjectText → ℕ → Option Tree → Cause
written_cause None index v = Value None
written_cause (Some o) index v = cause_in_cell o.body index v
