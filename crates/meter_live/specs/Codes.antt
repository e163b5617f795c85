-- Steps and marks as pairs, sums and lists: what Rattle asks of a type that is seen as a value.
use Rattle.std.specs.Prelude.{◌≡◌, refl, ℕ, ℤ, zero, suc, Bool, true, List, ◌⊎◌, Option, None, Some}
use Rattle.std.proofs.Common.{inl, inr}
use Rattle.std.specs.Coded.{Coded, code_by, coded_list, coded_option, coded_ℕ, coded_ℤ, coded_bool, coded×, coded⊎}
use Rattle.cosem_data.specs.Tree.{Tree}
use Rattle.cosem_data.specs.TreeCode.{tree_code}
use Rattle.cosem_data.specs.declared.cell.CellRef.{CellRef}
use Rattle.cosem_data.specs.declared.name.LogicalName.{LogicalName}
use Rattle.logbook.specs.Pages.{Book, book_coded}
use Rattle.meter_theory.specs.declared.access.AccessCode.{AccessCode}
use Rattle.meter_theory.specs.declared.access.AccessCode.TheVariants as codes
use Rattle.meter_theory.specs.PlanCode.{name_code, cell_code, moment_code}
use Rattle.meter_theory.specs.Replies.{Reply, Value, Code, Quiet}
use Rattle.meter_theory.specs.Rights.{Argument, Absent, Given, Unreadable}
use Rattle.meter_theory.specs.declared.refs.Descriptor.{Descriptor}
use Rattle.meter_theory.specs.Steps.{Step, Get, Set, Act, Input, CaptureAt, Evaluate, ScheduleAt, Tick, ClockAt}
use Rattle.meter_theory.specs.Times.{Moment}
use Rattle.meter_live.specs.Marks.{Mark}
use Rattle.meter_live.specs.Tally.{Tally}
use Rattle.meter_live.specs.Trail.{Taken}

abbrev pub descriptor_code : Coded Descriptor
descriptor_code =
    code_by (ℕ × (LogicalName × ℤ)) (coded× coded_ℕ (coded× name_code coded_ℤ)) (λ d. (d.class_id, (d.name, d.index))) (λ p. record { class_id = p.0; name = p.1.0; index = p.1.1 }) (λ _. refl)

-- no value, or one; or bytes that are none
abbrev pub from_argument : Argument → Option Tree ⊎ Bool
from_argument Absent = inl None
from_argument (Given v) = inl (Some v)
from_argument Unreadable = inr true

abbrev pub to_argument : Option Tree ⊎ Bool → Argument
to_argument (inl None) = Absent
to_argument (inl (Some v)) = Given v
to_argument (inr _) = Unreadable

pub to_argument-from : (a : Argument) → to_argument (from_argument a) ≡ a
to_argument-from Absent = refl
to_argument-from (Given v) = refl
to_argument-from Unreadable = refl

abbrev pub argument_code : Coded Argument
argument_code = code_by (Option Tree ⊎ Bool) (coded⊎ (coded_option tree_code) coded_bool) from_argument to_argument to_argument-from

abbrev pub StepParts : Type 0
StepParts =
    (ℕ × (Descriptor × Option (ℕ × Argument))) ⊎ ((ℕ × (Descriptor × (Bool × Argument))) ⊎ ((ℕ × (Descriptor × Argument))
    ⊎ ((CellRef × Tree) ⊎ (LogicalName ⊎ (LogicalName ⊎ (LogicalName ⊎ (Bool ⊎ Moment)))))))

abbrev pub from_step : Step → StepParts
from_step (Get c d selection) = inl (c, (d, selection))
from_step (Set c d selected v) = inr (inl (c, (d, (selected, v))))
from_step (Act c d argument) = inr (inr (inl (c, (d, argument))))
from_step (Input x v) = inr (inr (inr (inl (x, v))))
from_step (CaptureAt n) = inr (inr (inr (inr (inl n))))
from_step (Evaluate n) = inr (inr (inr (inr (inr (inl n)))))
from_step (ScheduleAt n) = inr (inr (inr (inr (inr (inr (inl n))))))
from_step Tick = inr (inr (inr (inr (inr (inr (inr (inl true)))))))
from_step (ClockAt t) = inr (inr (inr (inr (inr (inr (inr (inr t)))))))

abbrev pub to_step : StepParts → Step
to_step (inl p) = Get p.0 p.1.0 p.1.1
to_step (inr (inl p)) = Set p.0 p.1.0 p.1.1.0 p.1.1.1
to_step (inr (inr (inl p))) = Act p.0 p.1.0 p.1.1
to_step (inr (inr (inr (inl p)))) = Input p.0 p.1
to_step (inr (inr (inr (inr (inl n))))) = CaptureAt n
to_step (inr (inr (inr (inr (inr (inl n)))))) = Evaluate n
to_step (inr (inr (inr (inr (inr (inr (inl n))))))) = ScheduleAt n
to_step (inr (inr (inr (inr (inr (inr (inr (inl _)))))))) = Tick
to_step (inr (inr (inr (inr (inr (inr (inr (inr t)))))))) = ClockAt t

pub to_step-from : (step : Step) → to_step (from_step step) ≡ step
to_step-from (Get c d selection) = refl
to_step-from (Set c d selected v) = refl
to_step-from (Act c d argument) = refl
to_step-from (Input x v) = refl
to_step-from (CaptureAt n) = refl
to_step-from (Evaluate n) = refl
to_step-from (ScheduleAt n) = refl
to_step-from Tick = refl
to_step-from (ClockAt t) = refl

abbrev pub step_code : Coded Step
step_code =
    code_by StepParts (coded⊎ (coded× coded_ℕ (coded× descriptor_code (coded_option (coded× coded_ℕ argument_code))))
    (coded⊎ (coded× coded_ℕ (coded× descriptor_code (coded× coded_bool argument_code))) (coded⊎ (coded× coded_ℕ (coded× descriptor_code argument_code))
    (coded⊎ (coded× cell_code tree_code) (coded⊎ name_code (coded⊎ name_code (coded⊎ name_code (coded⊎ coded_bool moment_code)))))))) from_step to_step to_step-from

-- results are numbered by their places
abbrev pub from_access : AccessCode → ℕ
from_access codes.Success = 0
from_access codes.TemporaryFailure = 1
from_access codes.ReadWriteDenied = 2
from_access codes.ObjectUndefined = 3
from_access codes.ObjectClassInconsistent = 4
from_access codes.TypeUnmatched = 5
from_access codes.ScopeOfAccessViolated = 6
from_access codes.OtherReason = 7

abbrev pub to_access : ℕ → AccessCode
to_access zero = codes.Success
to_access (suc zero) = codes.TemporaryFailure
to_access (suc (suc zero)) = codes.ReadWriteDenied
to_access (suc (suc (suc zero))) = codes.ObjectUndefined
to_access (suc (suc (suc (suc zero)))) = codes.ObjectClassInconsistent
to_access (suc (suc (suc (suc (suc zero))))) = codes.TypeUnmatched
to_access (suc (suc (suc (suc (suc (suc zero)))))) = codes.ScopeOfAccessViolated
to_access (suc (suc (suc (suc (suc (suc (suc n))))))) = codes.OtherReason

pub to_access-from : (a : AccessCode) → to_access (from_access a) ≡ a
to_access-from codes.Success = refl
to_access-from codes.TemporaryFailure = refl
to_access-from codes.ReadWriteDenied = refl
to_access-from codes.ObjectUndefined = refl
to_access-from codes.ObjectClassInconsistent = refl
to_access-from codes.TypeUnmatched = refl
to_access-from codes.ScopeOfAccessViolated = refl
to_access-from codes.OtherReason = refl

abbrev pub access_code : Coded AccessCode
access_code = code_by ℕ coded_ℕ from_access to_access to_access-from

abbrev pub from_reply : Reply → Option Tree ⊎ AccessCode
from_reply Quiet = inl None
from_reply (Value v) = inl (Some v)
from_reply (Code code) = inr code

abbrev pub to_reply : Option Tree ⊎ AccessCode → Reply
to_reply (inl None) = Quiet
to_reply (inl (Some v)) = Value v
to_reply (inr code) = Code code

pub to_reply-from : (r : Reply) → to_reply (from_reply r) ≡ r
to_reply-from (Value v) = refl
to_reply-from (Code code) = refl
to_reply-from Quiet = refl

abbrev pub reply_code : Coded Reply
reply_code = code_by (Option Tree ⊎ AccessCode) (coded⊎ (coded_option tree_code) access_code) from_reply to_reply to_reply-from

abbrev pub mark_code : Coded Mark
mark_code = code_by (Book × List Step) (coded× book_coded (coded_list step_code)) (λ m. (m.book, m.steps)) (λ p. record { book = p.0; steps = p.1 }) (λ _. refl)

abbrev pub taken_code : Coded Taken
taken_code = code_by (ℕ × (Step × Reply)) (coded× coded_ℕ (coded× step_code reply_code)) (λ e. (e.port, (e.step, e.reply))) (λ p. record { port = p.0; step = p.1.0; reply = p.1.1 }) (λ _. refl)

abbrev pub tally_code : Coded Tally
tally_code = code_by (ℕ × (ℕ × List Step)) (coded× coded_ℕ (coded× coded_ℕ (coded_list step_code))) (λ t. (t.steps, (t.changes, t.written))) (λ p. record { steps = p.0; changes = p.1.0; written = p.1.1 }) (λ _. refl)
