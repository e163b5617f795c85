-- A line that neither is the APDU of a client nor unreadable says nothing but the steps of the meter itself that it brings.
use Rattle.std.proofs.Common.{◌≡◌, [], refl}
use Rattle.meter_theory.specs.Plan.{Plan}
use Rattle.xdlms_services.specs.Conversation.{Answers}
use Rattle.line_server.specs.Asking.{Ask}
use Rattle.line_server.specs.Doing.{Does, TakesAll}
use Rattle.line_server.specs.Driving.{left_of}
use Rattle.line_server.specs.Running.{own_steps, tasks_in}
use Rattle.line_server.specs.declared.driving.Left.TheVariants as left
use Rattle.line_server.specs.declared.line.Line.{Line}
use Rattle.line_server.specs.declared.line.Line.TheVariants as lines
use Rattle.line_server.specs.declared.reason.Reason.{Reason}

pub leaves_nothing : (said : Line) → ((ask : Ask) → said ≡ lines.Ask ask → ⊥) → ((why : Reason) → said ≡ lines.Unreadable why → ⊥) → left.Nothing ≡ left_of said
leaves_nothing (lines.Ask ask) no_ask no_fault = absurd (no_ask ask refl)
leaves_nothing (lines.Unreadable why) no_ask no_fault = absurd (no_fault why refl)
leaves_nothing lines.Skipped no_ask no_fault = refl
leaves_nothing (lines.Input cell value) no_ask no_fault = refl
leaves_nothing (lines.Evaluate monitor) no_ask no_fault = refl
leaves_nothing (lines.At moment) no_ask no_fault = refl
leaves_nothing (lines.Ticks seconds) no_ask no_fault = refl

pub takes : {A : Type 0} (answers : Answers A) (plan : Plan) (old new : A) (said : Line) → ((ask : Ask) → said ≡ lines.Ask ask → ⊥)
    → ((why : Reason) → said ≡ lines.Unreadable why → ⊥) → TakesAll answers old (own_steps plan said) new → Does answers old (tasks_in plan said) [] new
takes answers plan old new (lines.Ask ask) no_ask no_fault t = absurd (no_ask ask refl)
takes answers plan old new (lines.Unreadable why) no_ask no_fault t = absurd (no_fault why refl)
takes answers plan old new lines.Skipped no_ask no_fault t = t
takes answers plan old new (lines.Input cell value) no_ask no_fault t = t
takes answers plan old new (lines.Evaluate monitor) no_ask no_fault t = t
takes answers plan old new (lines.At moment) no_ask no_fault t = t
takes answers plan old new (lines.Ticks seconds) no_ask no_fault t = t
