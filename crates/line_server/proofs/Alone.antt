-- A meter alone: what lines do to it is the run of the steps that they spell.
use Rattle.std.proofs.Common.{◌≡◌, ℕ, ◌+◌, List, [], ◌∷◌, ◌++◌, Result, refl, sym, ap, subst, ◌∙◌, arith, All}
use Rattle.std.proofs.lemmas.List.Concat.{flat_map-append}
use Rattle.std.proofs.lemmas.List.Elements.{All-cons, All-nil}
use Rattle.std.proofs.KnownBytes.{Appends-nil, Consumes-nil}
use Rattle.std.specs.List.{flat_map}
use Rattle.meter_theory.specs.Plan.{Plan, start}
use Rattle.meter_theory.specs.State.{State}
use Rattle.meter_theory.specs.Steps.{next}
use Rattle.xdlms_services.specs.Solo.{Alone}
use Rattle.line_server.specs.Answering.{Task, Answer, Take, next_of, reply_of_ask}
use Rattle.line_server.specs.declared.fault.LineFault.{LineFault}
use Rattle.line_server.specs.declared.fault.LineFault.TheVariants.{Memory}
use Rattle.line_server.specs.Spelling.{line_of, reply_text}
use Rattle.line_server.specs.Lines.{Moment, Turn, lines_of, texts_of, Leads, AnswersAll}
use Rattle.line_server.specs.Running.{IsReadable, tasks_in, tasks_of, printed, StopsTelling, RunsLines}
use Rattle.line_server.specs.LineMeter.{next_by_task, meter_after, replies_to, told, AnswersLine, StopsAtLine, StopsOver}
use Rattle.line_server.proofs.Replying.{told-printed}
use Rattle.line_server.proofs.Telling.{IsTelling, runs-telling}

-- ---- tasks, one after another

after-append : (plan : Plan) (m : State) (xs ys : List Task) → meter_after plan m (xs ++ ys) ≡ meter_after plan (meter_after plan m xs) ys
after-append plan m [] ys = refl
after-append plan m (x ∷ xs) ys = after-append plan (next_by_task plan m x) xs ys

replies_to-append : (plan : Plan) (m : State) (xs ys : List Task) → replies_to plan m (xs ++ ys) ≡ replies_to plan m xs ++ replies_to plan (meter_after plan m xs) ys
replies_to-append plan m [] ys = refl
replies_to-append plan m (Answer ask ∷ xs) ys = ap (λ (t : List (List ℕ)). reply_of_ask plan m ask ∷ t) (replies_to-append plan (next_of plan m ask) xs ys)
replies_to-append plan m (Take step ∷ xs) ys = replies_to-append plan (next plan m step) xs ys

told-append : (plan : Plan) (m : State) (xs ys : List Task) → told plan m (xs ++ ys) ≡ told plan m xs ++ told plan (meter_after plan m xs) ys
told-append plan m xs ys = ap (flat_map reply_text) (replies_to-append plan m xs ys) ∙ flat_map-append reply_text (replies_to plan m xs) (replies_to plan (meter_after plan m xs) ys)

-- ---- turns

abbrev alone : Plan → State → Alone
alone plan meter = record { plan = plan; meter = meter }

-- the meter after turns, and what is written for them
record Led (plan : Plan) (meter : State) (turns : List Turn) (new : Alone) : Type 0 where
  is : new ≡ alone plan (meter_after plan meter (tasks_of plan (lines_of turns)))
  texts : texts_of turns ≡ told plan meter (tasks_of plan (lines_of turns))
  readable : All (IsReadable plan) (lines_of turns)

led : (plan : Plan) (meter : State) (count : ℕ) (turns : List Turn) (new : Alone) → Leads AnswersLine (alone plan meter) count turns new → Led plan meter turns new
led plan meter count [] new l = record { is = l; texts = refl; readable = All-nil (IsReadable plan) }
led plan meter count (turn ∷ turns) new l =
    let tasks = tasks_in plan (line_of plan turn.line) in
    let mid = meter_after plan meter tasks in
    let more = led plan mid (count + 1) turns new (subst (λ (s : Alone). Leads AnswersLine s (count + 1) turns new) l.1.2 l.2) in record {
      is = more.is ∙ ap (alone plan) (sym (after-append plan meter tasks (tasks_of plan (lines_of turns))));
      texts = ap (λ (t : List ℕ). t ++ texts_of turns) l.1.1 ∙ ap (λ (t : List ℕ). told plan meter tasks ++ t) more.texts ∙ sym (told-append plan meter tasks (tasks_of plan (lines_of turns)));
      readable = All-cons (IsReadable plan) turn.line (lines_of turns) l.1.0 more.readable;
    }

-- from the start of the plan what is written for turns is printed
prints : (plan : Plan) → IsTelling AnswersLine StopsAtLine (alone plan (start plan)) plan (printed plan)
prints plan = record {
  texts = λ turns now l. (led plan (start plan) 0 turns now l).texts ∙ told-printed plan (lines_of turns);
  readable = λ turns now l. (led plan (start plan) 0 turns now l).readable;
  faults = λ turns now number line text fault l s.
      subst (λ (p : Plan). StopsOver p number line text fault) (ap (λ (a : Alone). a.plan) (led plan (start plan) 0 turns now l).is) s;
}

-- all lines, over the meter alone
pub runs : {plan : Plan} {before after : Moment} {old new : Alone} (r : Result ℕ LineFault) → old.plan ≡ plan → old.meter ≡ start plan
    → AnswersAll AnswersLine StopsAtLine old new before after r → RunsLines plan before after r
runs {plan = plan} {before = before} {after = after} {old = old} {new = new} r p m h =
    let is : old ≡ alone plan (start plan) = ap (λ (q : Plan). alone q old.meter) p ∙ ap (alone plan) m in
    runs-telling {new = new} {before = before} {after = after} r (prints plan) (subst (λ (s : Alone). AnswersAll AnswersLine StopsAtLine s new before after r) is h)

-- nothing was read
pub stops-at_start : (plan : Plan) (m : Moment) → StopsTelling plan (printed plan) m m Memory
stops-at_start plan m = ([], [], record { each = λ k d h. absurd (omega arith); readable = λ k d h. absurd (omega arith); read = Consumes-nil m.unread; wrote = Appends-nil m.written })
