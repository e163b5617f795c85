-- Replies to requests, and what a meter becomes by what is asked.
use Rattle.std.proofs.Common.{◌≡◌, ℕ, List, [], ◌∷◌, Some, None, refl, ap}
use Rattle.std.specs.Option.{option_map}
use Rattle.std.specs.List.{flat_map, cons_option}
use Rattle.meter_theory.specs.Plan.{Plan, start}
use Rattle.meter_theory.specs.State.{State}
use Rattle.meter_theory.specs.Steps.{next}
use Rattle.meter_theory.specs.Replies.{replies}
use Rattle.xdlms_services.specs.declared.asking.Exception.TheVariants.{Unknown}
use Rattle.xdlms_services.specs.Asking.{asking_at, exception_bytes}
use Rattle.line_server.specs.Answering.{next_by, reply_by, next_of, reply_of_ask, Task, Answer, Take, steps_of, apdus_from, apdus_of}
use Rattle.line_server.specs.Spelling.{reply_text}
use Rattle.line_server.specs.Running.{tasks_of, printed}
use Rattle.line_server.specs.LineMeter.{replies_to, told}

-- the APDUs in order bring the replies of the run of the steps
pub replies_to-apdus_of : (P : Plan) (s : State) (tasks : List Task) → replies_to P s tasks ≡ apdus_of tasks (replies P s (steps_of tasks))
unfolding next_of reply_of_ask
replies_to-apdus_of P s [] = refl
replies_to-apdus_of P s (Answer ask ∷ tasks) =
    elim (asking_at ask.client ask.apdu) as (λ read. reply_by P s read ∷ replies_to P (next_by P s read) tasks
    ≡ apdus_from read (replies P s (cons_option (option_map (λ asked. asked.step) read) (steps_of tasks))) (apdus_of tasks)) [
      | None ↦ ap (λ (t : List (List ℕ)). exception_bytes Unknown ∷ t) (replies_to-apdus_of P s tasks)
      | Some asked ↦ ap (λ (t : List (List ℕ)). reply_by P s (Some asked) ∷ t) (replies_to-apdus_of P (next_by P s (Some asked)) tasks)
    ]
replies_to-apdus_of P s (Take step ∷ tasks) = replies_to-apdus_of P (next P s step) tasks

-- from the start on, what is written for one line after another is what the run prints
pub told-printed : (P : Plan) (lines : List (List ℕ)) → told P (start P) (tasks_of P lines) ≡ printed P lines
told-printed P lines = ap (flat_map reply_text) (replies_to-apdus_of P (start P) (tasks_of P lines))
