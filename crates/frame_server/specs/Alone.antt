-- The frames of one connection, answered by a meter alone (own profile).
use Rattle.std.specs.Prelude.{ℕ, List, Option, Result}
use Rattle.meter_theory.specs.Plan.{Plan, start}
use Rattle.xdlms_services.specs.Solo.{Alone, AnswersAlone}
use Rattle.frame_server.specs.Serving.{Serves}
use Rattle.frame_server.specs.declared.fault.ServeFault.{ServeFault}

-- the frames of a connection were answered by a meter of the plan that began at its start
abbrev pub ServesAlone : Plan → (unread left before after : Option (List ℕ)) → Result ℕ ServeFault → Type 0
ServesAlone plan unread left before after result =
    (meter : Alone) × Serves AnswersAlone plan (record { asker = record { plan = plan; meter = start plan }; unread = unread; written = before }) (record { asker = meter; unread = left; written = after }) result
