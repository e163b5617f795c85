use Rattle.std.proofs.Common.{◌∙◌, ℕ, List, Option, [], None, Err, refl, sym, ap, subst}
use Rattle.std.proofs.lemmas.List.Elements.{All-nil}
use Rattle.std.proofs.KnownBytes.{Appends-nil, Consumes-nil}
use Rattle.tcp_wrapper.specs.Stream.{IsFrame}
use Rattle.meter_theory.specs.Plan.{Plan, start}
use Rattle.meter_theory.specs.State.{State}
use Rattle.meter_theory.specs.States.{IsState}
use Rattle.meter_theory.proofs.Start.{start-is-state}
use Rattle.xdlms_services.specs.Solo.{Alone, AnswersAlone}
use Rattle.frame_server.specs.Alone.{ServesAlone}
use Rattle.frame_server.specs.Serving.{Serves}
use Rattle.frame_server.specs.declared.fault.ServeFault.TheVariants.{Memory}
use Rattle.frame_server.proofs.alone.serve_alone.Goals as goal

-- a meter that isn't there yet answers nothing
nothing-served : (plan : Plan) (unread written : Option (List ℕ)) → ServesAlone plan unread unread written written (Err Memory)
nothing-served plan unread written = (
  record { plan = plan; meter = start plan },
  (
    [],
    [],
    None,
    record {
      each = All-nil IsFrame;
      read = Consumes-nil unread;
      wrote = Appends-nil written;
      asked = refl;
      spoken = tt;
    },
    λ some. absurd cc,
  ),
)

pub returns-in_default : goal.returns-in_default
returns-in_default g c = nothing-served c.args.plan.now _ _

pub new-solo-requires : goal.new-solo-requires
new-solo-requires g c = subst (IsState c.args.plan.now) (sym c.in-Ok.ensures) (start-is-state c.args.plan.now c.known.ensures.sound)

abbrev alone : Plan → State → Alone
alone plan meter = record { plan = plan; meter = meter }

pub returns : goal.returns
returns g c =
    let plan = c.args.plan.now in
    let solo = c.new-solo.result in
    let is = ap (λ (P : Plan). alone P solo.meter) c.new-solo.ensures.plan ∙ ap (alone plan) (c.new-solo.ensures.meter ∙ c.in-Ok.ensures) in (
      c.serve.new.asker,
      subst (λ (a : Alone). Serves AnswersAlone plan (record { asker = a; unread = g.R.Read.remaining c.args.reader.now; written = g.W.Write.contents c.args.writer.now })
          (record { asker = c.serve.new.asker; unread = g.R.Read.remaining c.serve.new.reader; written = g.W.Write.contents c.serve.new.writer }) c.serve.result) is c.serve.ensures.serves,
    )
