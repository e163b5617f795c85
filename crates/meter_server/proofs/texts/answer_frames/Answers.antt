use Rattle.std.proofs.Common.{ℕ, Result, Ok, Err, sym, subst}
use Rattle.meter_theory.specs.Labels.{Policy}
use Rattle.meter_theory.specs.Plan.{Plan}
use Rattle.config_text.specs.Fault.{Fault as ConfigFault}
use Rattle.config_text.specs.Parts.{ConfigText}
use Rattle.config_reader.specs.ConfigOf.{Reads, config_of}
use Rattle.frame_server.specs.declared.fault.ServeFault.{ServeFault}
use Rattle.frame_server.specs.Alone.{ServesAlone}
use Rattle.line_server.specs.Lines.{Moment}
use Rattle.meter_server.specs.Outcomes.{served}
use Rattle.meter_server.specs.Program.{AnswersFrames}
use Rattle.meter_server.specs.declared.texts.Source.{Source}
use Rattle.meter_server.proofs.Made.{said-of}
use Rattle.meter_server.proofs.texts.answer_frames.Goals as goal

-- a connection to a meter of what the text says
answers : (config : Source) (made : Plan × Policy) (said : Result ConfigText ConfigFault) (before after : Moment) (r : Result ℕ ServeFault) → Reads (Ok made) said → ServesAlone made.0 before.unread after.unread before.written after.written r
    → AnswersFrames config said before after (served r)
answers config made said before after (Ok count) h run =
    let s = said-of made said h in (s.0, s.1, count, subst (λ (plan : Plan). ServesAlone plan before.unread after.unread before.written after.written (Ok count)) s.2 run)
answers config made said before after (Err fault) h run =
    let s = said-of made said h in (s.0, s.1, subst (λ (plan : Plan). ServesAlone plan before.unread after.unread before.written after.written (Err fault)) s.2 run)

pub returns-in-Ok : goal.returns-in-Ok
returns-in-Ok g c =
    subst (AnswersFrames c.args.config (config_of c.args.config.text.now) _ _) (sym c.served.ensures)
    (answers c.args.config (c.in-Ok.plan, c.in-Ok._policy) (config_of c.args.config.text.now) _ _ c.serve_alone.result c.in-Ok.ensures.first c.serve_alone.ensures)
