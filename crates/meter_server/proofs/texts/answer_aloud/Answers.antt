use Rattle.std.proofs.Common.{sym, subst}
use Rattle.config_reader.specs.ConfigOf.{config_of}
use Rattle.meter_server.specs.Program.{AnswersText}
use Rattle.line_server.specs.Running.{RunsLines}
use Rattle.meter_server.proofs.Made.{lines-answered}
use Rattle.meter_server.proofs.texts.answer_aloud.Goals as goal

pub returns-in-Ok : goal.returns-in-Ok
returns-in-Ok g c =
    subst (AnswersText c.args.config (config_of c.args.config.text.now) _ _) (sym c.outcome_of.ensures)
    (lines-answered RunsLines c.args.config (c.in-Ok.plan, c.in-Ok._policy) (config_of c.args.config.text.now) _ _ c.run_aloud.result c.in-Ok.ensures.first c.run_aloud.ensures)
