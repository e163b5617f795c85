use Rattle.meter_server.specs.Remarks.{told_of}
use Rattle.meter_server.specs.Warning.{TellsSlips, TellsWidths}
use Rattle.meter_server.proofs.Told.{told-so}
use Rattle.meter_server.proofs.warning.warnings_on.Goals as goal

pub returns-in-SlipsAndWidths : goal.returns-in-SlipsAndWidths
returns-in-SlipsAndWidths c =
    let of = c.args.of in
    rw c.in-SlipsAndWidths.is (
      told_of c.of-slips.result,
      told_of c.of-widths.result,
      told-so (TellsSlips of.plan.now) c.slip_lines-in-SlipsAndWidths.result (told_of c.of-slips.result) c.of-slips.ensures c.slip_lines-in-SlipsAndWidths.ensures,
      told-so (TellsWidths of.config of.labels of.plan.now of.policy.now) c.width_lines.result (told_of c.of-widths.result) c.of-widths.ensures c.width_lines.ensures,
      c.with.ensures,
    )
