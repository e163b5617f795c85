use Rattle.std.proofs.Common.{ap, sym}
use Rattle.command_words.specs.CommandLine.{app_named}
use Rattle.command_words.proofs.rows.row_of.Goals as goal

pub returns-in-Demo : goal.returns-in-Demo
returns-in-Demo c = ap app_named (sym c.in-Demo.is)

pub returns-in-Run : goal.returns-in-Run
returns-in-Run c = ap app_named (sym c.in-Run.is)

pub returns-in-Edges : goal.returns-in-Edges
returns-in-Edges c = ap app_named (sym c.in-Edges.is)

pub returns-in-Label : goal.returns-in-Label
returns-in-Label c = ap app_named (sym c.in-Label.is)

pub returns-in-Check : goal.returns-in-Check
returns-in-Check c = ap app_named (sym c.in-Check.is)

pub returns-in-Why : goal.returns-in-Why
returns-in-Why c = ap app_named (sym c.in-Why.is)

pub returns-in-Compare : goal.returns-in-Compare
returns-in-Compare c = ap app_named (sym c.in-Compare.is)

pub returns-in-Report : goal.returns-in-Report
returns-in-Report c = ap app_named (sym c.in-Report.is)

pub returns-in-Quiet : goal.returns-in-Quiet
returns-in-Quiet c = ap app_named (sym c.in-Quiet.is)

pub returns-in-Audit : goal.returns-in-Audit
returns-in-Audit c = ap app_named (sym c.in-Audit.is)

pub returns-in-Session : goal.returns-in-Session
returns-in-Session c = ap app_named (sym c.in-Session.is)

pub returns-in-Serve : goal.returns-in-Serve
returns-in-Serve c = ap app_named (sym c.in-Serve.is)

pub returns-in-Trail : goal.returns-in-Trail
returns-in-Trail c = ap app_named (sym c.in-Trail.is)

pub returns-in-Encode : goal.returns-in-Encode
returns-in-Encode c = ap app_named (sym c.in-Encode.is)

pub returns-in-Decode : goal.returns-in-Decode
returns-in-Decode c = ap app_named (sym c.in-Decode.is)
