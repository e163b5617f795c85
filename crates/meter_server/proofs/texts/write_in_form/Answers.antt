use Rattle.std.proofs.Common.{subst}
use Rattle.meter_theory.specs.Plan.{Plan}
use Rattle.whole_writes.specs.Written.{WritesText}
use Rattle.meter_server.specs.Program.{edges_in}
use Rattle.meter_server.proofs.texts.write_in_form.Goals as goal

pub returns : goal.returns
returns g c =
    subst (λ (P : Plan). WritesText (edges_in c.args.form P) (g.O.Write.contents c.args.output.now) (g.O.Write.contents c.write_edges_in.new.output) c.write_edges_in.result) c.in_ok-map.ensures.plan c.write_edges_in.ensures
