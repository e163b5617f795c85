use Rattle.flow_changes.proofs.Compared.{of-sides}
use Rattle.flow_changes.proofs.compare.write_comparison.Goals as goal

pub returns : goal.returns
returns g c =
    of-sides c.args.old.now c.args.new.now c.known.ensures c.known-2.ensures (g.W.Write.contents c.args.writer.now) (g.W.Write.contents c.write_sides.new.writer) c.write_sides.result c.write_sides.ensures
