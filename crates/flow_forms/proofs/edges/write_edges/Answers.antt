use Rattle.std.proofs.Common.{subst}
use Rattle.meter_theory.specs.Edges.{edges}
use Rattle.whole_writes.specs.Written.{WritesText}
use Rattle.flow_forms.proofs.Listed.{plain-text}
use Rattle.flow_forms.proofs.edges.write_edges.Goals as goal

pub returns : goal.returns
returns g c =
    subst (λ text. WritesText text (g.W.Write.contents c.args.writer.now) (g.W.Write.contents c.write_list.new.writer) c.write_list.result) (plain-text (edges c.args.map.now.plan)) c.write_list.ensures
