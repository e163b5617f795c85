use Rattle.std.proofs.Common.{arith}
use Rattle.cosem_data.specs.View.{tree}
use Rattle.acse_session.proofs.Sending.{within-fits}
use Rattle.acse_session.proofs.turning.whole_value.Goals as goal

pub returns-clause-fits : goal.returns-clause-fits
returns-clause-fits c =
    (within-fits c.args.a.limit (tree c.args.value.now) _ _ _ c.requires.short c.requires.kept.0.1 c.in_ok-answer.ensures.items c.in_ok-write_value.ensures.shortest (omega arith), c.requires.kept)
