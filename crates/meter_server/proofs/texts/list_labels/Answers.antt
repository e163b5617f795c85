use Rattle.std.proofs.Common.{inr, subst}
use Rattle.config_reader.specs.ConfigOf.{config_of}
use Rattle.meter_theory.specs.Plan.{Plan}
use Rattle.meter_server.specs.Warning.{ListsLabelsOf}
use Rattle.meter_server.proofs.Made.{said-of}
use Rattle.meter_server.proofs.texts.list_labels.Goals as goal

pub returns-in-Ok : goal.returns-in-Ok
returns-in-Ok g c =
    let s = said-of (c.in-Ok.plan, c.in-Ok.policy) (config_of c.args.config.text.now) c.in-Ok.ensures.first in
    inr (
      s.0,
      c.in-Ok.policy,
      s.1,
      s.3,
      subst (λ (P : Plan). ListsLabelsOf c.args.warned c.args.config P c.in-Ok.policy (g.O.Write.contents c.args.output.now) (g.O.Write.contents c.list_labels_of.new.output) c.list_labels_of.result) s.2 c.list_labels_of.ensures,
    )
