use Rattle.std.proofs.Common.{subst}
use Rattle.meter_theory.specs.Plan.{Plan}
use Rattle.flow_forms.specs.Listing.{WritesLeast}
use Rattle.meter_server.proofs.texts.write_least.Goals as goal

pub returns : goal.returns
returns g c =
    subst (λ (P : Plan). WritesLeast P (g.O.Write.contents c.args.output.now) (g.O.Write.contents c.write_least_labels.new.writer) c.write_least_labels.result) c.in_ok-least.ensures.plan c.write_least_labels.ensures
