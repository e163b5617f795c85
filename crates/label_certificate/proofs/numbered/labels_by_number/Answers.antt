use Rattle.std.proofs.Common.{◌≡◌, ◌∙◌, None, ap, length, rules}
use Rattle.std.specs.Prelude.{replicate}
use Rattle.std.proofs.lemmas.List.{length-map}
use Rattle.meter_theory.specs.Labels.{label_at}
use Rattle.meter_theory.specs.Plan.{cells}
use Rattle.label_certificate.proofs.Placed.{no-entry}
use Rattle.label_certificate.proofs.numbered.labels_by_number.Goals as goal

pub loop-entry-init : goal.loop-entry-init
loop-entry-init c =
    let none : c.in_ok-found.found.items ≡ replicate c.args.count None = search rules in
    none ∙ no-entry (cells c.args.plan.now) c.args.count c.requires

pub put_first-requires : goal.put_first-requires
put_first-requires c = ap length c.loop-entry.invariant ∙ length-map (cells c.args.plan.now) (label_at _)
