use Rattle.std.proofs.Common.{◌≡◌, ◌∙◌, get_or, ap, refl}
use Rattle.std.specs.Prelude.{◌||◌}
use Rattle.std.proofs.lemmas.List.{get_or_default}
use Rattle.meter_theory.specs.Labels.{has}
use Rattle.label_certificate.specs.Granted.{label_in}
use Rattle.label_certificate.proofs.joining.join_at.Goals as goal

pub returns-then-number-labels-clause-joined : goal.returns-then-number-labels-clause-joined
returns-then-number-labels-clause-joined c = λ within.
    let labels = c.args.labels.now in
    let item = c.index-labels-number.result in
    let same : get_or labels c.args.number item ≡ label_in labels c.args.number = get_or_default labels c.args.number item _ within in
    record {
      label = record { influence = c.union-label.result; learn = (get_or labels c.args.number item).learn };
      there = refl;
      influence = λ k. c.union-label.ensures k ∙ ap (λ l. has l.influence k || has c.args.clients k) same;
      learn = ap (λ l. l.learn) same;
    }
