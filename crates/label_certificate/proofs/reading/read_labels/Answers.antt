use Rattle.label_certificate.proofs.InOrder.{read_in_order}
use Rattle.label_certificate.proofs.reading.read_labels.Goals as goal

pub returns-clause-order : goal.returns-clause-order
returns-clause-order c = read_in_order c.args.plan.now c.as_bytes.result.now c.read_lines.result c.read_lines.ensures
