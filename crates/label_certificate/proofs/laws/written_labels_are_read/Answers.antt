use Rattle.label_certificate.proofs.RoundTrip.{labels_again}
use Rattle.label_certificate.proofs.laws.written_labels_are_read.Goals as goal

pub returns : goal.returns
returns c = labels_again
