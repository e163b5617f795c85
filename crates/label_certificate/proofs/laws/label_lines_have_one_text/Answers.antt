use Rattle.label_certificate.proofs.LinesRead.{line_takes, line_gives}
use Rattle.label_certificate.proofs.laws.label_lines_have_one_text.Goals as goal

pub returns : goal.returns
returns c = record { found = line_takes; only = line_gives }
