use Rattle.shown_text.proofs.Plain.{html-plain, printable-plain}
use Rattle.shown_text.proofs.laws.shown_texts_are_plain.Goals as goal

pub returns-clause-printable : goal.returns-clause-printable
returns-clause-printable c = printable-plain

pub returns-clause-html : goal.returns-clause-html
returns-clause-html c = html-plain
