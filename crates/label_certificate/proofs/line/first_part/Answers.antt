use Rattle.std.proofs.Common.{sym, ◌∙◌}
use Rattle.std.proofs.lemmas.List.{take_rest}
use Rattle.label_certificate.proofs.Parts.{parts-first, parts-none}
use Rattle.label_certificate.proofs.line.first_part.Goals as goal

pub returns-in-Some-clause-split : goal.returns-in-Some-clause-split
returns-in-Some-clause-split c = rw take_rest (parts-first c.args.separator c.args.text.now c.in-Some.place (sym c.place_of.ensures.first ∙ c.in-Some.is))

pub returns-in-None-clause-split : goal.returns-in-None-clause-split
returns-in-None-clause-split c = parts-none c.args.separator c.args.text.now (sym c.place_of.ensures.first ∙ c.in-None.is)
