use Rattle.std.proofs.Common.{sym, ap, ◌∙◌, ◌∷◌}
use Rattle.label_certificate.specs.LabelLine.{parts, three}
use Rattle.label_certificate.specs.LineView.{parts_left}
use Rattle.label_certificate.proofs.Parts.{parts-some, three-more}
use Rattle.label_certificate.proofs.line.three.Goals as goal

pub returns-in-Some : goal.returns-in-Some
returns-in-Some c =
    let s = c.args.separator in
    let a = c.first_part.result.0.now in
    let b = c.first_part-2.result.0.now in
    let d = c.first_part-3.result.0.now in
    let one = c.first_part.ensures.split ∙ ap (λ r. a ∷ parts_left s r) c.in_ok-rest.was in
    let two = c.first_part-2.ensures.split ∙ ap (λ r. b ∷ parts_left s r) c.in_ok-rest-2.was in
    let last = c.first_part-3.ensures.split ∙ ap (λ r. d ∷ parts_left s r) c.in-Some.is in
    sym (ap three (one ∙ ap (λ r. a ∷ r) (two ∙ ap (λ r. b ∷ r) last)) ∙ three-more a b d (parts s c.in-Some.field-0.now) (parts-some s c.in-Some.field-0.now))
