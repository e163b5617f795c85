use Rattle.std.proofs.Common.{◌<◌, ◌∙◌, false, true, set, sym, ap, subst, length}
use Rattle.std.proofs.lemmas.List.{get_or_default}
use Rattle.label_certificate.specs.Waiting.{AreMarked, Numbers}
use Rattle.label_certificate.proofs.Marked.{marked-more}
use Rattle.label_certificate.proofs.waiting.Waiting.add.Goals as goal

pub invariant_of-self-2 : goal.invariant_of-self-2
invariant_of-self-2 c =
    let marks = c.self.inside.marks.items in
    let k = c.args.number in
    let low : k < length marks = subst (λ n. k < n) (sym (ap (λ (w : Numbers). w.bound) c.self.view_is)) c.requires in
    subst (λ numbers. AreMarked numbers (set marks k true)) (sym c.in_ok-push_back.ensures.items)
    (marked-more c.self.inside.numbers.items marks k c.self.invariant low
    (get_or_default marks k false c.index.result.now low ∙ (sym c.index.ensures ∙ c.if-index.false)))
