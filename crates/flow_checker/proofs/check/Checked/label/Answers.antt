use Rattle.std.proofs.Common.{rules, ◌≡◌, ◌<◌, ◌∙◌, sym, ap, subst, subst₂, length, vec_len, get_or}
use Rattle.meter_theory.specs.Labels.{labelling_of_policy}
use Rattle.flow_checker.specs.Accepted.{AreAllowed}
use Rattle.flow_checker.proofs.Looked.{number_within, label_there}
use Rattle.flow_checker.proofs.check.Checked.label.Goals as goal

pub index-requires : goal.index-requires
index-requires c =
    let a = c.deref.result.now in
    let are : AreAllowed a.plan a.policy a.labels.items = subst (λ x. AreAllowed x.plan x.policy x.labels.items) (sym c.deref.ensures) c.self.invariant.1 in
    let long : vec_len a.labels ≡ length a.labels.items = search rules in
    subst₂ (λ n m. n < m) (sym c.from.ensures) (sym long) (number_within a.plan a.policy a.labels.items c.args.cell.now c.in-Some.number are (sym c.cell_number.ensures ∙ c.in-Some.is))

pub returns-in-Some : goal.returns-in-Some
returns-in-Some c =
    let a = c.deref.result.now in
    let are : AreAllowed a.plan a.policy a.labels.items = subst (λ x. AreAllowed x.plan x.policy x.labels.items) (sym c.deref.ensures) c.self.invariant.1 in
    label_there a.plan a.policy a.labels.items c.args.cell.now c.in-Some.number c.index.result.now are (sym c.cell_number.ensures ∙ c.in-Some.is)
    (c.index.ensures ∙ ap (λ k. get_or a.labels.items k c.index.result.now) c.from.ensures)
    ∙ ap (λ x. labelling_of_policy x.plan x.policy c.args.cell.now) c.deref.ensures
    ∙ ap (λ z. labelling_of_policy z.plan z.policy c.args.cell.now) c.self.view_is
