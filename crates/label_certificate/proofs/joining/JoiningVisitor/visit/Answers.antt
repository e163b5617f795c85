use Rattle.std.proofs.Common.{◌∙◌, refl, subst}
use Rattle.meter_theory.specs.Lists.{IsIn}
use Rattle.meter_effects.specs.Planned.{planned_of}
use Rattle.meter_effects.proofs.Shown.{changed-of}
use Rattle.label_certificate.specs.Granted.{AreJoined, by_clients}
use Rattle.label_certificate.proofs.joining.JoiningVisitor.visit.Goals as goal

pub join-requires : goal.join-requires
join-requires c = λ x i. changed-of (planned_of c.args.effect.now) x (subst (λ xs. IsIn xs x) (c.as_slice.ensures ∙ c.changed-changed.ensures) i) ∙ c.requires

pub returns : goal.returns
returns c = record {
  clients = refl;
  same_reference = refl;
  size = c.join.ensures.size;
  labels = λ each.
      subst (λ xs. AreJoined c.args.object.now.plan (by_clients c.args.self.now.clients xs) c.args.self.now.labels.now c.join.new.labels)
      (c.as_slice.ensures ∙ c.changed-changed.ensures) (c.join.ensures.joined each);
}
