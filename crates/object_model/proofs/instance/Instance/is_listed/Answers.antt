use Rattle.std.proofs.Common.{◌∙◌, ap, sym, map}
use Rattle.meter_theory.specs.Rights.{has_right, lists}
use Rattle.object_model.specs.Grants.{granted_at, listed_in}
use Rattle.object_model.proofs.ByObject.{position-map}
use Rattle.object_model.proofs.Granted.{room}
use Rattle.object_model.proofs.instance.Instance.is_listed.Goals as goal

pub is_granted-requires : goal.is_granted-requires
is_granted-requires c =
    room (map (λ o. o.name) c.self.inside.plan.now.objects) c.self.inside.name _ c.self.inside.number c.masks.ensures.size
    (c.self.invariant ∙ sym (position-map c.self.inside.plan.now.objects c.self.inside.name 0))

pub returns : goal.returns
returns c =
    c.is_granted.ensures
    ∙ ap (λ q. granted_at c.masks.result.now q c.args.client c.args.index) (c.self.invariant ∙ sym (position-map c.self.inside.plan.now.objects c.self.inside.name 0))
    ∙ sym (c.masks.ensures.agrees c.self.inside.name c.args.client c.args.index)
    ∙ ap (λ v. has_right v.plan c.args.client v.name (λ r. lists (listed_in c.args.access r) c.args.index)) c.self.view_is
