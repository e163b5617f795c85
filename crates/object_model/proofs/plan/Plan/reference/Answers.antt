use Rattle.std.proofs.Common.{◌∙◌, ap, Some}
use Rattle.std.specs.Prelude.{option_map, option_and_then, slice_get}
use Rattle.std.specs.List.{position_from}
use Rattle.cosem_data.specs.Cells.{same_name}
use Rattle.meter_theory.specs.Plan.{Plan}
use Rattle.cosem_class.specs.Parts.{references}
use Rattle.object_model.proofs.Referred.{reference-at}
use Rattle.object_model.proofs.plan.Plan.reference.Goals as goal

pub returns : goal.returns
returns c =
    let P : Plan = record { version = c.self.inside.version; clients = c.self.inside.clients.items; objects = c.self.inside.objects.items; rights = c.self.inside.rights.items } in
    ap (option_map (λ k. Some k)) c.at.ensures
    ∙ reference-at P c.self.inside.index c.self.inside.references c.args.object c.args.place c.self.invariant.named c.self.invariant.referred
    ∙ ap (λ Q. option_map (λ n. position_from (λ o. same_name o.name n) 0 Q.objects) (option_and_then (λ o. slice_get (references o.part) c.args.place) (slice_get Q.objects c.args.object))) c.self.view_is
