use Rattle.std.proofs.Common.{◌∙◌, ap, sym, Some, ◌≡◌}
use Rattle.cosem_data.specs.Cells.{cell}
use Rattle.cosem_data.specs.Kinds.{kind_of}
use Rattle.meter_theory.specs.State.{value}
use Rattle.meter_theory.specs.Plan.{start_values, start_of, object_at}
use Rattle.object_model.specs.PartView.{part_of}
use Rattle.object_model.proofs.ByObject.{start-found, start-none}
use Rattle.object_model.proofs.instance.Instance.start_kind.Goals as goal

pub returns-in-Some : goal.returns-in-Some
returns-in-Some c =
    let at = cell c.args.class_id c.self.inside.name c.args.index in
    let found : object_at c.self.inside.plan.now c.self.inside.name ≡ Some c.in-Some.object.now = sym (c.in-Some.ensures ∙ ap (λ v. object_at v.plan v.name) (sym c.self.view_is)) in
    c.start_kind.ensures
    ∙ ap (λ x. kind_of (value (start_of c.name.result (part_of c.part.result.now)) x)) (c.cell.ensures ∙ ap (λ v. cell c.args.class_id v.name c.args.index) (sym c.self.view_is))
    ∙ ap (λ n. kind_of (value (start_of n (part_of c.part.result.now)) at)) c.name.ensures
    ∙ ap (λ p. kind_of (value (start_of c.in-Some.object.now.name p) at)) c.part.ensures
    ∙ ap kind_of (sym (start-found c.self.inside.plan.now at c.in-Some.object.now c.known.ensures.sound found))
    ∙ ap (λ v. kind_of (value (start_values v.plan) (cell c.args.class_id v.name c.args.index))) c.self.view_is

pub returns-in-None : goal.returns-in-None
returns-in-None c =
    ap kind_of (sym (start-none c.self.inside.plan.now (cell c.args.class_id c.self.inside.name c.args.index) (sym (c.in-None.ensures ∙ ap (λ v. object_at v.plan v.name) (sym c.self.view_is)))))
    ∙ ap (λ v. kind_of (value (start_values v.plan) (cell c.args.class_id v.name c.args.index))) c.self.view_is
