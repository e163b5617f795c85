use Rattle.std.proofs.Common.{◌∙◌, ap, sym, Some, ◌≡◌}
use Rattle.std.specs.List.{list_any}
use Rattle.cosem_data.specs.Cells.{cell, same_cell}
use Rattle.meter_theory.specs.State.{keys}
use Rattle.meter_theory.specs.Plan.{start_of, is_cell, object_at}
use Rattle.object_model.specs.PartView.{part_of}
use Rattle.object_model.proofs.ByObject.{cell-found, cell-none}
use Rattle.object_model.proofs.instance.Instance.is_cell.Goals as goal

pub returns-in-Some : goal.returns-in-Some
returns-in-Some c =
    let at = cell c.args.class_id c.self.inside.name c.args.index in
    let found : object_at c.self.inside.plan.now c.self.inside.name ≡ Some c.in-Some.object.now = sym (c.in-Some.ensures ∙ ap (λ v. object_at v.plan v.name) (sym c.self.view_is)) in
    c.has_cell.ensures
    ∙ ap (λ x. list_any (same_cell x) (keys (start_of c.name.result (part_of c.part.result.now)))) (c.cell.ensures ∙ ap (λ v. cell c.args.class_id v.name c.args.index) (sym c.self.view_is))
    ∙ ap (λ n. list_any (same_cell at) (keys (start_of n (part_of c.part.result.now)))) c.name.ensures
    ∙ ap (λ p. list_any (same_cell at) (keys (start_of c.in-Some.object.now.name p))) c.part.ensures
    ∙ sym (cell-found c.self.inside.plan.now at c.in-Some.object.now c.known.ensures.sound found)
    ∙ ap (λ v. is_cell v.plan (cell c.args.class_id v.name c.args.index)) c.self.view_is

pub returns-in-None : goal.returns-in-None
returns-in-None c =
    sym (cell-none c.self.inside.plan.now (cell c.args.class_id c.self.inside.name c.args.index) (sym (c.in-None.ensures ∙ ap (λ v. object_at v.plan v.name) (sym c.self.view_is))))
    ∙ ap (λ v. is_cell v.plan (cell c.args.class_id v.name c.args.index)) c.self.view_is
