use Rattle.std.specs.Prelude.{◌≡◌, true, cond}
use Rattle.std.proofs.Common.{ap, ◌∙◌}
use Rattle.std.proofs.lemmas.Bool.{false≢true}
use Rattle.std.proofs.lemmas.Result.{IfOk-weaker}
use Rattle.cosem_data.specs.Cells.{cell}
use Rattle.meter_theory.specs.Fixed.{fixed}
use Rattle.meter_theory.specs.Plan.{is_cell}
use Rattle.meter_theory.specs.Replies.{selected}
use Rattle.meter_theory.specs.Rights.{cell_of, get_answer}
use Rattle.meter_theory.specs.State.{value}
use Rattle.object_model.specs.ArgumentView.{selection_of}
use Rattle.object_model.specs.Stored.{held_tree}
use Rattle.association_views.specs.Permits.{permitted}
use Rattle.cosem_data.specs.View.{tree}
use Rattle.meter_core.proofs.Answered.{refused_get, granted_get, granted_get_takes_memory, is_some-selection, selects_buffer, unselected}
use Rattle.meter_core.proofs.shown.show.Goals as goal

pub returns-in-Err-clause-reply : goal.returns-in-Err-clause-reply
returns-in-Err-clause-reply c =
    let sel = selection_of c.args.selection.now in
    refused_get c.args.plan.now c.args.meter.now c.args.client c.args.attribute.now sel c.in-Err.code
    (c.in-Err.ensures ∙ ap (λ (i : _). permitted (get_answer i.plan c.args.client c.args.attribute.now sel)) c.instance-instance.ensures)

pub show_held-requires : goal.show_held-requires
show_held-requires c = λ chosen.
    let sel = selection_of c.args.selection.now in
    let granted = c.in_default.ensures ∙ ap (λ (i : _). permitted (get_answer i.plan c.args.client c.args.attribute.now sel)) c.instance-instance.ensures in
    let b = selects_buffer c.args.plan.now c.args.client c.args.attribute.now sel c.in_default.field-0 granted (is_some-selection c.args.selection.now ∙ chosen) in
    c.in-Some.ensures.buffer (ap (λ x. x.class_id) c.attribute-cell.ensures ∙ b.0) (ap (λ x. x.index) c.attribute-cell.ensures ∙ b.1)

pub returns-in-Some-clause-reply : goal.returns-in-Some-clause-reply
returns-in-Some-clause-reply c =
    let P = c.args.plan.now in
    let s = c.args.meter.now in
    let d = c.args.attribute.now in
    let sel = selection_of c.args.selection.now in
    let granted = c.in_default.ensures ∙ ap (λ (i : _). permitted (get_answer i.plan c.args.client d sel)) c.instance-instance.ensures in
    let there : true ≡ is_cell P (cell_of d) =
    c.in-Some.ensures.cell ∙ (ap (λ (i : _). is_cell i.plan c.attribute-cell.result) c.instance-instance.ensures ∙ ap (is_cell P) c.attribute-cell.ensures) in
    let read = c.in-Some.ensures.found ∙ (ap (value s) c.attribute-cell.ensures ∙ ap (λ b. cond b (value s (cell_of d)) (fixed P c.args.client (cell_of d))) there) in
    IfOk-weaker c.show_held.result _ _
    (λ shown is. is ∙ granted_get P s c.args.client d sel (selected sel (held_tree c.in-Some.held)) c.in_default.field-0 granted (ap (selected sel) read))
    c.show_held.ensures

pub returns-in-Some-clause-denied : goal.returns-in-Some-clause-denied
returns-in-Some-clause-denied c =
    let sel = selection_of c.args.selection.now in
    granted_get_takes_memory c.args.plan.now c.args.meter.now c.args.client c.args.attribute.now sel c.in_default.field-0
    (c.in_default.ensures ∙ ap (λ (i : _). permitted (get_answer i.plan c.args.client c.args.attribute.now sel)) c.instance-instance.ensures)

pub returns-in_ok-fixed_attribute_at-in-None-clause-reply : goal.returns-in_ok-fixed_attribute_at-in-None-clause-reply
returns-in_ok-fixed_attribute_at-in-None-clause-reply c =
    let P = c.args.plan.now in
    let s = c.args.meter.now in
    let d = c.args.attribute.now in
    let sel = selection_of c.args.selection.now in
    let granted = c.in_default.ensures ∙ ap (λ (i : _). permitted (get_answer i.plan c.args.client d sel)) c.instance-instance.ensures in
    let lacks = c.in-None.ensures.cell ∙ (ap (λ (i : _). is_cell i.plan c.attribute-cell.result) c.instance-instance.ensures ∙ ap (is_cell P) c.attribute-cell.ensures) in
    let v = tree c.in_ok-fixed_attribute_at-in-None.field-0 in
    let read = c.in_ok-fixed_attribute_at-in-None.ensures d.class_id
    ∙ (ap (λ (i : _). fixed i.plan c.args.client (cell d.class_id i.name c.attribute-cell.result.index)) c.instance-instance.ensures
    ∙ (ap (λ x. fixed P c.args.client (cell d.class_id d.name x.index)) c.attribute-cell.ensures
    ∙ ap (λ b. cond b (value s (cell_of d)) (fixed P c.args.client (cell_of d))) lacks)) in
    granted_get P s c.args.client d sel v c.in_default.field-0 granted
    (unselected sel v (λ chosen. false≢true (lacks ∙ (selects_buffer P c.args.client d sel c.in_default.field-0 granted chosen).2)) ∙ ap (selected sel) read)

pub returns-in_err-fixed_attribute_at-in-None-clause-denied : goal.returns-in_err-fixed_attribute_at-in-None-clause-denied
returns-in_err-fixed_attribute_at-in-None-clause-denied c =
    let sel = selection_of c.args.selection.now in
    granted_get_takes_memory c.args.plan.now c.args.meter.now c.args.client c.args.attribute.now sel c.in_default.field-0
    (c.in_default.ensures ∙ ap (λ (i : _). permitted (get_answer i.plan c.args.client c.args.attribute.now sel)) c.instance-instance.ensures)
