use Rattle.std.proofs.Common.{◌∙◌, ℕ, ap, length}
use Rattle.std.proofs.lemmas.Result.{IfOk-weaker}
use Rattle.config_warnings.specs.Widths.{wider_cells}
use Rattle.explanations.specs.Warnings.{width_line}
use Rattle.explanations.specs.declared.warnings.Whose.TheVariants as whose
use Rattle.meter_theory.specs.Labels.{Labels, labelling_of}
use Rattle.meter_server.proofs.warning.labels_line.Goals as goal

pub returns : goal.returns
returns c =
    let file = c.args.source.file.now in
    let wider = wider_cells (labelling_of c.in-Ok.labels) c.args.least.now.labels in
    IfOk-weaker c.explain_width.result _ _
    (λ line is. rw (c.in-Ok.ensures.labels) (is
    ∙ (ap (λ (n : ℕ). width_line file whose.Labels n (length c.entries.result.now)) c.in_ok-wider.ensures
    ∙ ap (λ (ls : Labels). width_line file whose.Labels wider (length ls)) (c.entries.ensures ∙ c.labels-2.ensures))))
    c.explain_width.ensures
