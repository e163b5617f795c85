use Rattle.std.proofs.Common.{◌∙◌, ℕ, ap, length}
use Rattle.std.proofs.lemmas.Result.{IfOk-weaker}
use Rattle.config_warnings.specs.Widths.{wider_cells}
use Rattle.explanations.specs.Warnings.{width_line}
use Rattle.explanations.specs.declared.warnings.Whose.TheVariants as whose
use Rattle.meter_theory.specs.Labels.{Labels, labelling_of_policy}
use Rattle.meter_server.proofs.warning.policy_line.Goals as goal

pub returns : goal.returns
returns c =
    let file = c.args.file.now in
    let wider = wider_cells (labelling_of_policy c.args.least.now.plan c.args.least.now.policy) c.args.least.now.labels in
    IfOk-weaker c.explain_width.result _ _
    (λ line is. is
    ∙ (ap (λ (n : ℕ). width_line file whose.Policy n (length c.entries.result.now)) c.wider_by_policy.ensures
    ∙ ap (λ (ls : Labels). width_line file whose.Policy wider (length ls)) (c.entries.ensures ∙ c.labels.ensures)))
    c.explain_width.ensures
