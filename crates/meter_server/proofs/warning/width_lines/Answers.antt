use Rattle.std.proofs.Common.{◌∙◌, ◌++◌, ap₂, length}
use Rattle.config_warnings.specs.Widths.{wider_cells}
use Rattle.explanations.specs.Warnings.{width_line}
use Rattle.explanations.specs.declared.warnings.Whose.TheVariants as whose
use Rattle.meter_theory.specs.Labels.{Policy, labelling_of_policy}
use Rattle.meter_theory.specs.Plan.{Plan}
use Rattle.meter_server.proofs.warning.width_lines.Goals as goal

pub returns : goal.returns
returns c =
    let labels = c.in_ok-least.least.labels in
    let known = c.in_ok-least.ensures in
    let policy = c.in_ok-lines.ensures ∙ ap₂ (λ (P : Plan) (Q : Policy). width_line c.args.of.config.file.now whose.Policy (wider_cells (labelling_of_policy P Q) labels) (length labels)) known.plan known.policy in
    (labels, known.least.least, known.least.cells_are, c.in_ok-push_str.ensures.bytes ∙ ap₂ (λ told given. told ++ given) policy (c.deref.ensures ∙ c.in_ok-given.ensures))
