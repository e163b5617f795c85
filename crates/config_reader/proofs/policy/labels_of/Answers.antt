use Rattle.std.proofs.Common.{ap, ◌∙◌, subst}
use Rattle.config_rules.specs.Faultless.{IsLabelOf}
use Rattle.config_rules.specs.PlanOf.{cell_named}
use Rattle.config_reader.proofs.Labels.{labelled_more}
use Rattle.config_reader.proofs.policy.labels_of.Goals as goal

pub loop-label-preserved : goal.loop-label-preserved
loop-label-preserved c =
    let said = c.args.directory.now.config.now in
    labelled_more said c.loop-label.label-index c.args.labels.now c.loop-label.table.items _ c.label-item.result _
    c.loop-label-test.true c.label-item.is c.loop-label.invariant
    (c.cell_named-cell.ensures.cell ∙ ap (λ l. cell_named said l.target) c.label.view_is)
    (subst (λ l. IsLabelOf said l.sets c.label_of.result) c.label.view_is c.label_of.ensures)
    c.in_ok-push.ensures.items
