use Rattle.std.proofs.Common.{◌∷◌, [], ◌∙◌, ap, ap₂, map}
use Rattle.std.proofs.lemmas.List.{map-append}
use Rattle.flow_page.specs.Marks.{told}
use Rattle.flow_page.specs.Marked as spec
use Rattle.flow_page.proofs.Pairs.{pair-next}
use Rattle.flow_page.proofs.view.matrix.marks_of.Goals as goal

pub loop-client-preserved : goal.loop-client-preserved
loop-client-preserved c =
    pair-next (spec.client_marks (told c.args.table.now.facts.now) c.args.linked.now (map (λ row. row.items) c.args.table.now.rows.now) c.args.row) c.loop-client.client _ _ _ _ _ c.loop-client.invariant
    (ap (map spec.mark_shown) c.in_ok-push.ensures.items ∙ map-append spec.mark_shown _ _) (ap (map spec.mark_shown) c.in_ok-push-2.ensures.items ∙ map-append spec.mark_shown _ _)
    (ap₂ (λ a b. a ∷ b ∷ []) c.in_ok-mark_of.ensures c.in_ok-mark_of-2.ensures)
