use Rattle.std.proofs.Common.{◌++◌, ◌-◌, ◌∙◌, ◌==◌, ap, map, length, take, drop}
use Rattle.std.specs.Prelude.{cond}
use Rattle.cosem_data.specs.View.{tree}
use Rattle.meter_theory.specs.Selection.{columns_of}
use Rattle.meter_theory.specs.Value.{array_of}
use Rattle.class_profile.specs.SelectionView.{descriptor_view}
use Rattle.class_profile.proofs.Selected.{selected_rows}
use Rattle.class_profile.proofs.rows.Rows.selected.Goals as goal

pub returns : goal.returns
returns c =
    let d = descriptor_view c.args.descriptor.now in
    let start = c.start_of-start.result in
    let end = c.end_of-end.result in
    let older = c.slices.result.0.now in
    let newer = c.slices.result.1.now in
    ap (λ front. array_of (map (λ row. columns_of d (tree row)) front ++ map (λ row. columns_of d (tree row)) c.between-2.result.now)) c.between.ensures
    ∙ ap (λ back. array_of (map (λ row. columns_of d (tree row)) (drop start (take end older)) ++ map (λ row. columns_of d (tree row)) back))
    (c.between-2.ensures ∙ ap (λ n. drop n (take c.saturating_sub-2.result newer)) c.saturating_sub.ensures ∙ ap (λ n. drop (start - length older) (take n newer)) c.saturating_sub-2.ensures)
    ∙ selected_rows d c.args.self.now older newer start end c.slices.ensures c.start_of-start.ensures (c.end_of-end.ensures ∙ ap (λ n. cond (d.to_entry == 0) n d.to_entry) c.len.ensures)
