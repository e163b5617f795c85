use Rattle.std.proofs.Common.{◌==◌, ◌++◌, ◌∷◌, [], map, length, slice_get, None, if◌then◌else◌, option_map, sym, ap, ◌∙◌}
use Rattle.cosem_data.specs.View.{tree}
use Rattle.cosem_data.specs.TreeCode.{parts-trees}
use Rattle.meter_theory.specs.Lists.{keep_last}
use Rattle.meter_theory.specs.Value.{array_of}
use Rattle.class_profile.specs.RowsView.{rows_in}
use Rattle.class_profile.proofs.Rings.{kept_rows, oldest_row}
use Rattle.class_profile.proofs.rows.Rows.capture.Goals as goal

pub returns-clause-rows : goal.returns-clause-rows
returns-clause-rows c =
    let entries = c.args.entries in
    let same = ap rows_in (sym c.in-Some.is) ∙ c.in_ok-give_places.ensures.rows ∙ c.self.view_is in
    ap (λ b. array_of (map tree b.items)) c.push_last.ensures.rows
    ∙ ap array_of (kept_rows entries c.in-Some.ring.items c.args.row)
    ∙ ap (λ ts. array_of (keep_last entries (ts ++ tree c.args.row ∷ []))) (same ∙ sym (parts-trees c.args.self.now))

pub returns-clause-dropped : goal.returns-clause-dropped
returns-clause-dropped c =
    let entries = c.args.entries in
    let same = ap rows_in (sym c.in-Some.is) ∙ c.in_ok-give_places.ensures.rows ∙ c.self.view_is in
    ap (option_map tree) c.push_last.ensures.dropped
    ∙ oldest_row entries c.in-Some.ring.items
    ∙ ap (λ ts. if length ts == entries then slice_get ts 0 else None) (same ∙ sym (parts-trees c.args.self.now))
