use Rattle.std.proofs.Common.{◌∙◌, ap, length, map, sym}
use Rattle.std.proofs.lemmas.List.{length-map}
use Rattle.std.proofs.lemmas.Simd.{map-map}
use Rattle.cosem_data.specs.declared.cell.CellRef.{CellRef}
use Rattle.meter_theory.specs.declared.flow.Label.{Label}
use Rattle.meter_theory.specs.Labels.{Labels, label_at, labelling_of, nobody, or_else}
use Rattle.meter_theory.specs.Plan.{cells}
use Rattle.flow_map.specs.Map.{Mapped}
use Rattle.config_warnings.specs.Widths.{wider_cells}
use Rattle.config_warnings.proofs.widths.wider_by_labels.Goals as goal

pub count_wider-requires : goal.count_wider-requires
count_wider-requires c =
    let C = c.args.least.now in
    let labels = c.args.labels.now in
    let some : Label = record { influence = nobody; learn = nobody } in
    ap length (c.deref-2.ensures.value ∙ c.in_ok-given.ensures ∙ ap (map (or_else some)) (c.deref.ensures.value ∙ c.in_ok-found.ensures ∙ ap (λ (m : Mapped). map (label_at labels) (cells m.plan)) c.map.ensures))
    ∙ length-map (map (label_at labels) (cells C.plan)) (or_else some)
    ∙ length-map (cells C.plan) (label_at labels)
    ∙ ap length (sym c.known.ensures.cells_are)
    ∙ length-map C.labels (λ (entry : CellRef × Label). entry.0)
    ∙ sym (ap length (c.entries.ensures ∙ c.labels.ensures))

pub returns : goal.returns
returns c =
    let C = c.args.least.now in
    let labels = c.args.labels.now in
    let some : Label = record { influence = nobody; learn = nobody } in
    let entries_are = c.entries.ensures ∙ c.labels.ensures in
    let given =
    c.deref-2.ensures.value
    ∙ (c.in_ok-given.ensures
    ∙ (ap (map (or_else some)) (c.deref.ensures.value ∙ c.in_ok-found.ensures ∙ ap (λ (m : Mapped). map (label_at labels) (cells m.plan)) c.map.ensures)
    ∙ (map-map (or_else some) (label_at labels) (cells C.plan)
    ∙ ap (map (labelling_of labels)) (sym c.known.ensures.cells_are ∙ ap (λ (ls : Labels). map (λ entry. entry.0) ls) (sym entries_are))))) in
    c.count_wider.ensures (labelling_of labels) given ∙ ap (wider_cells (labelling_of labels)) entries_are
