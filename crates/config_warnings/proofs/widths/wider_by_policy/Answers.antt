use Rattle.std.proofs.Common.{◌∙◌, ap, length, map, sym}
use Rattle.std.proofs.lemmas.List.{length-map}
use Rattle.cosem_data.specs.declared.cell.CellRef.{CellRef}
use Rattle.meter_theory.specs.declared.flow.Label.{Label}
use Rattle.meter_theory.specs.Labels.{Labels, labelling_of_policy}
use Rattle.meter_theory.specs.Plan.{cells}
use Rattle.flow_map.specs.Map.{Mapped}
use Rattle.config_warnings.specs.Widths.{wider_cells}
use Rattle.config_warnings.proofs.widths.wider_by_policy.Goals as goal

pub count_wider-requires : goal.count_wider-requires
count_wider-requires c =
    let C = c.args.least.now in
    ap length (c.allowed.ensures ∙ ap (λ (m : Mapped). map (labelling_of_policy m.plan m.policy) (cells m.plan)) c.map.ensures ∙ ap (map (labelling_of_policy C.plan C.policy)) (sym c.known.ensures.cells_are))
    ∙ length-map (map {A = CellRef × Label} (λ entry. entry.0) C.labels) (labelling_of_policy C.plan C.policy)
    ∙ length-map C.labels (λ (entry : CellRef × Label). entry.0)
    ∙ sym (ap length (c.entries.ensures ∙ c.labels.ensures))

pub returns : goal.returns
returns c =
    let C = c.args.least.now in
    let labelling = labelling_of_policy C.plan C.policy in
    let entries_are = c.entries.ensures ∙ c.labels.ensures in
    let allowed = c.allowed.ensures ∙ ap (λ (m : Mapped). map (labelling_of_policy m.plan m.policy) (cells m.plan)) c.map.ensures ∙ ap (map labelling) (sym c.known.ensures.cells_are ∙ ap (λ (ls : Labels). map (λ entry. entry.0) ls) (sym entries_are)) in
    c.count_wider.ensures labelling allowed ∙ ap (wider_cells labelling) entries_are
