use Rattle.std.proofs.Common.{[], length, map, refl, sym, ap, ap₂, subst, ◌∙◌}
use Rattle.std.proofs.KnownBytes.{Appends-nil}
use Rattle.std.proofs.lemmas.List.{length-map}
use Rattle.std.proofs.lemmas.Result.{err_from_is_err_and}
use Rattle.meter_theory.specs.Edges.{edges}
use Rattle.meter_theory.specs.Plan.{cells}
use Rattle.label_certificate.proofs.Closed.{links-within}
use Rattle.whole_writes.specs.Written.{WritesText}
use Rattle.flow_forms.specs.Listing.{cell_within, form_text, list_text}
use Rattle.flow_forms.proofs.Listed.{list-lines, sources_of, targets_of}
use Rattle.flow_forms.proofs.edges.write_list.Goals as goal

pub write_links-requires-clause-sources : goal.write_links-requires-clause-sources
write_links-requires-clause-sources g c =
    let form = c.args.form.now in
    let texts = c.in_ok-sources.sources.items in
    let size = ap length c.deref.ensures.value ∙ sym (length-map texts (λ text. text.items)) ∙ ap length c.in_ok-sources.ensures ∙ length-map c.cells.result.now (cell_within form.start.now form.between.now) ∙ ap length c.cells.ensures in
    links-within (cells c.args.map.now.plan) c.links.result.now (length c.deref.result.now) c.links.ensures.within size

pub write_links-requires-clause-targets : goal.write_links-requires-clause-targets
write_links-requires-clause-targets g c =
    let form = c.args.form.now in
    let texts = c.in_ok-targets.targets.items in
    let size = ap length c.deref-2.ensures.value ∙ sym (length-map texts (λ text. text.items)) ∙ ap length c.in_ok-targets.ensures ∙ length-map c.cells-2.result.now (cell_within [] form.label.now) ∙ ap length c.cells-2.ensures in
    links-within (cells c.args.map.now.plan) c.links.result.now (length c.deref-2.result.now) c.links.ensures.within size

pub returns : goal.returns
returns g c =
    let form = c.args.form.now in
    let links = c.links.result.now in
    let xs = cells c.args.map.now.plan in
    let sources = ap (map (λ text. text.items)) c.deref.ensures.value ∙ c.in_ok-sources.ensures ∙ ap (sources_of form) c.cells.ensures in
    let targets = ap (map (λ text. text.items)) c.deref-2.ensures.value ∙ c.in_ok-targets.ensures ∙ ap (targets_of form) c.cells-2.ensures in
    let same =
    ap₂ (λ ss ts. list_text form ss ts links) sources targets
    ∙ list-lines form xs links c.links.ensures.within
    ∙ ap (form_text form) c.links.ensures.edges in
    subst (λ text. WritesText text (g.W.Write.contents c.args.writer.now) (g.W.Write.contents c.write_links.new.writer) c.write_links.result) same c.write_links.ensures

pub returns-in_err-sources : goal.returns-in_err-sources
returns-in_err-sources g c =
    let p = err_from_is_err_and c.from_residual.result c.from_residual.ensures.1 in rw (p.1, p.2) ([], form_text c.args.form.now (edges c.args.map.now.plan), refl, Appends-nil (g.W.Write.contents c.args.writer.now), tt)

pub returns-in_err-targets : goal.returns-in_err-targets
returns-in_err-targets g c =
    let p = err_from_is_err_and c.from_residual-in_err-targets.result c.from_residual-in_err-targets.ensures.1 in rw (p.1, p.2) ([], form_text c.args.form.now (edges c.args.map.now.plan), refl, Appends-nil (g.W.Write.contents c.args.writer.now), tt)
