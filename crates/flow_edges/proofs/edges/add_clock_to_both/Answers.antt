use Rattle.std.proofs.Common.{Some, option_map, ◌∙◌, ap, sym, subst}
use Rattle.std.proofs.lemmas.Result.{on_ok_weaker}
use Rattle.meter_theory.specs.Lists.{IsIn}
use Rattle.meter_theory.specs.Plan.{cells, clock_object}
use Rattle.flow_edges.specs.Table.{cell_at}
use Rattle.flow_edges.proofs.Objects.{both-added}
use Rattle.flow_edges.proofs.Sources.{clock-cell}
use Rattle.flow_edges.proofs.edges.add_clock_to_both.Goals as goal

pub number_of-clock-requires-clause-of_plan : goal.number_of-clock-requires-clause-of_plan
number_of-clock-requires-clause-of_plan c =
    subst (λ P. IsIn (cells P) c.clock_time.result) (sym (c.in-Some.ensures.plan ∙ c.plan.ensures))
    (subst (IsIn (cells c.args.instance.now.plan)) (sym c.clock_time.ensures)
    (clock-cell c.args.instance.now.plan c.name.result (ap Some c.name.ensures ∙ c.in-Some.ensures.name ∙ ap (λ P. option_map (λ o. o.name) (clock_object P)) c.plan.ensures)))

pub returns : goal.returns
returns c =
    let a = c.args.table.now in
    on_ok_weaker c.add-2.result
    (both-added c.args.instance.now.plan c.name.result a c.add.new.self c.add-2.new.self c.number_of-clock.result c.args.first c.args.second (ap Some c.name.ensures ∙ c.in-Some.ensures.name ∙ ap (λ P. option_map (λ o. o.name) (clock_object P)) c.plan.ensures)
    (ap (λ cs. cell_at cs c.number_of-clock.result) (c.requires.cells ∙ ap cells (sym (c.in-Some.ensures.plan ∙ c.plan.ensures))) ∙ c.number_of-clock.ensures.there ∙ c.clock_time.ensures)
    c.in_ok-add.ensures.ok)
    c.add-2.ensures.ok
