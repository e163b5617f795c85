use Rattle.std.proofs.Common.{◌∙◌, ◌++◌, None, Some, IfSome, append-nil, flat_map, ap, ap₂, length, option_map, subst, sym}
use Rattle.std.specs.Prelude.{slice_get}
use Rattle.std.proofs.lemmas.Result.{on_ok_weaker}
use Rattle.meter_theory.specs.Labels.{has, labelling_of_policy}
use Rattle.meter_theory.specs.Plan.{cells}
use Rattle.meter_theory.specs.Ways.{set_for}
use Rattle.flow_map.specs.Map.{Mapped}
use Rattle.flow_edges.specs.Table.{cell_at}
use Rattle.flow_ways.specs.Kept.{IsShown}
use Rattle.flow_ways.specs.Why.{IsBlockPut, indented, way_lines}
use Rattle.flow_ways.proofs.Told.{block-put}
use Rattle.flow_ways.proofs.why.push_block.Goals as goal

pub returns-in-None : goal.returns-in-None
returns-in-None c =
    let P = c.args.ways.now.plan in
    let Q = c.args.ways.now.policy in
    let x = cell_at (cells P) c.args.cell in
    let who = sym (ap (λ p. slice_get p.clients c.args.client) c.plan-plan.ensures) ∙ sym c.client.ensures ∙ ap (option_map (λ w. w.now)) c.in-Some.is in
    let shown = subst (λ o. IsShown P c.args.reach c.args.client x (option_map (λ es. es.items) o)) c.in-None.is c.in_ok-shown.ensures.shown in
    let allowed =
    c.allows.ensures
    ∙ ap (λ (C : Mapped). has (set_for c.args.reach (labelling_of_policy C.plan C.policy (cell_at (cells C.plan) c.args.cell))) c.args.client) c.map.ensures in
    subst (λ o. IfSome o (λ w. IsBlockPut P Q c.args.reach c.args.client w.name x c.args.text.now.items c.push_head.new.text.items)) (sym who)
    (block-put P Q c.args.reach c.args.client c.in-Some.who.now.name x None _ c.allows.result c.args.text.now.items c.push_head.new.text.items c.push_head.new.text.items shown
    (ap (option_map (λ es. length es.items)) c.in-None.is) allowed c.in_ok-push_head.ensures (sym (append-nil c.push_head.new.text.items)))

pub returns-in-Some-shown : goal.returns-in-Some-shown
returns-in-Some-shown c =
    let P = c.args.ways.now.plan in
    let Q = c.args.ways.now.policy in
    let x = cell_at (cells P) c.args.cell in
    let edges = c.in-Some-shown.edges.items in
    let name = c.in-Some.who.now.name in
    let who = sym (ap (λ p. slice_get p.clients c.args.client) c.plan-plan.ensures) ∙ sym c.client.ensures ∙ ap (option_map (λ w. w.now)) c.in-Some.is in
    let shown = subst (λ o. IsShown P c.args.reach c.args.client x (option_map (λ es. es.items) o)) c.in-Some-shown.is c.in_ok-shown.ensures.shown in
    let place = ap (λ cs. cell_at cs c.args.cell) c.cells.ensures in
    let allowed =
    c.allows.ensures
    ∙ ap (λ (C : Mapped). has (set_for c.args.reach (labelling_of_policy C.plan C.policy (cell_at (cells C.plan) c.args.cell))) c.args.client) c.map.ensures in
    on_ok_weaker c.push_way.result
    (λ put.
    subst (λ o. IfSome o (λ w. IsBlockPut P Q c.args.reach c.args.client w.name x c.args.text.now.items c.push_way.new.text.items)) (sym who)
    (block-put P Q c.args.reach c.args.client name x (Some edges) _ c.allows.result c.args.text.now.items c.push_head.new.text.items c.push_way.new.text.items shown
    (ap (option_map (λ es. length es.items)) c.in-Some-shown.is) allowed c.in_ok-push_head.ensures
    (put ∙ ap₂ (λ n y. c.push_head.new.text.items ++ flat_map indented (way_lines P c.args.reach c.args.client n y edges)) c.name_text.ensures place)))
    c.push_way.ensures
