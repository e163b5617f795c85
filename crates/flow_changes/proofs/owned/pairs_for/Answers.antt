use Rattle.std.proofs.Common.{◌≡◌, ◌∙◌, IfOk, Some, None, ap, map, subst, sym, cond}
use Rattle.meter_theory.specs.Labels.{labelling_of, labelling_of_policy}
use Rattle.meter_theory.specs.Plan.{cells, is_cell}
use Rattle.flow_map.specs.Map.{Mapped}
use Rattle.flow_changes.specs.Singles.{ArePairs, pair_of}
use Rattle.flow_changes.proofs.owned.pairs_for.Goals as goal

pub returns-in-May : goal.returns-in-May
returns-in-May c =
    let C = c.args.mine.now in
    let D = c.args.theirs.now in
    let ours = c.cells-cells.ensures ∙ ap (λ (m : Mapped). cells m.plan) c.map.ensures in
    let plan_is = c.plan-plan.ensures ∙ ap (λ (m : Mapped). m.plan) c.map-2.ensures in
    let labels = c.reached.ensures ∙ ap (map (labelling_of C.labels)) (sym ours) in
    let others = c.reached-in-May.ensures ∙ ap (λ P. map (labelling_of D.labels) (cells P)) (sym plan_is) in
    subst (λ k. IfOk c.pairs_of.result (λ pairs. ArePairs k C D pairs.items)) (sym c.in-May.is)
    (subst (λ k. IfOk c.pairs_of.result (λ pairs. pairs.items ≡ map (λ x. pair_of k (labelling_of C.labels x) (cond (is_cell D.plan x) (Some (labelling_of D.labels x)) None)) (cells C.plan))) c.in-May.is
    (subst (λ cs. IfOk c.pairs_of.result (λ pairs. pairs.items ≡ map (λ x. pair_of c.args.kind (labelling_of C.labels x) (cond (is_cell D.plan x) (Some (labelling_of D.labels x)) None)) cs)) ours
    (subst (λ P. IfOk c.pairs_of.result (λ pairs. pairs.items ≡ map (λ x. pair_of c.args.kind (labelling_of C.labels x) (cond (is_cell P x) (Some (labelling_of D.labels x)) None)) c.cells-cells.result.now)) plan_is
    (c.pairs_of.ensures (labelling_of C.labels) (labelling_of D.labels) labels others))))

pub returns-in-Allowed : goal.returns-in-Allowed
returns-in-Allowed c =
    let C = c.args.mine.now in
    let D = c.args.theirs.now in
    let ours = c.cells-cells.ensures ∙ ap (λ (m : Mapped). cells m.plan) c.map.ensures in
    let plan_is = c.plan-plan.ensures ∙ ap (λ (m : Mapped). m.plan) c.map-2.ensures in
    let labels = c.allowed.ensures ∙ ap (λ (m : Mapped). map (labelling_of_policy m.plan m.policy) (cells m.plan)) c.map-in-Allowed.ensures ∙ ap (map (labelling_of_policy C.plan C.policy)) (sym ours) in
    let others = c.allowed-in-Allowed.ensures ∙ ap (λ (m : Mapped). map (labelling_of_policy m.plan m.policy) (cells m.plan)) c.map-in-Allowed-2.ensures ∙ ap (λ P. map (labelling_of_policy D.plan D.policy) (cells P)) (sym plan_is) in
    subst (λ k. IfOk c.pairs_of-in-Allowed.result (λ pairs. ArePairs k C D pairs.items)) (sym c.in-Allowed.is)
    (subst (λ k. IfOk c.pairs_of-in-Allowed.result (λ pairs. pairs.items ≡ map (λ x. pair_of k (labelling_of_policy C.plan C.policy x) (cond (is_cell D.plan x) (Some (labelling_of_policy D.plan D.policy x)) None)) (cells C.plan))) c.in-Allowed.is
    (subst (λ cs. IfOk c.pairs_of-in-Allowed.result (λ pairs. pairs.items ≡ map (λ x. pair_of c.args.kind (labelling_of_policy C.plan C.policy x) (cond (is_cell D.plan x) (Some (labelling_of_policy D.plan D.policy x)) None)) cs)) ours
    (subst (λ P. IfOk c.pairs_of-in-Allowed.result (λ pairs. pairs.items ≡ map (λ x. pair_of c.args.kind (labelling_of_policy C.plan C.policy x) (cond (is_cell P x) (Some (labelling_of_policy D.plan D.policy x)) None)) c.cells-cells.result.now)) plan_is
    (c.pairs_of-in-Allowed.ensures (labelling_of_policy C.plan C.policy) (labelling_of_policy D.plan D.policy) labels others))))
