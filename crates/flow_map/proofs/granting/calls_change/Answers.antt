use Rattle.std.proofs.Common.{◌≡◌, ◌∙◌, ◌&&◌, ap, sym, subst, true}
use Rattle.meter_theory.specs.Edges.{among}
use Rattle.meter_theory.specs.Labels.{calls_effects, method_changes_of}
use Rattle.meter_theory.specs.Rights.{has_right, lists, may_act}
use Rattle.flow_map.proofs.Seeking.{walk-seeks}
use Rattle.flow_map.proofs.granting.calls_change.Goals as goal

pub returns : goal.returns
returns c =
    let P = c.args.plan.now in
    let m = c.args.method.now in
    let x = c.args.cell.now in
    let may : may_act P c.args.client m ≡ true =
    subst (λ i. has_right i.plan c.args.client i.name (λ r. lists r.acts m.index) ≡ true) c.instance.ensures (sym c.may_act.ensures ∙ c.if-not-may_act.false) in
    walk-seeks x (calls_effects P m) c.new-seeking.result c.each_of_calls.new.visitor (ap (λ s. s.cell) c.new-seeking.ensures) (ap (λ s. s.found) c.new-seeking.ensures) c.in-Ok.ensures
    ∙ ap (λ b. b && among (method_changes_of P m) x) (sym may)
