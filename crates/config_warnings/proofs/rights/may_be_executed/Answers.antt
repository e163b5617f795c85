use Rattle.std.proofs.Common.{◌≡◌, ◌<◌, ◌+◌, true, false, length, ap, sym, ◌∙◌, arith}
use Rattle.std.specs.List.{range_with_len}
use Rattle.meter_theory.specs.Rights.{has_right, lists}
use Rattle.meter_theory.proofs.Lists.{in_any, in_range}
use Rattle.object_model.specs.InstanceView.{AtName}
use Rattle.config_warnings.specs.Found.{may_execute}
use Rattle.config_warnings.proofs.Placed.{none-more}
use Rattle.config_warnings.proofs.rights.may_be_executed.Goals as goal

pub returns-then-may_act : goal.returns-then-may_act
returns-then-may_act c =
    let P = c.args.plan.now in
    let table = c.args.table.now in
    let client = c.loop-client.client in
    let may : may_execute P table client ≡ true =
    ap (λ (i : AtName). has_right i.plan client i.name (λ r. lists r.acts 1)) (sym c.instance-instance.ensures) ∙ (sym c.may_act.ensures ∙ c.if-may_act.true) in
    let within : client < 0 + length P.clients = omega (arith, c.loop-client-test.true, c.client_count-client-end.ensures) in
    sym (in_any (may_execute P table) (range_with_len 0 (length P.clients)) client (in_range 0 (length P.clients) client (omega arith) within) may)

pub loop-client-preserved : goal.loop-client-preserved
loop-client-preserved c =
    let P = c.args.plan.now in
    let table = c.args.table.now in
    let client = c.loop-client.client in
    let may : may_execute P table client ≡ false =
    ap (λ (i : AtName). has_right i.plan client i.name (λ r. lists r.acts 1)) (sym c.instance-instance.ensures) ∙ (sym c.may_act.ensures ∙ c.if-may_act.false) in
    none-more (may_execute P table) client c.loop-client.invariant may
