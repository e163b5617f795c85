use Rattle.std.proofs.Common.{◌∙◌, ℕ, Bool, None, ap, get_or, sym}
use Rattle.meter_theory.specs.Labels.{has}
use Rattle.flow_changes.specs.Differences.{is_changed}
use Rattle.flow_changes.proofs.ReachDifferences.{failing-more, passing-more}
use Rattle.flow_changes.proofs.differences.clients_changed.Goals as goal
use Rattle.flow_changes.proofs.differences.clients_changed.Goals.{then-is_changed, else-is_changed}

pub loop-client-preserved : goal.loop-client-preserved
loop-client-preserved c =
    let i = c.loop-client.client in
    let p : ℕ → Bool = λ k. is_changed c.args.change c.args.reach k (get_or c.args.others.now k None) c.args.pair.now in
    let is = ap (λ o. is_changed c.args.change c.args.reach i o c.args.pair.now) (sym c.namesake_at-other.ensures) ∙ sym c.is_changed.ensures in
    elim c.if-is_changed.branch [
      | then-is_changed w ↦ λ k. ap (λ s. has s k) w.clients-is ∙ passing-more p c.loop-client.clients w.with-clients.result i c.loop-client.invariant (is ∙ w.if-is_changed.true) w.with-clients.ensures k
      | else-is_changed w ↦ λ k. ap (λ s. has s k) w.clients-is ∙ failing-more p c.loop-client.clients i c.loop-client.invariant (is ∙ w.if-is_changed.false) k
    ]
