use Rattle.std.proofs.Common.{◌≡◌, ◌∙◌, Bool, true, false, not, cond, ap, ap₂, sym, arith}
use Rattle.std.specs.List.{filter, range_with_len}
use Rattle.std.specs.Prelude.{◌&&◌}
use Rattle.meter_theory.specs.Labels.{has, nobody, with_client}
use Rattle.meter_theory.proofs.ClientSets.{new_is_nobody, with_is}
use Rattle.label_certificate.specs.Members.{with_clients}
use Rattle.flow_checker.specs.Failures.{is_beyond}
use Rattle.flow_checker.proofs.ByNumber.{beyond-more}
use Rattle.flow_checker.proofs.sets.beyond.Goals as goal
use Rattle.flow_checker.proofs.sets.beyond.Goals.{then-has+then-not-has, else-has, else-has-via-then-has+else-not-has, else-has-via-else-has}

pub loop-client-init : goal.loop-client-init
loop-client-init c = new_is_nobody c.new-found.result c.new-found.ensures

pub loop-client-preserved : goal.loop-client-preserved
loop-client-preserved c =
    let n = c.loop-client.client in
    let before = with_clients nobody (filter (is_beyond c.args.set c.args.other) (range_with_len 0 n)) in
    let more = λ (b : Bool) (is : is_beyond c.args.set c.args.other n ≡ b).
    ap (λ v. cond v (with_client before n) before) (sym is) ∙ sym (beyond-more c.args.set c.args.other n) in
    elim c.if-has.branch [
      | then-has+then-not-has w ↦
          w.found-is ∙ (with_is c.loop-client.found w.with-found.result n c.loop-client-test.true w.with-found.ensures ∙ (ap (λ found. with_client found n) c.loop-client.invariant
          ∙ more true (ap₂ (λ a b. a && not b) (sym c.has.ensures ∙ w.if-has.true) (sym w.has-then-has.ensures ∙ w.if-not-has.true))))
      | else-has w ↦ w.found-is ∙ (c.loop-client.invariant ∙ elim w.else-has.branch [
        | else-has-via-then-has+else-not-has v ↦ more false (ap₂ (λ a b. a && not b) (sym c.has.ensures ∙ v.if-has.true) (sym v.has-then-has.ensures ∙ v.if-not-has.false))
        | else-has-via-else-has v ↦ more false (ap (λ a. a && not (has c.args.other n)) (sym c.has.ensures ∙ v.if-has.false))
      ])
    ]

pub returns : goal.returns
returns c =
    let last : c.loop-client.client ≡ 16 = omega (arith, c.loop-client-test.false, c.loop-client.auto.client-end) in
    c.loop-client.invariant ∙ ap (λ n. with_clients nobody (filter (is_beyond c.args.set c.args.other) (range_with_len 0 n))) last
