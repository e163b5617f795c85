use Rattle.meter_server.proofs.Mapped.{compares-of}
use Rattle.meter_server.proofs.comparing.write_between.Goals as goal

pub returns : goal.returns
returns g c =
    let old = c.in_ok-old.old in
    let new = c.in_ok-new.new in
    compares-of c.args.old.now old.plan c.args.old_policy.now old.policy c.args.new.now new.plan c.args.new_policy.now new.policy (g.O.Write.contents c.args.output.now) (g.O.Write.contents c.write_comparison.new.writer) c.write_comparison.result
    c.in_ok-old.ensures.plan c.in_ok-old.ensures.policy c.in_ok-new.ensures.plan c.in_ok-new.ensures.policy c.write_comparison.ensures
