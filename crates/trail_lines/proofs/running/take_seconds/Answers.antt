use Rattle.std.proofs.Common.{◌≡◌, arith, refl}
use Rattle.trail_lines.proofs.Alone.{second-taken, seconds-taken}
use Rattle.trail_lines.proofs.running.take_seconds.Goals as goal

pub loop-second-init : goal.loop-second-init
loop-second-init c = refl

pub loop-second-preserved : goal.loop-second-preserved
loop-second-preserved c = second-taken c.args.meter.now c.loop-second.meter c.take.new.self c.loop-second._second c.loop-second.invariant c.in_ok-take.ensures.ok

pub returns : goal.returns
returns c =
    let all : c.loop-second._second ≡ c.args.seconds = omega arith in
    seconds-taken c.args.meter.now c.loop-second.meter c.loop-second._second c.args.seconds all c.loop-second.invariant
