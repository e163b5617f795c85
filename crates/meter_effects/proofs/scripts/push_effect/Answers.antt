use Rattle.meter_effects.proofs.Added.{adds_one}
use Rattle.meter_effects.proofs.scripts.push_effect.Goals as goal

pub returns : goal.returns
returns c = λ P may. adds_one P c.args.effects.now.items c.push.new.self.items c.args.effect c.in_ok-push.ensures.items may
