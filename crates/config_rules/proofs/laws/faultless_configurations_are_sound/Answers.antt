use Rattle.config_rules.proofs.Sound.{plan_is_sound}
use Rattle.config_rules.proofs.laws.faultless_configurations_are_sound.Goals as goal

pub returns : goal.returns
returns c = record {
  sound = λ config f. plan_is_sound config f.read f.judged;
}
