use Rattle.config_rules.proofs.Sound.{plan_is_sound}
use Rattle.config_rules.proofs.laws.faultless_configurations_have_at_most_one_clock.Goals as goal

pub returns : goal.returns
returns c = record {
  clock = λ config f. (plan_is_sound config f.read f.judged).one_clock;
}
