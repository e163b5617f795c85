use Rattle.config_rules.proofs.NoMenus.{no_menus}
use Rattle.config_rules.proofs.laws.configurations_of_version_1_have_no_menus.Goals as goal

pub returns : goal.returns
returns c = record {
  none = λ config read version o i. no_menus config read version o i;
}
