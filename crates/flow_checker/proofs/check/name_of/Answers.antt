use Rattle.std.proofs.Common.{◌∙◌, sym, ap}
use Rattle.std.specs.Prelude.{option_map}
use Rattle.flow_checker.specs.Answer.{name_in}
use Rattle.flow_checker.proofs.check.name_of.Goals as goal

pub returns-in-None : goal.returns-in-None
returns-in-None c = c.new.ensures.bytes ∙ ap name_in (ap (option_map (λ client. client.now)) (sym c.in-None.is) ∙ c.client.ensures)
