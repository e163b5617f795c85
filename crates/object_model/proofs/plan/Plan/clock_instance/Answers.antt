use Rattle.std.proofs.Common.{◌==◌, ◌∙◌, ap, sym}
use Rattle.std.specs.Prelude.{option_map}
use Rattle.meter_theory.specs.Plan.{class_of}
use Rattle.object_model.proofs.Positions.{first, first-none}
use Rattle.object_model.proofs.Numbered.{clock_here}
use Rattle.object_model.proofs.plan.Plan.clock_instance.Goals as goal

pub instance_of-requires : goal.instance_of-requires
instance_of-requires c = (first (λ o. class_of o.part == 8) c.args.self.now.objects c.in-Some.number (sym c.clock_number.ensures ∙ c.in-Some.is)).within

pub returns-in-Some-clause-plan : goal.returns-in-Some-clause-plan
returns-in-Some-clause-plan c = (clock_here c.args.self.now c.in-Some.number c.instance_of.result (sym c.clock_number.ensures ∙ c.in-Some.is) c.instance_of.ensures).0

pub returns-in-Some-clause-name : goal.returns-in-Some-clause-name
returns-in-Some-clause-name c = (clock_here c.args.self.now c.in-Some.number c.instance_of.result (sym c.clock_number.ensures ∙ c.in-Some.is) c.instance_of.ensures).1

pub returns-in-None-clause-name : goal.returns-in-None-clause-name
returns-in-None-clause-name c = ap (option_map (λ o. o.name)) (sym (first-none (λ o. class_of o.part == 8) c.args.self.now.objects (sym c.clock_number.ensures ∙ c.in-None.is)))
