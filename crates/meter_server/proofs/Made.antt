-- What was made of a configuration's text.
use Rattle.std.proofs.Common.{◌≡◌, ℕ, Result, Ok, Err, refl, subst}
use Rattle.meter_theory.specs.Labels.{Policy}
use Rattle.meter_theory.specs.Plan.{Plan}
use Rattle.config_text.specs.Fault.{Fault as ConfigFault}
use Rattle.config_text.specs.Parts.{ConfigText}
use Rattle.config_rules.specs.Faultless.{IsPolicyOf}
use Rattle.config_rules.specs.PlanOf.{plan_of}
use Rattle.config_reader.specs.ConfigOf.{Reads}
use Rattle.line_server.specs.declared.fault.LineFault.{LineFault}
use Rattle.line_server.specs.Lines.{Moment}
use Rattle.meter_server.specs.Outcomes.{outcome_of}
use Rattle.meter_server.specs.Program.{AnswersBy}
use Rattle.meter_server.specs.declared.texts.Source.{Source}

-- what was read is what the text says
pub said-of : (made : Plan × Policy) (said : Result ConfigText ConfigFault) → Reads (Ok made) said → (c : ConfigText) × (said ≡ Ok c) × (made.0 ≡ plan_of c) × IsPolicyOf c made.1
said-of made (Ok c) h = (c, refl, h.0, h.1)
said-of made (Err fault) h = absurd h

-- a run of lines over the plan of what the text says
pub lines-answered : (Runs : Plan → Moment → Moment → Result ℕ LineFault → Type 0) (config : Source) (made : Plan × Policy) (said : Result ConfigText ConfigFault) (before after : Moment) (r : Result ℕ LineFault) →
    Reads (Ok made) said → Runs made.0 before after r → AnswersBy Runs config said before after (outcome_of r)
lines-answered Runs config made said before after (Ok count) h run =
    let s = said-of made said h in (s.0, s.1, count, subst (λ (plan : Plan). Runs plan before after (Ok count)) s.2 run)
lines-answered Runs config made said before after (Err fault) h run =
    let s = said-of made said h in (s.0, s.1, subst (λ (plan : Plan). Runs plan before after (Err fault)) s.2 run)
