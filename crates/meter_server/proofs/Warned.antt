-- What is warned of behind a verdict.
use Rattle.std.proofs.Common.{◌≡◌, Bool, true, false, [], Some, inl, inr, refl, subst, sym, Ok}
use Rattle.config_reader.specs.ConfigOf.{Reads, config_of}
use Rattle.config_text.specs.Parts.{ConfigText}
use Rattle.command_words.specs.declared.command.Warned.{Warned}
use Rattle.meter_theory.specs.Labels.{Policy}
use Rattle.meter_theory.specs.Plan.{Plan}
use Rattle.verdict.proofs.Judged.{judged}
use Rattle.verdict.specs.declared.Verdict.TheVariants.{Accepted}
use Rattle.meter_server.specs.Answering.{TellsChecked, TellsJudgement}
use Rattle.meter_server.specs.Warning.{IsChecked, IsWarned, JudgesOn, Warns}
use Rattle.meter_server.specs.declared.outcome.Outcome.{Outcome}
use Rattle.meter_server.specs.declared.texts.Source.{Source}
use Rattle.meter_server.proofs.Answered.{refused-so}
use Rattle.meter_server.proofs.Made.{said-of}

-- a judgement of a plan is one of the text that has it
judged-so : (tells_all : Bool) (config labels : Source) (made : Plan × Policy) (outcome : Outcome) → Reads (Ok made) (config_of config.text.now) → JudgesOn tells_all config labels made.0 made.1 outcome →
    TellsJudgement tells_all config labels outcome
judged-so tells_all config labels made outcome reads (inl refuses) = (refused-so tells_all config labels made outcome reads refuses).0
judged-so false config labels made outcome reads (inr (accepts, (remarks, is, nothing))) =
    subst (TellsJudgement false config labels) (sym is) (Accepted, judged made (config_of config.text.now) labels.text.now Accepted reads accepts, (refl, nothing))
judged-so true config labels made outcome reads (inr (accepts, (remarks, is, nothing))) =
    let v = judged made (config_of config.text.now) labels.text.now Accepted reads accepts in
    subst (TellsJudgement true config labels) (sym is) (Accepted, Some [], (v.0, v.1, v.2, v.3, (v.4, refl)), (refl, (refl, nothing)))

-- what is told of a plan is told of the text that has it
pub checked-so : (tells_all : Bool) (warned : Warned) (config labels : Source) (made : Plan × Policy) (outcome : Outcome) → Reads (Ok made) (config_of config.text.now) →
    IsChecked tells_all warned config labels made.0 made.1 outcome → (c : ConfigText) × (config_of config.text.now ≡ Ok c) × TellsChecked tells_all warned config c labels outcome
checked-so tells_all warned config labels made outcome reads (before, judges, behind) =
    let s = said-of made (config_of config.text.now) reads in
    (s.0, s.1, (before, made.1, judged-so tells_all config labels made before reads judges, s.3, subst (λ (P : Plan). IsWarned (Warns warned config (Some labels) P made.1) before outcome) s.2 behind))
