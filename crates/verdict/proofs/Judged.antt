-- The verdict on what a configuration's text says.
use Rattle.std.proofs.Common.{ℕ, List, Option, Result, Ok, Err, refl, subst}
use Rattle.meter_theory.specs.Labels.{Policy}
use Rattle.meter_theory.specs.Plan.{Plan}
use Rattle.config_text.specs.Fault.{Fault as ConfigFault}
use Rattle.config_text.specs.Parts.{ConfigText}
use Rattle.config_reader.specs.ConfigOf.{Reads}
use Rattle.verdict.specs.declared.Verdict.{Verdict}
use Rattle.verdict.specs.declared.Verdict.TheVariants.{Accepted, Config, Labels, Refused}
use Rattle.verdict.specs.Judging.{IsVerdict, IsVerdictOn, IsWholeVerdict, IsWholeVerdictOn}

-- the same with what is told behind it
pub judged-whole : (made : Plan × Policy) (said : Result ConfigText ConfigFault) (text : List ℕ) (verdict : Verdict) (told : Option (List ℕ)) → Reads (Ok made) said →
    IsWholeVerdictOn made.0 made.1 text verdict told → IsWholeVerdict said text verdict told
judged-whole made (Err fault) text verdict told h is = absurd h
judged-whole made (Ok c) text Accepted told h is = (c, made.1, refl, h.1, subst (λ (P : Plan). IsWholeVerdictOn P made.1 text Accepted told) h.0 is)
judged-whole made (Ok c) text (Labels fault) told h is = (c, made.1, refl, h.1, subst (λ (P : Plan). IsWholeVerdictOn P made.1 text (Labels fault) told) h.0 is)
judged-whole made (Ok c) text (Refused refused) told h is = (c, made.1, refl, h.1, subst (λ (P : Plan). IsWholeVerdictOn P made.1 text (Refused refused) told) h.0 is)
judged-whole made (Ok c) text (Config fault) told h is = absurd is.0

-- a verdict over the plan and the policy of what the text says
pub judged : (made : Plan × Policy) (said : Result ConfigText ConfigFault) (text : List ℕ) (verdict : Verdict) → Reads (Ok made) said → IsVerdictOn made.0 made.1 text verdict → IsVerdict said text verdict
judged made (Err fault) text verdict h is = absurd h
judged made (Ok c) text Accepted h is = (c, made.1, refl, h.1, subst (λ (P : Plan). IsVerdictOn P made.1 text Accepted) h.0 is)
judged made (Ok c) text (Labels fault) h is = (c, made.1, refl, h.1, subst (λ (P : Plan). IsVerdictOn P made.1 text (Labels fault)) h.0 is)
judged made (Ok c) text (Refused refused) h is = (c, made.1, refl, h.1, subst (λ (P : Plan). IsVerdictOn P made.1 text (Refused refused)) h.0 is)
judged made (Ok c) text (Config fault) h is = absurd is
