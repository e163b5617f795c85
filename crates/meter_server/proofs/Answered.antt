-- What commands come to over files.
use Rattle.std.proofs.Common.{◌≡◌, ℕ, Bool, true, false, List, Option, Some, inl, inr, refl, ap, sym, subst, ◌∙◌, Result, Ok, Err, IfOk, IfErr}
use Rattle.std.specs.Prelude.{◌≢◌, MatchResult}
use Rattle.config_reader.specs.ConfigOf.{Reads, config_of}
use Rattle.config_rules.specs.Faultless.{IsPolicyOf}
use Rattle.flow_checker.specs.declared.check.Checked.{Checked}
use Rattle.meter_theory.specs.Labels.{Policy}
use Rattle.meter_theory.specs.Plan.{Plan}
use Rattle.verdict.specs.Judging.{IsVerdictOn}
use Rattle.verdict.specs.declared.Verdict.{Verdict}
use Rattle.verdict.proofs.Judged.{judged, judged-whole}
use Rattle.verdict.specs.declared.Verdict.TheVariants.{Accepted, Config, Labels, Refused}
use Rattle.live_server.specs.declared.fault.ServerFault.{ServerFault}
use Rattle.step_stores.specs.declared.fault.StoreFault.{StoreFault}
use Rattle.meter_server.specs.Answering.{IsAcceptedOf, IsEndOfServing, IsNoAcceptance, IsServed, RefusesFiles, TellsJudgement, TellsUnstored}
use Rattle.meter_server.specs.Files.{IsFile, TellsUnread}
use Rattle.meter_server.specs.Outcomes.{ended}
use Rattle.meter_server.specs.Program.{IsJudged, IsJudgedWhole, RefusesOn}
use Rattle.meter_server.proofs.Made.{said-of}
use Rattle.meter_server.specs.declared.outcome.Outcome.{Outcome}
use Rattle.meter_server.specs.declared.outcome.Outcome.TheVariants.{Done, Warned, Judged, JudgedWhole, JudgedSide, Compared, Words, Unread, UnreadFleet, Stranger, Fault, Broken, Unserved, Unbound, Unstored, Audited, Unaudited, Unwritten, Untranslated, Closed}
use Rattle.meter_server.specs.declared.texts.Source.{Source}
use Rattle.text_files.specs.Files.{MayRead}
use Rattle.text_files.specs.declared.FileFault.{FileFault}

-- a file that was read, as a source
pub file-read : (reads : MayRead) (path text : List ℕ) (source : Source) → source.file.now ≡ path → source.text.now ≡ text → reads path (Ok text) → IsFile reads path source
file-read reads path text source file same h = record { file = file; text = subst (λ (t : List ℕ). reads path (Ok t)) (sym same) h }

-- where a file isn't read, nothing is accepted
pub unread-accepts-nothing : (path : List ℕ) (why : FileFault) (outcome : Outcome) → TellsUnread path why outcome → IsNoAcceptance outcome
unread-accepts-nothing path why (Judged verdict text) h = absurd h
unread-accepts-nothing path why (JudgedWhole verdict failures text) h = absurd h
unread-accepts-nothing path why Done h = tt
unread-accepts-nothing path why (Words fault) h = tt
unread-accepts-nothing path why (Unread file told) h = tt
unread-accepts-nothing path why (Stranger told) h = tt
unread-accepts-nothing path why (Fault fault) h = tt
unread-accepts-nothing path why (Broken fault) h = tt
unread-accepts-nothing path why (Unserved fault) h = tt
unread-accepts-nothing path why (Unbound bound cause) h = tt
unread-accepts-nothing path why (Unstored file fault) h = tt
unread-accepts-nothing path why (JudgedSide side verdict text) h = tt
unread-accepts-nothing path why (Compared gives) h = tt
unread-accepts-nothing path why (Warned warnings) h = tt
unread-accepts-nothing path why (UnreadFleet files) h = tt
unread-accepts-nothing path why (Audited text accepts explanation) h = tt
unread-accepts-nothing path why (Unaudited fault) h = tt
unread-accepts-nothing path why (Unwritten fault) h = tt
unread-accepts-nothing path why (Untranslated fault) h = tt
unread-accepts-nothing path why Closed h = tt

-- nor where the verdict doesn't accept
pub refusal-accepts-nothing : (config labels : Source) (verdict : Verdict) (outcome : Outcome) → verdict ≢ Accepted → IsJudged verdict outcome → IsNoAcceptance outcome
refusal-accepts-nothing config labels verdict (Judged Accepted text) never h = never (sym h.0)
refusal-accepts-nothing config labels verdict (Judged (Config fault) text) never h = tt
refusal-accepts-nothing config labels verdict (Judged (Labels fault) text) never h = tt
refusal-accepts-nothing config labels verdict (Judged (Refused refused) text) never h = tt
refusal-accepts-nothing config labels verdict (JudgedWhole judged failures text) never h = absurd h
refusal-accepts-nothing config labels verdict Done never h = absurd h
refusal-accepts-nothing config labels verdict (Words fault) never h = absurd h
refusal-accepts-nothing config labels verdict (Unread file told) never h = absurd h
refusal-accepts-nothing config labels verdict (Stranger told) never h = absurd h
refusal-accepts-nothing config labels verdict (Fault fault) never h = absurd h
refusal-accepts-nothing config labels verdict (Broken fault) never h = absurd h
refusal-accepts-nothing config labels verdict (Unserved fault) never h = absurd h
refusal-accepts-nothing config labels verdict (Unbound bound cause) never h = absurd h
refusal-accepts-nothing config labels verdict (Unstored file fault) never h = absurd h
refusal-accepts-nothing config labels verdict (JudgedSide side judged text) never h = absurd h
refusal-accepts-nothing config labels verdict (Compared gives) never h = absurd h
refusal-accepts-nothing config labels verdict (Warned warnings) never h = absurd h
refusal-accepts-nothing config labels verdict (UnreadFleet files) never h = absurd h
refusal-accepts-nothing config labels verdict (Audited text accepts explanation) never h = absurd h
refusal-accepts-nothing config labels verdict (Unaudited fault) never h = absurd h
refusal-accepts-nothing config labels verdict (Unwritten fault) never h = absurd h
refusal-accepts-nothing config labels verdict (Untranslated fault) never h = absurd h
refusal-accepts-nothing config labels verdict Closed never h = absurd h

-- nor where all that fails is told
whole-accepts-nothing : (config labels : Source) (verdict : Verdict) (told : Option (List ℕ)) (outcome : Outcome) → verdict ≢ Accepted → IsJudgedWhole verdict told outcome → IsNoAcceptance outcome
whole-accepts-nothing config labels verdict told (Judged Accepted text) never h = never (sym h.1.0)
whole-accepts-nothing config labels verdict told (Judged (Config fault) text) never h = tt
whole-accepts-nothing config labels verdict told (Judged (Labels fault) text) never h = tt
whole-accepts-nothing config labels verdict told (Judged (Refused refused) text) never h = tt
whole-accepts-nothing config labels verdict told (JudgedWhole Accepted failures text) never h = never (sym h.1.0)
whole-accepts-nothing config labels verdict told (JudgedWhole (Config fault) failures text) never h = tt
whole-accepts-nothing config labels verdict told (JudgedWhole (Labels fault) failures text) never h = tt
whole-accepts-nothing config labels verdict told (JudgedWhole (Refused refused) failures text) never h = tt
whole-accepts-nothing config labels verdict told Done never h = tt
whole-accepts-nothing config labels verdict told (Words fault) never h = tt
whole-accepts-nothing config labels verdict told (Unread file why) never h = tt
whole-accepts-nothing config labels verdict told (Stranger words) never h = tt
whole-accepts-nothing config labels verdict told (Fault fault) never h = tt
whole-accepts-nothing config labels verdict told (Broken fault) never h = tt
whole-accepts-nothing config labels verdict told (Unserved fault) never h = tt
whole-accepts-nothing config labels verdict told (Unbound bound cause) never h = tt
whole-accepts-nothing config labels verdict told (Unstored file fault) never h = tt
whole-accepts-nothing config labels verdict told (JudgedSide side judged text) never h = tt
whole-accepts-nothing config labels verdict told (Compared gives) never h = tt
whole-accepts-nothing config labels verdict told (Warned warnings) never h = tt
whole-accepts-nothing config labels verdict told (UnreadFleet files) never h = tt
whole-accepts-nothing config labels verdict told (Audited text accepts explanation) never h = tt
whole-accepts-nothing config labels verdict told (Unaudited fault) never h = tt
whole-accepts-nothing config labels verdict told (Unwritten fault) never h = tt
whole-accepts-nothing config labels verdict told (Untranslated fault) never h = tt
whole-accepts-nothing config labels verdict told Closed never h = tt

-- a refusal of a plan is one of the text that has it
pub refused-so : (tells_all : Bool) (config labels : Source) (made : Plan × Policy) (outcome : Outcome) → Reads (Ok made) (config_of config.text.now) → RefusesOn labels made.0 made.1 tells_all outcome →
    TellsJudgement tells_all config labels outcome × IsNoAcceptance outcome
refused-so false config labels made outcome reads h = (
  (h.0, judged made (config_of config.text.now) labels.text.now h.0 reads h.1, h.3),
  refusal-accepts-nothing config labels h.0 outcome h.2 h.3,
)
refused-so true config labels made outcome reads h = (
  (h.0, h.1, judged-whole made (config_of config.text.now) labels.text.now h.0 h.1 reads h.2, h.4),
  whole-accepts-nothing config labels h.0 h.1 outcome h.3 h.4,
)

-- what files come to that were read, by what their texts come to
pub accepted-or-not : (reads : MayRead) (tells_all : Bool) (config_path labels_path : List ℕ) (config labels : Source) (made : Plan × Policy) (r : Result Checked Outcome) →
    IsFile reads config_path config → IsFile reads labels_path labels → Reads (Ok made) (config_of config.text.now) →
    IfOk r (λ checked. checked.plan ≡ made.0) → IfOk r (λ checked. checked.policy ≡ made.1) → IfOk r (λ _. IsVerdictOn made.0 made.1 labels.text.now Accepted) →
    IfErr r (RefusesOn labels made.0 made.1 tells_all) → MatchResult r (IsAcceptedOf reads config_path labels_path) (RefusesFiles reads tells_all config_path labels_path)
accepted-or-not reads tells_all config_path labels_path config labels made (Ok checked) config_is labels_are h plan policy admitted refused =
    let s = said-of made (config_of config.text.now) h in
    record {
      config = config;
      config_is = config_is;
      labels = labels;
      labels_are = labels_are;
      said = s.0;
      faultless = s.1;
      plan_is = plan ∙ s.2;
      policy_is = subst (IsPolicyOf s.0) (sym policy) s.3;
      accepted = judged made (config_of config.text.now) labels.text.now Accepted h admitted;
    }
accepted-or-not reads tells_all config_path labels_path config labels made (Err outcome) config_is labels_are h plan policy admitted refused =
    let s = said-of made (config_of config.text.now) h in
    let told = refused-so tells_all config labels made outcome h refused in
    (inl (config, config_is, inr ((s.0, s.1), inl (labels, labels_are, told.0))), told.1)

-- a live meter has ended, or didn't begin
pub ended-so : {A : Type 0} (answer : Result A ServerFault) → IsEndOfServing (ended answer)
ended-so (Ok closed) = tt
ended-so (Err fault) = tt

-- and was to keep its steps or not
pub served-so : (store unread left : Option (List ℕ)) (outcome : Outcome) → IsEndOfServing outcome → IsServed store unread left outcome
served-so store unread left Done h = tt
served-so store unread left (Unserved fault) h = tt
served-so store unread left (Unbound bound cause) h = tt
served-so store unread left (Judged verdict text) h = absurd h
served-so store unread left (JudgedWhole verdict failures text) h = absurd h
served-so store unread left (JudgedSide side verdict text) h = absurd h
served-so store unread left (Compared gives) h = absurd h
served-so store unread left (Warned warnings) h = absurd h
served-so store unread left (Words fault) h = absurd h
served-so store unread left (Unread file told) h = absurd h
served-so store unread left (Stranger told) h = absurd h
served-so store unread left (Fault fault) h = absurd h
served-so store unread left (Broken fault) h = absurd h
served-so store unread left (Unstored path fault) h = absurd h
served-so store unread left (UnreadFleet files) h = absurd h
served-so store unread left (Audited text accepts explanation) h = absurd h
served-so store unread left (Unaudited fault) h = absurd h
served-so store unread left (Unwritten fault) h = absurd h
served-so store unread left (Untranslated fault) h = absurd h
served-so store unread left Closed h = absurd h

-- the place that was to keep them isn't opened
pub unstored-so : (store : List ℕ) (unread : Option (List ℕ)) (why : StoreFault) (outcome : Outcome) → TellsUnstored store why outcome → IsServed (Some store) unread unread outcome
unstored-so store unread why (Unstored path fault) h = (ap Some (sym h.0), refl)
unstored-so store unread why Done h = tt
unstored-so store unread why (Unserved fault) h = tt
unstored-so store unread why (Unbound bound cause) h = tt
unstored-so store unread why (Judged verdict text) h = subst (IsServed (Some store) unread unread) (sym h) tt
unstored-so store unread why (JudgedWhole verdict failures text) h = subst (IsServed (Some store) unread unread) (sym h) tt
unstored-so store unread why (JudgedSide side verdict text) h = subst (IsServed (Some store) unread unread) (sym h) tt
unstored-so store unread why (Compared gives) h = subst (IsServed (Some store) unread unread) (sym h) tt
unstored-so store unread why (Warned warnings) h = subst (IsServed (Some store) unread unread) (sym h) tt
unstored-so store unread why (Words fault) h = subst (IsServed (Some store) unread unread) (sym h) tt
unstored-so store unread why (Unread file told) h = subst (IsServed (Some store) unread unread) (sym h) tt
unstored-so store unread why (Stranger told) h = subst (IsServed (Some store) unread unread) (sym h) tt
unstored-so store unread why (Fault fault) h = subst (IsServed (Some store) unread unread) (sym h) tt
unstored-so store unread why (Broken fault) h = subst (IsServed (Some store) unread unread) (sym h) tt
unstored-so store unread why (UnreadFleet files) h = subst (IsServed (Some store) unread unread) (sym h) tt
unstored-so store unread why (Audited text accepts explanation) h = subst (IsServed (Some store) unread unread) (sym h) tt
unstored-so store unread why (Unaudited fault) h = subst (IsServed (Some store) unread unread) (sym h) tt
unstored-so store unread why (Unwritten fault) h = subst (IsServed (Some store) unread unread) (sym h) tt
unstored-so store unread why (Untranslated fault) h = subst (IsServed (Some store) unread unread) (sym h) tt
unstored-so store unread why Closed h = subst (IsServed (Some store) unread unread) (sym h) tt
