-- What holds of all lists of verdicts.
use Rattle.std.specs.Prelude.{◌≡◌, Bool, true, false, List, ◌++◌, map, string_bytes}
use Rattle.std.specs.List.{AllZip, list_any}
use Rattle.config_text.specs.declared.fault.ConfigFault.TheVariants as config
use Rattle.label_certificate.specs.declared.fault.LabelFault.TheVariants as labels
use Rattle.flow_checker.specs.declared.check.Refused.TheVariants as refusals
use Rattle.fleet_audit.specs.declared.text.Text.{Text}
use Rattle.verdict.specs.declared.Verdict.{Verdict}
use Rattle.verdict.specs.declared.Verdict.TheVariants.{Config, Labels, Refused}
use Rattle.fleet_audit.specs.Audits.{Audits}
use Rattle.verdict.specs.Lines.{verdict_line}

-- the verdict says that memory was refused (own profile)
abbrev pub is_want_of_memory : Verdict → Bool
is_want_of_memory (Config config.Memory) = true
is_want_of_memory (Labels labels.Memory) = true
is_want_of_memory (Refused refusals.Memory) = true
is_want_of_memory _ = false

-- none of the verdicts says that memory was refused (own profile)
abbrev pub HadMemory : List Verdict → Type 0
HadMemory verdicts = list_any is_want_of_memory verdicts ≡ false

-- both texts say the same (own profile)
pub record SaysTheSame (text other : Text) : Type 0 where
  pub config : string_bytes text.config ≡ string_bytes other.config
  pub labels : string_bytes text.labels ≡ string_bytes other.labels

-- verdicts on a list of texts and on one behind it, joined, are those on the joined list (own profile)
abbrev pub JoinedAudits : Type 0
JoinedAudits = (xs ys : List Text) (vs ws : List Verdict) → Audits xs vs → Audits ys ws → Audits (xs ++ ys) (vs ++ ws)

-- verdicts on a joined list are those on its parts, joined (own profile)
abbrev pub SplitAudits : Type 0
SplitAudits = (xs ys : List Text) (verdicts : List Verdict) → Audits (xs ++ ys) verdicts → (vs : List Verdict) × (ws : List Verdict) × (verdicts ≡ vs ++ ws) × Audits xs vs × Audits ys ws

-- verdicts on texts that say the same have the same lines, where none says that memory was refused (own profile)
abbrev pub EqualAudits : Type 0
EqualAudits = (xs ys : List Text) (vs ws : List Verdict) → AllZip SaysTheSame xs ys → Audits xs vs → Audits ys ws → HadMemory vs → HadMemory ws → map verdict_line vs ≡ map verdict_line ws
