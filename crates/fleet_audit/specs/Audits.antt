-- The verdicts on many texts.
use Rattle.std.specs.Prelude.{List, string_bytes}
use Rattle.std.specs.List.{AllZip}
use Rattle.config_reader.specs.ConfigOf.{config_of}
use Rattle.fleet_audit.specs.declared.text.Text.{Text}
use Rattle.verdict.specs.declared.Verdict.{Verdict}
use Rattle.verdict.specs.Judging.{IsVerdict}

-- what a verdict says of a text: of its configuration and its labels (own profile)
abbrev pub IsVerdictOf : Text → Verdict → Type 0
IsVerdictOf text verdict = IsVerdict (config_of (string_bytes text.config)) (string_bytes text.labels) verdict

-- as many verdicts as texts, in their order, and each that of its text (own profile)
abbrev pub Audits : List Text → List Verdict → Type 0
Audits texts verdicts = AllZip IsVerdictOf texts verdicts
