-- What is printed of the verdicts on a fleet of configurations (own profile throughout).
use Rattle.std.specs.Prelude.{◌≡◌, ℕ, List, [], ◌∷◌, ◌++◌, codes, string_bytes}
use Rattle.std.specs.List.{list_all}
use Rattle.fleet_audit.specs.Audits.{Audits}
use Rattle.fleet_audit.specs.declared.telling.Told.{Told}
use Rattle.fleet_audit.specs.declared.text.Text.{Text}
use Rattle.verdict.specs.Judging.{is_accepted}
use Rattle.verdict.specs.Lines.{verdict_line}
use Rattle.verdict.specs.declared.Verdict.{Verdict}

-- the line of a verdict behind its name
abbrev pub named_line : List ℕ → Verdict → List ℕ
named_line name verdict = name ++ (codes ": " ++ verdict_line verdict)

-- a line for each name: the name and the verdict on it
abbrev pub verdicts_text : List (List ℕ) → List Verdict → List ℕ
verdicts_text (name ∷ names) (verdict ∷ verdicts) = named_line name verdict ++ verdicts_text names verdicts
verdicts_text _ _ = []

-- these verdicts are told so: the lines, and whether all of them accept
abbrev pub TellsVerdicts : List (List ℕ) → List Verdict → Told → Type 0
TellsVerdicts names verdicts told = (string_bytes told.text ≡ verdicts_text names verdicts) × (told.is_accepted ≡ list_all is_accepted verdicts)

-- how many configurations were judged: each text has a verdict that is its own, in the order of the names, and these are told
abbrev pub TellsAudit : List (List ℕ) → List Text → Told → Type 0
TellsAudit names texts told = Audits texts told.verdicts.items × TellsVerdicts names told.verdicts.items told
