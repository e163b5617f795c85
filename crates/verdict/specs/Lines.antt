-- What is printed of a verdict.
use Rattle.std.specs.Prelude.{◌++◌, List, ℕ, codes, flat_map, string_bytes}
use Rattle.std.specs.Fmt.{decimal}
use Rattle.config_text.specs.Causes.{code_of}
use Rattle.config_text.specs.declared.fault.ConfigFault.{ConfigFault}
use Rattle.config_text.specs.declared.fault.ConfigFault.TheVariants as faults
use Rattle.label_certificate.specs.Faults as labels
use Rattle.label_certificate.specs.declared.fault.LabelFault.{LabelFault}
use Rattle.label_certificate.specs.declared.fault.LabelFault.TheVariants as label_faults
use Rattle.flow_checker.specs.declared.check.Refused.{Refused}
use Rattle.flow_checker.specs.declared.check.Refused.TheVariants as refusals
use Rattle.cosem_data.specs.declared.cell.CellRef.{CellRef}
use Rattle.cosem_data.specs.declared.clients.ClientSet.{ClientSet}
use Rattle.flow_checker.specs.Answer.{name_at}
use Rattle.flow_checker.specs.declared.failure.Failure.{Failure}
use Rattle.flow_checker.specs.declared.failure.Failure.TheVariants as failures
use Rattle.label_certificate.specs.LabelLine.{names_text}
use Rattle.label_certificate.specs.Members.{names_in_set}
use Rattle.meter_theory.specs.Plan.{Plan}
use Rattle.meter_theory.specs.declared.flow.Edge.{Edge}
use Rattle.value_text.specs.Texts.{cell_text}
use Rattle.value_text.specs.Edges.{edge_text}
use Rattle.verdict.specs.declared.Verdict.{Verdict}
use Rattle.verdict.specs.declared.Verdict.TheVariants as verdicts

-- the code of the first fault and its place; for want of memory there is none (own profile)
abbrev pub fault_line : ConfigFault → List ℕ
fault_line faults.Memory = codes "config C0\n"
fault_line (faults.Found first others) = codes "config C" ++ (decimal (code_of first.cause) ++ (codes " at " ++ (first.place ++ codes "\n")))

-- the number of a fault of labels and its line, from 1; for want of memory there is none (own profile)
abbrev pub label_fault_line : LabelFault → List ℕ
label_fault_line label_faults.Memory = codes "labels L5\n"
label_fault_line (label_faults.Line code line) = codes "labels L" ++ (decimal (labels.number_of code) ++ (codes " at line " ++ (decimal line ++ codes "\n")))

-- `refused N: ` and what is refused (own profile)
abbrev pub refused_by : ℕ → List ℕ → List ℕ
refused_by number text = codes "refused " ++ (decimal number ++ (codes ": " ++ (text ++ codes "\n")))

-- the number of a refusal and what it names: a cell, a client and a cell, or an edge; nothing for want of memory (own profile)
abbrev pub refusal_line : Refused → List ℕ
refusal_line (refusals.NotLabelled x) = refused_by 1 (cell_text x)
refusal_line (refusals.PastPolicy x) = refused_by 2 (cell_text x)
refusal_line (refusals.Changer client x) = refused_by 3 (string_bytes client ++ (codes " " ++ cell_text x))
refusal_line (refusals.Reader client x) = refused_by 4 (string_bytes client ++ (codes " " ++ cell_text x))
refusal_line (refusals.InfluenceEscapes e) = refused_by 5 (edge_text e)
refusal_line (refusals.LearnEscapes e) = refused_by 6 (edge_text e)
refusal_line refusals.Memory = codes "refused 7\n"

-- a cell, one of the sets of its label, and clients in it that the policy doesn't have there (own profile)
abbrev pub past_text : Plan → CellRef → List ℕ → ClientSet → List ℕ
past_text P x set clients = cell_text x ++ (codes " " ++ (set ++ (codes " " ++ names_text (names_in_set P clients))))

-- an edge, and the clients that are lost along it (own profile)
abbrev pub lost_text : Plan → Edge → ClientSet → List ℕ
lost_text P e clients = edge_text e ++ (codes " " ++ names_text (names_in_set P clients))

-- the line of a failure: what a refusal of its clause names, and the clients that are too many or missing (own profile)
abbrev pub failure_line : Plan → Failure → List ℕ
failure_line P (failures.NotLabelled x) = refused_by 1 (cell_text x)
failure_line P (failures.InfluencePastPolicy x clients) = refused_by 2 (past_text P x (codes "influence") clients)
failure_line P (failures.LearnPastPolicy x clients) = refused_by 2 (past_text P x (codes "learn") clients)
failure_line P (failures.Changer c x) = refused_by 3 (name_at P c ++ (codes " " ++ cell_text x))
failure_line P (failures.Reader c x) = refused_by 4 (name_at P c ++ (codes " " ++ cell_text x))
failure_line P (failures.InfluenceEscapes e clients) = refused_by 5 (lost_text P e clients)
failure_line P (failures.LearnEscapes e clients) = refused_by 6 (lost_text P e clients)

-- a line for each failure (own profile)
abbrev pub failure_lines : Plan → List Failure → List ℕ
failure_lines P failures = flat_map (failure_line P) failures

-- the line of a verdict (own profile)
abbrev pub verdict_line : Verdict → List ℕ
verdict_line verdicts.Accepted = codes "accepted\n"
verdict_line (verdicts.Config fault) = fault_line fault
verdict_line (verdicts.Labels fault) = label_fault_line fault
verdict_line (verdicts.Refused refused) = refusal_line refused
