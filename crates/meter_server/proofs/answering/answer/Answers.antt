use Rattle.std.proofs.Common.{List, ℕ, codes, map, refl, subst, option_map, string_bytes}
use denote.Ref.{Bor}
use Rattle.meter_server.specs.Answering.{ChecksFiles, ListsFile}
use Rattle.meter_server.specs.Auditing.{AuditsNamed}
use Rattle.meter_server.specs.Comparing.{ComparesFiles}
use Rattle.meter_server.specs.Looking.{AsksWhy}
use Rattle.meter_server.specs.Program.{ListsEdges}
use Rattle.meter_server.specs.Reporting.{Paths, ReportsFile}
use Rattle.meter_server.specs.Sources.{MayGive, ReadsWhere, given_of}
use Rattle.meter_server.specs.declared.demo.TheConstants.{DEMO}
use Rattle.meter_server.specs.Warning.{ListsLabels}
use Rattle.meter_server.specs.declared.texts.Source.{Source}
use Rattle.meter_server.proofs.answering.answer.Goals as goal

-- the text of the demo, under the name of its file
abbrev demo : Source
demo = record { file = record { ref_ptr = (0, 0); now = codes "demo.toml" }; text = record { ref_ptr = (0, 0); now = DEMO.now } }

pub returns-in-Demo-clause-answers : goal.returns-in-Demo-clause-answers
returns-in-Demo-clause-answers g c = rw c.in-Demo.is (demo, refl, refl, c.answer_lines_of.ensures.answers)

pub returns-in-Check-clause-answers : goal.returns-in-Check-clause-answers
returns-in-Check-clause-answers g c =
    let reads = g.F.TextFiles.may_read in
    let sources = c.new-sources-in-Check in
    let given = option_map (given_of string_bytes) sources.result.given in
    let config = c.in-Check.config.now in
    let labels = c.in-Check.labels.now in
    let tells_all = c.in-Check.tells_all in
    let warned = c.in-Check.warned in
    let read = subst (λ is_named. ReadsWhere is_named (g.I.Read.remaining c.args.input.now) (g.I.Read.remaining sources.new.input) given) c.is_either_input.ensures sources.ensures.given in
    let judged = subst (λ files. ChecksFiles (MayGive (reads files) given) tells_all warned config labels c.check_files.result) sources.ensures.files c.check_files.ensures in
    rw c.in-Check.is (given, read, refl, judged)

pub returns-in-Edges-clause-answers : goal.returns-in-Edges-clause-answers
returns-in-Edges-clause-answers g c =
    let reads = g.F.TextFiles.may_read in
    let sources = c.new-sources in
    let given = option_map (given_of string_bytes) sources.result.given in
    let read = subst (λ is_named. ReadsWhere is_named (g.I.Read.remaining c.args.input.now) (g.I.Read.remaining sources.new.input) given) c.is_input.ensures sources.ensures.given in
    let told = subst (λ files. ListsFile (ListsEdges c.in-Edges.form) (MayGive (reads files) given) c.in-Edges.config.now (g.O.Write.contents c.args.output.now) (g.O.Write.contents c.list_edges_of_file.new.output) c.list_edges_of_file.result) sources.ensures.files c.list_edges_of_file.ensures in
    rw c.in-Edges.is (given, read, told)

pub returns-in-Label-clause-answers : goal.returns-in-Label-clause-answers
returns-in-Label-clause-answers g c =
    let reads = g.F.TextFiles.may_read in
    let sources = c.new-sources-in-Label in
    let given = option_map (given_of string_bytes) sources.result.given in
    let read = subst (λ is_named. ReadsWhere is_named (g.I.Read.remaining c.args.input.now) (g.I.Read.remaining sources.new.input) given) c.is_input-in-Label.ensures sources.ensures.given in
    let told = subst (λ files. ListsFile (ListsLabels c.in-Label.warned) (MayGive (reads files) given) c.in-Label.config.now (g.O.Write.contents c.args.output.now) (g.O.Write.contents c.list_labels_of_file.new.output) c.list_labels_of_file.result) sources.ensures.files c.list_labels_of_file.ensures in
    rw c.in-Label.is (given, read, told)

pub returns-in-Compare-clause-answers : goal.returns-in-Compare-clause-answers
returns-in-Compare-clause-answers g c =
    let reads = g.F.TextFiles.may_read in
    let sources = c.new-sources-in-Compare in
    let given = option_map (given_of string_bytes) sources.result.given in
    let old = c.in-Compare.old.now in
    let new = c.in-Compare.new.now in
    let read = subst (λ is_named. ReadsWhere is_named (g.I.Read.remaining c.args.input.now) (g.I.Read.remaining sources.new.input) given) c.is_either_input-in-Compare.ensures sources.ensures.given in
    let told = subst (λ files. ComparesFiles (MayGive (reads files) given) old new (g.O.Write.contents c.args.output.now) (g.O.Write.contents c.compare_files.new.output) c.compare_files.result) sources.ensures.files c.compare_files.ensures in
    rw c.in-Compare.is (given, read, told)

pub returns-in-Report-clause-answers : goal.returns-in-Report-clause-answers
returns-in-Report-clause-answers g c =
    let reads = g.F.TextFiles.may_read in
    let sources = c.new-sources-in-Report in
    let given = option_map (given_of string_bytes) sources.result.given in
    let paths : Paths = record { labels = option_map (λ path. path.now) c.in-Report.labels; old = option_map (λ path. path.now) c.in-Report.against } in
    let read = subst (λ is_named. ReadsWhere is_named (g.I.Read.remaining c.args.input.now) (g.I.Read.remaining sources.new.input) given) c.is_any_input-is_named.ensures sources.ensures.given in
    let told = subst (λ files. ReportsFile (MayGive (reads files) given) c.in-Report.form paths c.in-Report.config.now (g.O.Write.contents c.args.output.now) (g.O.Write.contents c.report_file.new.output) c.report_file.result) sources.ensures.files c.report_file.ensures in
    rw c.in-Report.is (given, read, told)

pub returns-in-Why-clause-answers : goal.returns-in-Why-clause-answers
returns-in-Why-clause-answers g c =
    let reads = g.F.TextFiles.may_read in
    let sources = c.new-sources-in-Why in
    let given = option_map (given_of string_bytes) sources.result.given in
    let read = subst (λ is_named. ReadsWhere is_named (g.I.Read.remaining c.args.input.now) (g.I.Read.remaining sources.new.input) given) c.is_input-in-Why.ensures sources.ensures.given in
    let told = subst (λ files. ListsFile (AsksWhy c.in-Why.client.now c.in-Why.cell.now) (MayGive (reads files) given) c.in-Why.config.now (g.O.Write.contents c.args.output.now) (g.O.Write.contents c.why_of_file.new.output) c.why_of_file.result) sources.ensures.files c.why_of_file.ensures in
    rw c.in-Why.is (given, read, told)

pub returns-in-Audit-clause-answers : goal.returns-in-Audit-clause-answers
returns-in-Audit-clause-answers g c =
    let reads = g.F.TextFiles.may_read in
    let sources = c.new-sources-in-Audit in
    let given = option_map (given_of string_bytes) sources.result.given in
    let explains = c.in-Audit.explains in
    let names_file = option_map (λ path. path.now) c.in-Audit.names_file in
    let outcome = c.audit_named.result in
    let read = subst (λ is_named. ReadsWhere is_named (g.I.Read.remaining c.args.input.now) (g.I.Read.remaining sources.new.input) given) c.is_given_input.ensures sources.ensures.given in
    let told = subst (λ files. AuditsNamed (reads c.args.files.now) (MayGive (reads files) given) explains (map (λ name. name.now) c.deref.result.now) names_file outcome) sources.ensures.files c.audit_named.ensures.audits in
    let all = subst (λ (names : List (Bor (List ℕ))). AuditsNamed (reads c.args.files.now) (MayGive (reads c.args.files.now) given) explains (map (λ name. name.now) names) names_file outcome) c.deref.ensures.value told in
    rw c.in-Audit.is (given, read, refl, all)
