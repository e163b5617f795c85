use Rattle.std.proofs.Common.{inl, refl, string_bytes}
use Rattle.meter_server.proofs.Answered.{file-read}
use Rattle.meter_server.specs.declared.texts.Source.{Source}
use Rattle.meter_server.proofs.auditing.audit_named.Goals as goal

pub returns-in-Ok-clause-audits : goal.returns-in-Ok-clause-audits
returns-in-Ok-clause-audits g c =
    let lists = g.L.TextFiles.may_read c.args.lists.now in
    let path = c.in-Some.path in
    let source : Source = record { file = path; text = c.as_str.result } in
    rw c.in-Some.is (inl (source, file-read lists path.now (string_bytes c.in-Ok.text) source refl c.as_str.ensures.value c.in-Ok.ensures, c.audit_listed.ensures.audits))
