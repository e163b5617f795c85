use Rattle.std.proofs.Common.{inl, inr}
use Rattle.meter_server.proofs.Answered.{file-read}
use Rattle.meter_server.specs.declared.texts.Source.{Source}
use Rattle.std.specs.Prelude.{string_bytes}
use Rattle.std.proofs.Common.{refl}
use Rattle.meter_server.proofs.trailing.print_trail.Goals as goal

pub returns-in-Ok : goal.returns-in-Ok
returns-in-Ok g c =
    let reads = g.F.TextFiles.may_read c.args.files.now in
    let source : Source = record { file = c.args.file; text = c.as_str.result } in
    inr (c.in-Some.wanted, c.in-Some.ensures, inl (source, file-read reads c.args.file.now (string_bytes c.in-Ok.text) source refl c.as_str.ensures.value c.in-Ok.ensures, c.print_text.ensures))
