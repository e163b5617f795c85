use Rattle.std.proofs.Common.{inl, inr}
use Rattle.meter_server.proofs.Answered.{file-read}
use Rattle.meter_server.proofs.Warned.{checked-so}
use Rattle.meter_server.proofs.answering.check_labels.Goals as goal

pub returns-in-Ok-text_of_file : goal.returns-in-Ok-text_of_file
returns-in-Ok-text_of_file g c =
    let reads = g.F.TextFiles.may_read c.args.files.now in
    let labels = c.source_of-labels.result in
    let labels_are = file-read reads c.args.labels.now _ labels c.source_of-labels.ensures.file c.source_of-labels.ensures.text c.in-Ok-text_of_file.ensures in
    let s = checked-so c.args.tells_all c.args.warned c.args.config labels c.in-Ok.made c.checked.result c.in-Ok.ensures.first c.checked.ensures in
    inr (s.0, s.1, inl (labels, labels_are, s.2))
