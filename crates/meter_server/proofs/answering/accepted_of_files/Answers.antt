use Rattle.meter_server.proofs.Answered.{file-read}
use Rattle.meter_server.proofs.answering.accepted_of_files.Goals as goal

pub returns : goal.returns
returns g c =
    let reads = g.F.TextFiles.may_read c.args.files.now in
    c.accepted_of_config.ensures c.args.config.now (file-read reads c.args.config.now _ c.source_of.result c.source_of.ensures.file c.source_of.ensures.text c.in_ok-text.ensures)
