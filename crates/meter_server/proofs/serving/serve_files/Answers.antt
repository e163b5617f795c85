use Rattle.std.proofs.Common.{inr}
use Rattle.meter_server.proofs.Answered.{file-read}
use Rattle.meter_server.proofs.serving.serve_files.Goals as goal

pub returns-in-Ok-accepted_of_config : goal.returns-in-Ok-accepted_of_config
returns-in-Ok-accepted_of_config g c =
    let reads = g.F.TextFiles.may_read c.args.files.now in
    let accepted = c.in-Ok-accepted_of_config.ensures c.args.config.now
    (file-read reads c.args.config.now _ c.source_of-config.result c.source_of-config.ensures.file c.source_of-config.ensures.text c.in-Ok.ensures) in
    inr ((c.in-Ok-accepted_of_config.checked, accepted), c.serve_checked.ensures)
