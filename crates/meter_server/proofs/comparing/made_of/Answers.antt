use Rattle.config_reader.specs.ConfigOf.{config_of}
use Rattle.meter_server.proofs.Answered.{file-read}
use Rattle.meter_server.proofs.Made.{said-of}
use Rattle.meter_server.proofs.comparing.made_of.Goals as goal

pub returns-in-Ok : goal.returns-in-Ok
returns-in-Ok g c =
    let reads = g.F.TextFiles.may_read c.args.files.now in
    let config = c.source_of-config.result in
    let file = file-read reads c.args.file.now _ config c.source_of-config.ensures.file c.source_of-config.ensures.text c.in_ok-text.ensures in
    let s = said-of c.in-Ok.made (config_of config.text.now) c.in-Ok.ensures.first in
    record { source = config; source_is = file; said = s.0; faultless = s.1; plan_is = s.2; policy_is = s.3 }
