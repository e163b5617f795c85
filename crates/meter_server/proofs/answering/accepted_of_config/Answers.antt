use Rattle.std.proofs.Common.{inl, inr}
use Rattle.std.proofs.lemmas.Result.{err_from_is_err_and}
use Rattle.config_reader.specs.ConfigOf.{config_of}
use Rattle.meter_server.proofs.Answered.{accepted-or-not, file-read, unread-accepts-nothing}
use Rattle.meter_server.proofs.Made.{said-of}
use Rattle.meter_server.proofs.answering.accepted_of_config.Goals as goal

pub returns-in_err-text : goal.returns-in_err-text
returns-in_err-text g c path file =
    let config = c.args.config in
    let s = said-of c.in-Ok.made (config_of config.text.now) c.in-Ok.ensures.first in
    let unread = c.in_err-text.ensures in
    let p = err_from_is_err_and c.from_residual.result c.from_residual.ensures.1 in
    rw (p.1, p.2) (inl (config, file, inr ((s.0, s.1), inr (unread, tt))), unread-accepts-nothing c.args.labels.now unread.0 c.in_err-text.field-0.0 unread.2)

pub returns : goal.returns
returns g c path config_is =
    let reads = g.F.TextFiles.may_read c.args.files.now in
    let config = c.args.config in
    let labels = c.source_of-labels.result in
    let labels_are = file-read reads c.args.labels.now _ labels c.source_of-labels.ensures.file c.source_of-labels.ensures.text c.in_ok-text.ensures in
    let r = c.accepted_of_texts in
    accepted-or-not reads c.args.tells_all path c.args.labels.now config labels c.in-Ok.made r.result config_is labels_are c.in-Ok.ensures.first r.ensures.plan r.ensures.policy r.ensures.admitted r.ensures.refused
