use Rattle.std.proofs.Common.{subst}
use Rattle.fleet_audit.specs.Reading.{IsReadAs}
use Rattle.fleet_audit.proofs.Fleets.{put-on}
use Rattle.fleet_audit.proofs.reading.read_named.Goals as goal

pub returns : goal.returns
returns g c =
    let reads = g.F.TextFiles.may_read c.args.files.now in
    let config = c.read_kept-config in
    let labels = c.read_kept-labels in
    put-on reads c.args.name.now config.result labels.result _ _ _ _ (subst (λ path. IsReadAs reads path config.result) c.in_ok-format.ensures.ok config.ensures)
    (subst (λ path. IsReadAs reads path labels.result) c.in_ok-format-2.ensures.ok labels.ensures) c.put.result c.put.ensures.texts c.put.ensures.unread
