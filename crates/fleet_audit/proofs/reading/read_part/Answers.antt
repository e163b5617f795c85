use Rattle.std.proofs.Common.{List, ℕ, sym, subst}
use Rattle.fleet_audit.specs.Reading.{IsReading}
use Rattle.fleet_audit.proofs.Fleets.{as-far}
use Rattle.fleet_audit.proofs.reading.read_part.Goals as goal

pub loop-name-preserved : goal.loop-name-preserved
loop-name-preserved g c =
    let reads = g.F.TextFiles.may_read c.args.files.now in
    let reading = c.read_named.new.reading in
    subst (λ (l : List (List ℕ)). IsReading reads l reading.texts.items reading.unread.items) (sym (as-far c.args.names.now c.loop-name.name-index _ c.loop-name-test.true))
    (c.in_ok-read_named.ensures _ c.loop-name.invariant)
