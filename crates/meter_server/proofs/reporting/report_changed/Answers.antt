use Rattle.std.proofs.Common.{Some, inl, refl}
use Rattle.meter_server.proofs.reporting.report_changed.Goals as goal

pub returns-in-Ok : goal.returns-in-Ok
returns-in-Ok g c =
    let C = c.args.before.now in
    let D = c.args.least.now in
    let changes = c.in-Ok.changes in
    inl (
      Some changes,
      (changes, refl, (C, D, record { of_plan = refl; of_policy = refl; least = c.known.ensures }, record { of_plan = refl; of_policy = refl; least = c.known-2.ensures }, c.in-Ok.ensures)),
      c.report_map.ensures,
    )
