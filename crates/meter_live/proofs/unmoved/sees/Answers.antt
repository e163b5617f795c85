use Rattle.std.proofs.Common.{rules, ◌≡◌}
use Rattle.cosem_data.specs.View.{tree}
use Rattle.meter_theory.specs.Plan.{seen}
use Rattle.meter_theory.specs.State.{value}
use Rattle.meter_live.proofs.Stays.{tested}
use Rattle.meter_live.proofs.unmoved.sees.Goals as goal
use Rattle.object_model.specs.Stored.{held_tree}

pub returns-in-Some : goal.returns-in-Some
returns-in-Some c =
    let now = value c.args.meter.now (seen c.args.monitor) in
    let held = held_tree c.in-Some.held in
    let found : held ≡ now = search rules in
    tested c.is_held.result (tree c.args.before.now) held now c.is_held.ensures found
