use Rattle.std.proofs.Common.{subst, ◌∙◌}
use Rattle.meter_theory.specs.Sound.{IsSound}
use Rattle.flow_ways.specs.Found.{distance_of}
use Rattle.flow_ways.proofs.Distance.{are-distances}
use Rattle.flow_forms.proofs.csv_form.csv_text.Goals as goal

pub returns-in-Ok : goal.returns-in-Ok
returns-in-Ok c =
    let P = c.args.ways.now.plan in
    let from = c.from_writer-writer.ensures in
    let written = c.in_ok-write_rows.ensures.text in
    let text = rw (from.wtr, c.new-2.ensures.items, from.empty) at written in
    record { found = distance_of P; are_distances = are-distances P (subst IsSound c.plan.ensures c.known.ensures.sound); text_is = c.in-Ok.ensures.ok ∙ text }
