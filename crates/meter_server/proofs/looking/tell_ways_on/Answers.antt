use Rattle.std.proofs.Common.{arith, sym, ◌∙◌}
use Rattle.std.specs.Str.{bytes_eq}
use Rattle.meter_theory.specs.Plan.{cells}
use Rattle.object_model.proofs.Puts.{position-within}
use Rattle.value_text.specs.Texts.{cell_text}
use Rattle.meter_server.proofs.looking.tell_ways_on.Goals as goal

pub write_why-requires-clause-cell : goal.write_why-requires-clause-cell
write_why-requires-clause-cell g c = omega (arith, position-within (λ x. bytes_eq (cell_text x) c.args.cell.now) 0 (cells c.args.map.now.plan) c.in-Ok-Some.number (sym c.in-Ok-Some.field-0-is ∙ c.in-Ok-Some.ensures))
