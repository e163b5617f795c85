use Rattle.std.proofs.Common.{ap}
use Rattle.cosem_data.specs.Tree.{long_unsigned}
use Rattle.meter_theory.specs.Rights.{Given}
use Rattle.meter_theory.specs.Steps.{method_effects}
use Rattle.flow_map.proofs.Seeking.{walk-seeks}
use Rattle.flow_map.proofs.granting.script_changes.Goals as goal

pub returns : goal.returns
returns c =
    walk-seeks c.args.cell.now (method_effects c.args.plan.now c.args.execute.now (Given (long_unsigned c.args.script))) c.new-seeking.result c.each_of_method.new.visitor
    (ap (λ s. s.cell) c.new-seeking.ensures) (ap (λ s. s.found) c.new-seeking.ensures) c.in-Ok.ensures.ok
