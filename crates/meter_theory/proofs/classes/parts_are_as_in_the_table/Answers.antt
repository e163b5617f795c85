use Rattle.meter_theory.proofs.ClassTable.{classes_are, interfaces_are, attributes_are, methods_are, cells_are, settable_are}
use Rattle.meter_theory.proofs.classes.parts_are_as_in_the_table.Goals as goal

pub returns : goal.returns
returns c = record {
  classes = classes_are;
  interfaces = interfaces_are;
  attributes = attributes_are;
  methods = methods_are;
  cells = cells_are;
  settable = settable_are;
}
