-- What an argument and a selection of the code stand for.
use Rattle.std.specs.Prelude.{ℕ, Option, Some, None}
use Rattle.cosem_data.specs.View.{tree}
use Rattle.meter_theory.specs.Rights as rights
use Rattle.object_model.specs.declared.argument.Argument.{Argument}
use Rattle.object_model.specs.declared.argument.Argument.TheVariants as arguments

-- what the request brings along, with the tree of its value: IEC 62056-5-3, SET and ACTION; unreadable bytes are own profile
abbrev pub argument_of : Argument → rights.Argument
argument_of arguments.Absent = rights.Absent
argument_of (arguments.Value value) = rights.Given (tree value)
argument_of arguments.Unreadable = rights.Unreadable

-- a selector with its parameter: IEC 62056-5-3, Selective-Access-Descriptor
abbrev pub selection_of : Option (ℕ × Argument) → Option rights.Selection
selection_of None = None
selection_of (Some selection) = Some (selection.0, argument_of selection.1)
