-- What an entry descriptor of the code stands for, and what a selection answers.
use Rattle.std.specs.Prelude.{Option, Some, None, Result, Ok, Err}
use Rattle.cosem_data.specs.Tree.{Tree}
use Rattle.meter_theory.specs.Selection as theory
use Rattle.cosem_class.specs.declared.class.ClassFault.{ClassFault}
use Rattle.cosem_class.specs.declared.class.ClassFault.TheVariants.{Kind}
use Rattle.class_profile.specs.declared.selection.EntryDescriptor.{EntryDescriptor}

-- an entry descriptor of the code: IEC 62056-6-2, Profile generic, entry_descriptor
abbrev pub descriptor_view : EntryDescriptor → theory.EntryDescriptor
descriptor_view d = record {
  from_entry = d.from_entry;
  to_entry = d.to_entry;
  from_selected_value = d.from_selected_value;
  to_selected_value = d.to_selected_value;
}

-- the entries that a descriptor asks for, if it is one; else its kind is wrong: own profile
abbrev pub selection_of_descriptor : Option theory.EntryDescriptor → Tree → Result Tree ClassFault
selection_of_descriptor (Some descriptor) buffer = Ok (theory.entries_of descriptor buffer)
selection_of_descriptor None buffer = Err Kind

-- what a selection by this parameter answers: IEC 62056-6-2, Profile generic, selective access by entry
abbrev pub selection_answer : Tree → Tree → Result Tree ClassFault
selection_answer parameter buffer = selection_of_descriptor (theory.descriptor_of parameter) buffer
