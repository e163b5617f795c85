-- Why a place that keeps steps isn't opened, and what is told of it (own profile).
use Rattle.std.specs.Prelude.{List, ℕ, ◌++◌, codes}
use Rattle.std.specs.Fmt.{decimal}
use Rattle.trail_file.specs.Faults as trails
use Rattle.trail_file.specs.declared.fault.TrailFault.{TrailFault}
use Rattle.trail_file.specs.declared.fault.TrailFault.TheVariants as kinds
use Rattle.trail_host.specs.declared.fault.OpenFault.{OpenFault}
use Rattle.trail_host.specs.declared.fault.OpenFault.TheVariants as opens
use Rattle.trail_store.specs.declared.past.PastFault.{PastFault}
use Rattle.trail_store.specs.declared.past.PastFault.TheVariants as pasts
use Rattle.step_stores.specs.declared.fault.StoreFault.{StoreFault}
use Rattle.step_stores.specs.declared.fault.StoreFault.TheVariants.{Memory, System, Busy, Journal, Trail, Changed, Unreadable}

-- want of memory is one fault, wherever it comes
abbrev pub fault_of_trail : TrailFault → StoreFault
fault_of_trail kinds.Memory = Memory
fault_of_trail fault = Trail fault

abbrev pub fault_of_opening : OpenFault → StoreFault
fault_of_opening (opens.System error) = System
fault_of_opening opens.Busy = Busy
fault_of_opening opens.Journal = Journal
fault_of_opening (opens.Trail fault) = fault_of_trail fault

abbrev pub fault_of_past : PastFault → StoreFault
fault_of_past pasts.Memory = Memory
fault_of_past (pasts.Unreadable entry) = Unreadable entry

-- the fault as it is told, of the file
abbrev pub fault_words : StoreFault → List ℕ
fault_words Memory = codes "out of memory"
fault_words System = codes "it can't be opened"
fault_words Busy = codes "it is in use"
fault_words Journal = codes "a rollback journal lies beside it"
fault_words Changed = codes "whole entries stand behind its end: a byte of it was changed"
fault_words (Trail fault) = trails.fault_words fault
fault_words (Unreadable entry) = codes "entry " ++ (decimal entry ++ codes " says no step")
