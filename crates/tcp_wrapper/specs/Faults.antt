-- What is told of a fault.
use Rattle.std.specs.Prelude.{ℕ, List, codes}
use Rattle.tcp_wrapper.specs.declared.fault.WrapFault.{WrapFault}
use Rattle.tcp_wrapper.specs.declared.fault.WrapFault.TheVariants.{Version, Destination, Length, Memory, Failed}

-- the number of a fault (own profile)
abbrev pub number_of : WrapFault → ℕ
number_of Version = 1
number_of Destination = 2
number_of Length = 3
number_of Memory = 4
number_of Failed = 5

-- a fault as it is told: by its number, and in words (own profile)
abbrev pub fault_words : WrapFault → List ℕ
fault_words Version = codes "frame fault 1: the version in its header isn't 0001"
fault_words Destination = codes "frame fault 2: it goes to another wPort than 0001, the server's"
fault_words Length = codes "frame fault 3: its length is over 1024"
fault_words Memory = codes "frame fault 4: out of memory"
fault_words Failed = codes "frame fault 5: there was a fault before"
