-- Why connections can't be taken at an address, and how that is told. All of it is own profile.
use Rattle.std.specs.Prelude.{ℕ, ℤ, List, ◌++◌, Option, Some, None, codes}
use Rattle.std.specs.Fmt.{signed_decimal}
use Rattle.std.specs.declared.io.ErrorKind.{ErrorKind}
use Rattle.std.specs.declared.io.ErrorKind.TheVariants.{AddrInUse, AddrNotAvailable, PermissionDenied, OutOfMemory}
use Rattle.live_server.specs.declared.bind_fault.BindFault.{BindFault}
use Rattle.live_server.specs.declared.bind_fault.BindFault.TheVariants.{InUse, Elsewhere, Forbidden, Unnamed, System}
use Rattle.live_server.specs.declared.fault.ServerFault.{ServerFault}
use Rattle.live_server.specs.declared.fault.ServerFault.TheVariants.{Bind, Memory}

-- a fault as it is told, of the address
abbrev pub bind_words : BindFault → List ℕ
bind_words InUse = codes "it is in use"
bind_words Elsewhere = codes "it is no address of this machine"
bind_words Forbidden = codes "this user may not take connections there"
bind_words Unnamed = codes "no address is found for it"
bind_words (System number) = codes "connections can't be taken there: error " ++ (signed_decimal number ++ codes " of the system")

-- what the system says of an address, by the kind and the number of its error: an error without a number is of a name
abbrev pub fault_of_kind : ErrorKind → Option ℤ → ServerFault
fault_of_kind OutOfMemory number = Memory
fault_of_kind AddrInUse number = Bind InUse
fault_of_kind AddrNotAvailable number = Bind Elsewhere
fault_of_kind PermissionDenied number = Bind Forbidden
fault_of_kind kind (Some number) = Bind (System number)
fault_of_kind kind None = Bind Unnamed
