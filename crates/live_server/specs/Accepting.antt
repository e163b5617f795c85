-- Which failures to take a connection pass, and are none of the listening itself; what comes of asking for one. All of it is own profile.
use Rattle.std.specs.Prelude.{ℕ, ℤ, ◌==◌, Bool, ◌||◌, true, false, if◌then◌else◌, Option, None, Some, Result, Ok, Err, unsigned_abs}
use Rattle.std.specs.IoError.{error_kind, raw_os_error}
use Rattle.std.specs.declared.io.Error.{Error}
use Rattle.std.specs.declared.io.ErrorKind.{ErrorKind}
use Rattle.std.specs.declared.io.ErrorKind.TheVariants.{Interrupted, ConnectionAborted, ConnectionReset, PermissionDenied, TimedOut, NetworkDown, NetworkUnreachable, HostUnreachable, WouldBlock, OutOfMemory}

-- the other side gave the connection up, it isn't let in, or its network failed; or something is short for now
abbrev pub is_passing_kind : ErrorKind → Bool
is_passing_kind Interrupted = true
is_passing_kind ConnectionAborted = true
is_passing_kind ConnectionReset = true
is_passing_kind PermissionDenied = true
is_passing_kind TimedOut = true
is_passing_kind NetworkDown = true
is_passing_kind NetworkUnreachable = true
is_passing_kind HostUnreachable = true
is_passing_kind WouldBlock = true
is_passing_kind OutOfMemory = true
is_passing_kind _ = false

-- Linux's numbers of the same that have no kind: ENFILE, EMFILE, ENONET, EPROTO, ENOPROTOOPT, ENOBUFS, EHOSTDOWN
abbrev pub is_passing_code : ℕ → Bool
is_passing_code n = (n == 23) || (n == 24) || (n == 64) || (n == 71) || (n == 92) || (n == 105) || (n == 112)

-- an error of the system has a number, whatever its sign
abbrev pub is_passing_number : Option ℤ → Bool
is_passing_number None = false
is_passing_number (Some number) = is_passing_code (unsigned_abs number)

-- an error passes by its kind or by its number
abbrev pub is_passing : ErrorKind → Option ℤ → Bool
is_passing kind number = is_passing_kind kind || is_passing_number number

-- what comes of asking for a connection: one that was taken comes through, one whose error passes is passed over, and any other error ends the listening
abbrev pub let_through : {S : Type 0} → Result S Error → Result (Option S) Error
let_through (Ok stream) = Ok (Some stream)
let_through (Err error) = if is_passing (error_kind error) (raw_os_error error) then Ok None else Err error

-- whether it has been told that connections can't be taken, since the last that was
abbrev pub is_told_behind : {S : Type 0} → Result (Option S) Error → Bool → Bool
is_told_behind (Ok (Some stream)) is_told = false
is_told_behind (Ok None) is_told = true
is_told_behind (Err error) is_told = is_told
