-- Reading an APDU from left to right.
use Rattle.std.specs.Prelude.{◌≡◌, ◌<◌, ◌↔◌, ℕ, ◌==◌, nat_lt, List, [], ◌∷◌, length, drop, slice_index, Option, Some, None, IsSome, Result, Ok, Err, ◌&&◌, if◌then◌else◌, true, false}
use Rattle.std.specs.Option.{option_map}
use Rattle.std.specs.Int.{w8, w16, w32, from_be_bytes, cast_signed}
use Rattle.cosem_data.specs.Tree.{Tree}
use Rattle.cosem_data.specs.View.{data_of}
use Rattle.cosem_axdr.specs.declared.fault.ReadFault.{ReadFault}
use Rattle.cosem_axdr.specs.Reading.{data_at}
use Rattle.object_model.specs.declared.argument.Argument.{Argument}
use Rattle.object_model.specs.declared.argument.Argument.TheVariants.{Absent, Value, Unreadable}
use Rattle.xdlms_services.specs.declared.request.Request.{Request}
use Rattle.xdlms_services.specs.declared.request.Request.TheVariants.{Get, Set, Act, Next}
use Rattle.xdlms_services.specs.Grammar.{IsRequest}
use Rattle.xdlms_services.specs.declared.reading.Front.{Front}
use Rattle.xdlms_services.specs.declared.reading.ApduFault.{ApduFault}
use Rattle.xdlms_services.specs.declared.reading.ApduFault.TheVariants as faults

-- what a function returned is what reading gives, unless memory ran out for what is there to be read
abbrev pub Reads : {A : Type 0} → Result A ApduFault → Option A → Type 0
Reads (Ok x) read = read ≡ Some x
Reads (Err faults.Unreadable) read = read ≡ None
Reads (Err faults.Memory) read = IsSome read

-- the value that was read, where nothing is left behind it
abbrev pub argument_from : Result (Tree × List ℕ) ReadFault → Argument
argument_from (Ok (t, [])) = Value (data_of t)
argument_from (Ok (t, b ∷ rest)) = Unreadable
argument_from (Err e) = Unreadable

-- the value that the bytes are to their end
abbrev pub argument_at : List ℕ → Argument
argument_at bytes = argument_from (data_at 16 bytes)

-- the selector and its parameter (IEC 62056-5-3, Selective-Access-Descriptor)
abbrev pub selected_at : List ℕ → Option (ℕ × Argument)
selected_at [] = None
selected_at (selector ∷ text) = Some (selector, argument_at text)

-- the GET with this front and selection
abbrev pub get_with : Front → Option (ℕ × Argument) → Request
get_with f selection = Get f.invoke f.descriptor selection

-- the rest of a GET (IEC 62056-5-3, Get-Request-Normal)
abbrev pub get_of : Front → List ℕ → Option Request
get_of f rest =
    if f.flag == 0 then (if length rest == 0 then Some (get_with f None) else None)
    else if f.flag == 1 then option_map (λ s. get_with f (Some s)) (selected_at rest)
    else None

-- the rest of a SET (IEC 62056-5-3, Set-Request-Normal)
abbrev pub set_of : Front → List ℕ → Option Request
set_of f rest =
    if f.flag == 0 then Some (Set f.invoke f.descriptor false (argument_at rest))
    else if f.flag == 1 then Some (Set f.invoke f.descriptor true Absent)
    else None

-- the ACTION with this front and argument
abbrev pub act_with : Front → Argument → Request
act_with f argument = Act f.invoke f.descriptor argument

-- the rest of an ACTION (IEC 62056-5-3, Action-Request-Normal)
abbrev pub act_of : Front → List ℕ → Option Request
act_of f rest =
    if f.flag == 0 then (if length rest == 0 then Some (act_with f Absent) else None)
    else if f.flag == 1 then Some (act_with f (argument_at rest))
    else None

-- the rest of the request whose service the front names (IEC 62056-5-3, xDLMS-APDU)
abbrev pub service_of : Front → List ℕ → Option Request
service_of f rest =
    if f.service == 0xC0 then get_of f rest
    else if f.service == 0xC1 then set_of f rest
    else if f.service == 0xC3 then act_of f rest
    else None

-- the thirteen bytes in front: service, form, Invoke-Id-And-Priority, Cosem-Attribute-Descriptor or Cosem-Method-Descriptor, and the flag of a selection or a parameter (IEC 62056-5-3)
abbrev pub front_at : List ℕ → Front
front_at bytes = record {
  service = slice_index bytes 0;
  form = slice_index bytes 1;
  invoke = slice_index bytes 2;
  descriptor = record {
    class_id = from_be_bytes w16 (slice_index bytes 3 ∷ slice_index bytes 4 ∷ []);
    name = record { 0 = slice_index bytes 5 ∷ slice_index bytes 6 ∷ slice_index bytes 7 ∷ slice_index bytes 8 ∷ slice_index bytes 9 ∷ slice_index bytes 10 ∷ [] };
    index = cast_signed w8 (slice_index bytes 11);
  };
  flag = slice_index bytes 12;
}

-- the request for the next block that seven bytes are: C0 02, Invoke-Id-And-Priority and the number of the block that was sent last (IEC 62056-5-3, Get-Request-Next)
abbrev pub next_at : List ℕ → Option Request
next_at bytes =
    if slice_index bytes 0 == 0xC0 && slice_index bytes 1 == 2
    then Some (Next (slice_index bytes 2) (from_be_bytes w32 (slice_index bytes 3 ∷ slice_index bytes 4 ∷ slice_index bytes 5 ∷ slice_index bytes 6 ∷ [])))
    else None

-- the request that the bytes are, if they are one (IEC 62056-5-3, xDLMS-APDU)
unfoldable pub request_at : List ℕ → Option Request
request_at bytes =
    if length bytes == 7 then next_at bytes
    else if nat_lt (length bytes) 13 then None
    else if slice_index bytes 1 == 1 then service_of (front_at bytes) (drop 13 bytes)
    else None

-- of bytes, reading gives a request exactly where they are a form of it
abbrev pub ReadingIsGrammar : Type 0
ReadingIsGrammar = (request : Request) (bytes : List ℕ) → ((k : ℕ) → slice_index bytes k < 256) → (request_at bytes ≡ Some request) ↔ IsRequest request bytes
