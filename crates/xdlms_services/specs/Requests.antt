-- The shortest bytes of a request, which a client sends (IEC 62056-5-3).
use Rattle.std.specs.Prelude.{◌≡◌, ℕ, ◌<◌, ◌≤◌, ◌^◌, FitsSigned, false, List, [], ◌∷◌, ◌++◌, length, slice_index, Option, Some, None, IfSome}
use Rattle.std.specs.Int.{w8, w16, w32, to_be_bytes, cast_unsigned}
use Rattle.cosem_data.specs.Tree.{depth}
use Rattle.cosem_data.specs.View.{tree}
use Rattle.cosem_axdr.specs.Canonical.{canonical, HasLengths}
use Rattle.cosem_axdr.specs.Laws.{HasRanges}
use Rattle.meter_theory.specs.declared.refs.Descriptor.{Descriptor}
use Rattle.object_model.specs.declared.argument.Argument.{Argument}
use Rattle.object_model.specs.declared.argument.Argument.TheVariants.{Absent, Value}
use Rattle.xdlms_services.specs.declared.request.Request.{Request}
use Rattle.xdlms_services.specs.declared.request.Request.TheVariants.{Get, Set, Act, Next}
use Rattle.xdlms_services.specs.Reading.{request_at}

-- the tag, 01 for the normal form, the invoke byte, and what is named: class in two bytes, name in six, index in one (IEC 62056-5-3, Cosem-Attribute-Descriptor and Cosem-Method-Descriptor)
abbrev pub front_bytes : ℕ → ℕ → Descriptor → List ℕ
front_bytes service invoke d = service ∷ 1 ∷ invoke ∷ (to_be_bytes w16 d.class_id ++ (d.name.0 ++ to_be_bytes w8 (cast_unsigned w8 d.index)))

-- the shortest encoding of the value of an argument (IEC 62056-5-3, Data); one that is absent or unreadable has none (own profile)
abbrev pub argument_bytes : Argument → List ℕ
argument_bytes (Value value) = canonical (tree value)
argument_bytes _ = []

-- behind the index of a GET: 00, or 01, the selector and its parameter (IEC 62056-5-3, Get-Request-Normal)
abbrev pub selection_bytes : Option (ℕ × Argument) → List ℕ
selection_bytes None = 0 ∷ []
selection_bytes (Some selection) = 1 ∷ selection.0 ∷ argument_bytes selection.1

-- behind the index of an ACTION: 00, or 01 and the parameter (IEC 62056-5-3, Action-Request-Normal)
abbrev pub invocation_bytes : Argument → List ℕ
invocation_bytes Absent = 0 ∷ []
invocation_bytes argument = 1 ∷ argument_bytes argument

-- C0 02, the invoke byte, and the number of the block that was sent last in four bytes (IEC 62056-5-3, Get-Request-Next)
abbrev pub next_bytes : ℕ → ℕ → List ℕ
next_bytes invoke block = 0xC0 ∷ 2 ∷ invoke ∷ to_be_bytes w32 block

-- the request in its shortest form: lengths take the fewest bytes, and true is 01 (IEC 62056-5-3, Get-Request-Normal, Get-Request-Next, Set-Request-Normal and Action-Request-Normal; that it is the shortest of the forms is own profile)
abbrev pub request_bytes : Request → List ℕ
request_bytes (Get invoke d selection) = front_bytes 0xC0 invoke d ++ selection_bytes selection
request_bytes (Set invoke d selected value) = front_bytes 0xC1 invoke d ++ (0 ∷ argument_bytes value)
request_bytes (Act invoke d argument) = front_bytes 0xC3 invoke d ++ invocation_bytes argument
request_bytes (Next invoke block) = next_bytes invoke block

-- the argument is a value that can be written, and is nested at most 16 deep (own profile)
abbrev pub IsWritableValue : Argument → Type 0
IsWritableValue (Value value) = HasLengths (tree value) × (depth (tree value) ≤ 16)
IsWritableValue _ = ⊥

-- an ACTION has a parameter that can be written, or none (own profile)
abbrev pub IsWritableParameter : Argument → Type 0
IsWritableParameter Absent = Unit {0}
IsWritableParameter argument = IsWritableValue argument

-- each value that the request brings along can be written; a SET has no selection (own profile)
abbrev pub IsWritable : Request → Type 0
IsWritable (Get invoke d selection) = IfSome selection (λ s. IsWritableValue s.1)
IsWritable (Set invoke d selected value) = (selected ≡ false) × IsWritableValue value
IsWritable (Act invoke d argument) = IsWritableParameter argument
IsWritable (Next invoke block) = Unit {0}

-- class, name and index fit their two, six and one bytes (IEC 62056-5-3, Cosem-Attribute-Descriptor and Cosem-Method-Descriptor)
abbrev pub IsDescriptorInRange : Descriptor → Type 0
IsDescriptorInRange d = (d.class_id < 2 ^ 16) × (length d.name.0 ≡ 6) × ((k : ℕ) → slice_index d.name.0 k < 256) × FitsSigned w8 d.index

-- the numbers of a value are in the ranges of their kinds (IEC 62056-5-3, Data)
abbrev pub IsArgumentInRange : Argument → Type 0
IsArgumentInRange (Value value) = HasRanges (tree value)
IsArgumentInRange _ = Unit {0}

-- each number of the request fits the bytes that it has (IEC 62056-5-3, Get-Request-Normal, Get-Request-Next, Set-Request-Normal and Action-Request-Normal)
abbrev pub IsInRange : Request → Type 0
IsInRange (Get invoke d selection) = (invoke < 256) × IsDescriptorInRange d × IfSome selection (λ s. (s.0 < 256) × IsArgumentInRange s.1)
IsInRange (Set invoke d selected value) = (invoke < 256) × IsDescriptorInRange d × IsArgumentInRange value
IsInRange (Act invoke d argument) = (invoke < 256) × IsDescriptorInRange d × IsArgumentInRange argument
IsInRange (Next invoke block) = (invoke < 256) × (block < 2 ^ 32)

-- the request has such bytes (IEC 62056-5-3, xDLMS-APDU)
abbrev pub CanAsk : Request → Type 0
CanAsk request = IsWritable request × IsInRange request

-- what was written of a request is read as that request
abbrev pub WrittenRequestsAreRead : Type 0
WrittenRequestsAreRead = (request : Request) → CanAsk request → request_at (request_bytes request) ≡ Some request
