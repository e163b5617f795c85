-- The forms of a request (IEC 62056-5-3): a relation between requests and whole byte lists.
use Rattle.std.specs.Prelude.{◌≡◌, ℕ, ◌<◌, ◌≤◌, Bool, true, false, List, [], ◌∷◌, ◌++◌, length, slice_index, Option, Some, None}
use Rattle.std.specs.Int.{w8, w16, w32}
use Rattle.cosem_data.specs.Tree.{Tree, depth}
use Rattle.cosem_data.specs.View.{tree}
use Rattle.cosem_axdr.specs.Grammar.{IsEncoding, IsUnsigned, IsSigned}
use Rattle.meter_theory.specs.declared.refs.Descriptor.{Descriptor}
use Rattle.object_model.specs.declared.argument.Argument.{Argument}
use Rattle.object_model.specs.declared.argument.Argument.TheVariants.{Absent, Value, Unreadable}
use Rattle.xdlms_services.specs.declared.request.Request.{Request}
use Rattle.xdlms_services.specs.declared.request.Request.TheVariants.{Get, Set, Act, Next}

-- the bytes are an encoding of the value (IEC 62056-5-3, Data), or of none; that values nest at most 16 deep is own profile
abbrev pub IsArgument : Argument → List ℕ → Type 0
IsArgument Absent bytes = ⊥
IsArgument (Value value) bytes = IsEncoding (tree value) bytes × (depth (tree value) ≤ 16)
IsArgument Unreadable bytes = (t : Tree) → IsEncoding t bytes → depth t ≤ 16 → ⊥

-- the tag, 01 for the normal form, the invoke byte, and the Cosem-Attribute-Descriptor or the Cosem-Method-Descriptor: class in two bytes, name in six, index in one; then the rest (IEC 62056-5-3, Get-Request-Normal, Set-Request-Normal and Action-Request-Normal)
pub record IsHeaded (service invoke : ℕ) (d : Descriptor) (bytes rest : List ℕ) : Type 0 where
  pub class_bytes : List ℕ
  pub class_is : IsUnsigned w16 d.class_id class_bytes
  pub name_length : length d.name.0 ≡ 6
  pub index_bytes : List ℕ
  pub index_is : IsSigned w8 d.index index_bytes
  pub whole : bytes ≡ service ∷ 1 ∷ invoke ∷ (class_bytes ++ (d.name.0 ++ (index_bytes ++ rest)))

-- what stands behind the index of a GET: 00, or 01 and its Selective-Access-Descriptor, the selector and the parameter (IEC 62056-5-3, Get-Request-Normal)
abbrev pub IsSelection : Option (ℕ × Argument) → List ℕ → Type 0
IsSelection None rest = rest ≡ 0 ∷ []
IsSelection (Some s) rest = (text : List ℕ) × IsArgument s.1 text × (rest ≡ 1 ∷ s.0 ∷ text)

-- what stands behind the index of a SET: 00 and the value, or 01 for a selection (IEC 62056-5-3, Set-Request-Normal); that anything may follow the 01 is own profile
abbrev pub IsSetting : Bool → Argument → List ℕ → Type 0
IsSetting false value rest = (text : List ℕ) × IsArgument value text × (rest ≡ 0 ∷ text)
IsSetting true value rest = (text : List ℕ) × (value ≡ Absent) × (rest ≡ 1 ∷ text)

-- what stands behind the index of an ACTION: 00, or 01 and the parameter (IEC 62056-5-3, Action-Request-Normal)
abbrev pub IsInvocation : Argument → List ℕ → Type 0
IsInvocation Absent rest = rest ≡ 0 ∷ []
IsInvocation argument rest = (text : List ℕ) × IsArgument argument text × (rest ≡ 1 ∷ text)

-- C0 02, the invoke byte, and the number of the block that was sent last in four bytes (IEC 62056-5-3, Get-Request-Next)
abbrev pub IsNext : ℕ → ℕ → List ℕ → Type 0
IsNext invoke block bytes = (number : List ℕ) × IsUnsigned w32 block number × (bytes ≡ 0xC0 ∷ 2 ∷ invoke ∷ number)

-- the bytes are a form of the request (IEC 62056-5-3, xDLMS-APDU: C0 is get-request, C1 is set-request, C3 is action-request)
abbrev pub IsRequest : Request → List ℕ → Type 0
IsRequest (Get invoke d selection) bytes = (rest : List ℕ) × IsHeaded 0xC0 invoke d bytes rest × IsSelection selection rest
IsRequest (Set invoke d selected value) bytes = (rest : List ℕ) × IsHeaded 0xC1 invoke d bytes rest × IsSetting selected value rest
IsRequest (Act invoke d argument) bytes = (rest : List ℕ) × IsHeaded 0xC3 invoke d bytes rest × IsInvocation argument rest
IsRequest (Next invoke block) bytes = IsNext invoke block bytes

-- the bytes are a form of no request
abbrev pub IsNoRequest : List ℕ → Type 0
IsNoRequest bytes = (request : Request) → IsRequest request bytes → ⊥

-- a byte list is a form of one request at most
abbrev pub OneRequest : Type 0
OneRequest = (r q : Request) (bytes : List ℕ) → ((k : ℕ) → slice_index bytes k < 256) → IsRequest r bytes → IsRequest q bytes → r ≡ q
