-- The forms of a reply (IEC 62056-5-3): a relation between services, invoke bytes, replies and whole byte lists.
use Rattle.std.specs.Prelude.{◌≡◌, ℕ, List, [], ◌∷◌}
use Rattle.cosem_axdr.specs.Grammar.{IsEncoding}
use Rattle.cosem_axdr.specs.Canonical.{canonical, HasLengths}
use Rattle.meter_theory.specs.Access.{code_of}
use Rattle.meter_theory.specs.Replies as answers
use Rattle.meter_core.specs.StepView.{reply_of}
use Rattle.meter_core.specs.declared.reply.Reply.{Reply}
use Rattle.xdlms_services.specs.declared.writing.Service.{Service}
use Rattle.xdlms_services.specs.declared.writing.Service.TheVariants.{Get, Set, Act}

-- the bytes are a form of what the meter replies (IEC 62056-5-3, Get-Response-Normal: C4 01, 00 and a value or 01 and a result; Set-Response-Normal: C5 01; Action-Response-Normal: C7 01, its 00 is no return parameter)
abbrev pub IsResponse : Service → ℕ → answers.Reply → List ℕ → Type 0
IsResponse Get invoke (answers.Value value) bytes = (text : List ℕ) × IsEncoding value text × (bytes ≡ 0xC4 ∷ 1 ∷ invoke ∷ 0 ∷ text)
IsResponse Get invoke (answers.Code code) bytes = bytes ≡ 0xC4 ∷ 1 ∷ invoke ∷ 1 ∷ code_of code ∷ []
IsResponse Set invoke (answers.Code code) bytes = bytes ≡ 0xC5 ∷ 1 ∷ invoke ∷ code_of code ∷ []
IsResponse Act invoke (answers.Code code) bytes = bytes ≡ 0xC7 ∷ 1 ∷ invoke ∷ code_of code ∷ 0 ∷ []
IsResponse _ _ _ bytes = ⊥

-- the same of a reply that the code has
abbrev pub IsReply : Service → ℕ → Reply → List ℕ → Type 0
IsReply service invoke reply bytes = IsResponse service invoke (reply_of reply) bytes

-- the APDU of what the meter replies, in its shortest form: lengths take the fewest bytes, and true is 01 (IEC 62056-5-3, Get-Response-Normal, Set-Response-Normal and Action-Response-Normal; that it is the shortest of the forms is own profile)
abbrev pub reply_bytes : Service → ℕ → answers.Reply → List ℕ
reply_bytes Get invoke (answers.Value value) = 0xC4 ∷ 1 ∷ invoke ∷ 0 ∷ canonical value
reply_bytes Get invoke (answers.Code code) = 0xC4 ∷ 1 ∷ invoke ∷ 1 ∷ code_of code ∷ []
reply_bytes Set invoke (answers.Code code) = 0xC5 ∷ 1 ∷ invoke ∷ code_of code ∷ []
reply_bytes Act invoke (answers.Code code) = 0xC7 ∷ 1 ∷ invoke ∷ code_of code ∷ 0 ∷ []
reply_bytes _ _ _ = []

-- the same of a reply that the code has
abbrev pub canonical_reply : Service → ℕ → Reply → List ℕ
canonical_reply service invoke reply = reply_bytes service invoke (reply_of reply)

-- a value is replied to a GET alone, and is one that `write_data` takes; each service is replied a result code (own profile)
abbrev pub CanReply : Service → answers.Reply → Type 0
CanReply _ (answers.Code code) = Unit {0}
CanReply Get (answers.Value value) = HasLengths value
CanReply _ _ = ⊥

-- the same of a reply that the code has
abbrev pub CanWrite : Service → Reply → Type 0
CanWrite service reply = CanReply service (reply_of reply)

-- a byte list is a form of one reply at most
abbrev pub OneReply : Type 0
OneReply = (s z : Service) (i j : ℕ) (r q : Reply) (bytes : List ℕ) → IsReply s i r bytes → IsReply z j q bytes → (s ≡ z) × (i ≡ j) × (r ≡ q)
