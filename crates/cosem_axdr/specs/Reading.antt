-- Reading a value from left to right (IEC 62056-5-3, type Data in A-XDR): the value and the bytes behind it, or the first fault that is met (which one is own profile).
use Rattle.std.specs.Prelude.{◌≡◌, ℕ, ℤ, zero, suc, not, List, [], ◌∷◌, length, take, drop, Option, Some, None, Result, Ok, Err, nat_lt, ◌==◌, find, if◌then◌else◌}
use Rattle.std.specs.Int.{Width, w8, w16, w32, w64, byte_len, from_be_bytes, cast_signed}
use Rattle.cosem_data.specs.Tree.{Tree, null_data, array, structure, boolean, double_long, double_long_unsigned, octet_string, visible_string, integer, long, unsigned, long_unsigned, long64, long64_unsigned, enumerated, trees}
use Rattle.cosem_data.specs.declared.kind.Kind.{Kind}
use Rattle.cosem_data.specs.declared.kind.Kind.TheVariants.{NullData, Array, Structure, Boolean, DoubleLong, DoubleLongUnsigned, OctetString, VisibleString, Integer, Long, Unsigned, LongUnsigned, Long64, Long64Unsigned, Enumerated}
use Rattle.cosem_axdr.specs.declared.fault.ReadFault.{ReadFault}
use Rattle.cosem_axdr.specs.declared.fault.ReadFault.TheVariants.{Short, UnknownTag, TooDeep, Length, Memory}
use Rattle.cosem_data.specs.Kinds.{tag_of}

-- the next step, unless this one met a fault
infixl 10 ◌>>=◌
abbrev pub ◌>>=◌ : {A B : Type 0} → Result A ReadFault → (A → Result B ReadFault) → Result B ReadFault
(Ok x) >>= f = f x
(Err e) >>= f = Err e

-- a function told the fault that reading meets; where memory ran out it says nothing of what reading gives
abbrev pub Fails : {Y : Type 0} → ReadFault → Result Y ReadFault → Type 0
Fails Memory read = Unit {0}
Fails Short read = read ≡ Err Short
Fails UnknownTag read = read ≡ Err UnknownTag
Fails TooDeep read = read ≡ Err TooDeep
Fails Length read = read ≡ Err Length

-- what a function returned, seen by view, is what reading gives, unless memory ran out
abbrev pub Gives : {X Y : Type 0} → (X → Y) → Result X ReadFault → Result Y ReadFault → Type 0
Gives view (Ok x) read = read ≡ Ok (view x)
Gives view (Err e) read = Fails e read

-- from bytes to what stands in front of them and the bytes behind it
abbrev pub Reader : Type 0 → Type 0
Reader A = List ℕ → Result (A × List ℕ) ReadFault

-- an unsigned number of a fixed width, the high byte first
abbrev pub unsigned_at : Width → Reader ℕ
unsigned_at w bytes = if nat_lt (length bytes) (byte_len w) then Err Short else Ok (from_be_bytes w (take (byte_len w) bytes), drop (byte_len w) bytes)

-- a signed number of a fixed width in two's complement, the high byte first
abbrev pub signed_at : Width → Reader ℤ
signed_at w bytes = unsigned_at w bytes >>= λ n. Ok (cast_signed w n.0, n.1)

-- a number of three bytes, the high one first
abbrev pub three_at : Reader ℕ
three_at bytes = if nat_lt (length bytes) 3 then Err Short else Ok (from_be_bytes w32 (0 ∷ take 3 bytes), drop 3 bytes)

-- a length or a count in any of its forms (as in ITU-T X.690, 8.1.3); no other byte begins one (own profile)
unfoldable pub length_at : Reader ℕ
length_at [] = Err Short
length_at (b ∷ rest) =
    if nat_lt b 128 then Ok (b, rest)
    else if b == 129 then unsigned_at w8 rest
    else if b == 130 then unsigned_at w16 rest
    else if b == 131 then three_at rest
    else if b == 132 then unsigned_at w32 rest
    else Err Length

-- a string: a length and that many bytes
unfoldable pub string_at : Reader (List ℕ)
string_at bytes = do
  n ← length_at bytes
  if nat_lt (length n.1) n.0 then Err Short else Ok (take n.0 n.1, drop n.0 n.1)

-- the fifteen kinds of values that are read (own profile)
abbrev pub kinds : List Kind
kinds = NullData ∷ Array ∷ Structure ∷ Boolean ∷ DoubleLong ∷ DoubleLongUnsigned ∷ OctetString ∷ VisibleString ∷ Integer ∷ Long ∷ Unsigned ∷ LongUnsigned ∷ Long64 ∷ Long64Unsigned ∷ Enumerated ∷ []

-- the kind with this tag (IEC 62056-5-3, type Data)
unfoldable pub kind_of_tag : ℕ → Option Kind
kind_of_tag b = find (λ k. tag_of k == b) kinds

-- so many values, one after the other
unfoldable pub parts_at : Reader Tree → ℕ → Reader (List Tree)
parts_at value zero bytes = Ok ([], bytes)
parts_at value (suc n) bytes = do
  first ← value bytes
  others ← parts_at value n first.1
  Ok (first.0 ∷ others.0, others.1)

-- what is read, as another type
abbrev pub read_map : {A B : Type 0} → (A → B) → Result (A × List ℕ) ReadFault → Result (B × List ℕ) ReadFault
read_map f read = read >>= λ x. Ok (f x.0, x.1)

-- the content of a value of a kind, where items reads a count and that many parts
unfoldable pub content_at : Reader (List Tree) → Kind → Reader Tree
content_at items NullData bytes = Ok (null_data, bytes)
content_at items Array bytes = read_map (λ ts. array (trees ts)) (items bytes)
content_at items Structure bytes = read_map (λ ts. structure (trees ts)) (items bytes)
content_at items Boolean bytes = read_map (λ n. boolean (not (n == 0))) (unsigned_at w8 bytes)
content_at items DoubleLong bytes = read_map double_long (signed_at w32 bytes)
content_at items DoubleLongUnsigned bytes = read_map double_long_unsigned (unsigned_at w32 bytes)
content_at items OctetString bytes = read_map octet_string (string_at bytes)
content_at items VisibleString bytes = read_map visible_string (string_at bytes)
content_at items Integer bytes = read_map integer (signed_at w8 bytes)
content_at items Long bytes = read_map long (signed_at w16 bytes)
content_at items Unsigned bytes = read_map unsigned (unsigned_at w8 bytes)
content_at items LongUnsigned bytes = read_map long_unsigned (unsigned_at w16 bytes)
content_at items Long64 bytes = read_map long64 (signed_at w64 bytes)
content_at items Long64Unsigned bytes = read_map long64_unsigned (unsigned_at w64 bytes)
content_at items Enumerated bytes = read_map enumerated (unsigned_at w8 bytes)

-- behind a tag that no kind has nothing is read
abbrev pub kind_content_at : Reader (List Tree) → Option Kind → Reader Tree
kind_content_at items None bytes = Err UnknownTag
kind_content_at items (Some kind) bytes = content_at items kind bytes

-- a tag and its content
abbrev pub value_with : Reader (List Tree) → Reader Tree
value_with items [] = Err Short
value_with items (tag ∷ bytes) = kind_content_at items (kind_of_tag tag) bytes

-- a count and that many parts, where the array or structure round them may be nested so deep, and each part one less; at depth 0 its tag was too deep already, whatever follows it
unfoldable pub items_at : ℕ → Reader (List Tree)
items_at zero bytes = Err TooDeep
items_at (suc depth) bytes = do
  n ← length_at bytes
  parts_at (value_with (items_at depth)) n.0 n.1

-- a value that is nested no deeper than the number; read_data reads at 16 (own profile)
unfoldable pub data_at : ℕ → Reader Tree
data_at depth = value_with (items_at depth)
