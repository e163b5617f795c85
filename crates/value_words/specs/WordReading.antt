-- Reading the words of a value from left to right: the value and what stands behind it, or the first place where something else stands than what the grammar asks. Texts are lists of bytes.
use Rattle.std.specs.Prelude.{◌≡◌, ◌≤◌, ℕ, ℤ, pos, negsuc, zero, suc, ◌+◌, ◌-◌, ◌*◌, ◌^◌, Bool, true, false, ◌&&◌, ◌==◌, nat_lt, nat_le, List, [], ◌∷◌, length, codes, Option, Some, None, option_and_then, is_some, Result, Ok, Err, if◌then◌else◌}
use Rattle.std.specs.Char.{is_ascii_digit}
use Rattle.std.specs.Result.{result_ok}
use Rattle.hex.specs.Hex.{decode_of}
use Rattle.cosem_data.specs.Tree.{Tree, null_data, array, structure, boolean, double_long, double_long_unsigned, octet_string, visible_string, integer, long, unsigned, long_unsigned, long64, long64_unsigned, enumerated, trees}
use Rattle.cosem_data.specs.declared.kind.Kind.{Kind}
use Rattle.cosem_data.specs.declared.kind.Kind.TheVariants.{NullData, Array, Structure, Boolean, DoubleLong, DoubleLongUnsigned, OctetString, VisibleString, Integer, Long, Unsigned, LongUnsigned, Long64, Long64Unsigned, Enumerated}
use Rattle.value_words.specs.declared.fault.Asked.{Asked}
use Rattle.value_words.specs.declared.fault.Asked.TheVariants as asked
use Rattle.value_words.specs.declared.fault.ValueFault.{ValueFault}
use Rattle.value_words.specs.declared.fault.ValueFault.TheVariants as fault
use Rattle.value_words.specs.declared.stop.Stop.{Stop}
use Rattle.value_words.specs.declared.stop.Stop.TheVariants as stop
use Rattle.value_words.specs.Stopping.{◌>>=◌, Reader, stops, found, read_map, behind, mark_at, front, past}
use Rattle.value_words.specs.Words.{word_of, is_plain}

-- Kinds

-- the fifteen kinds (own profile)
abbrev pub kinds : List Kind
kinds = NullData ∷ Array ∷ Structure ∷ Boolean ∷ DoubleLong ∷ DoubleLongUnsigned ∷ OctetString ∷ VisibleString ∷ Integer ∷ Long ∷ Unsigned ∷ LongUnsigned ∷ Long64 ∷ Long64Unsigned ∷ Enumerated ∷ []

-- this kind, if its word was found, else what is found among the others (own profile)
abbrev pub kind_or : Kind → Option (List ℕ) → Option (Kind × List ℕ) → Option (Kind × List ℕ)
kind_or k (Some rest) others = Some (k, rest)
kind_or k None others = others

-- the kind of these whose word stands in front, and what stands behind the word (own profile)
abbrev pub kind_among : List Kind → List ℕ → Option (Kind × List ℕ)
kind_among [] text = None
kind_among (k ∷ ks) text = kind_or k (behind (word_of k) text) (kind_among ks text)

-- the kind that was found; else reading stops (own profile)
abbrev pub found_kind : List ℕ → Option (Kind × List ℕ) → Result (Kind × List ℕ) (Stop Asked)
found_kind text None = stops asked.Kind text
found_kind text (Some x) = Ok x

-- the kind whose word stands in front (own profile)
unfoldable pub kind_at : Reader Asked Kind
kind_at text = found_kind text (kind_among kinds text)

-- Numbers

-- the value with one digit more, unless it is then more than the most (own profile)
abbrev pub with_digit : ℕ → ℕ → ℕ → Option ℕ
with_digit most value c = if is_ascii_digit c && nat_le (10 * value + (c - 48)) most then Some (10 * value + (c - 48)) else None

-- the value with these digits behind it (own profile)
abbrev pub with_digits : ℕ → ℕ → List ℕ → Option ℕ
with_digits most value [] = Some value
with_digits most value (c ∷ text) = option_and_then (λ more. with_digits most more text) (with_digit most value c)

-- the number up to the most that a text is in decimal, without leading zeros (own profile)
abbrev pub number_in : ℕ → List ℕ → Option ℕ
number_in most [] = None
number_in most (c ∷ text) = if (c == 48) && nat_lt 0 (length text) then None else with_digits most 0 (c ∷ text)

-- an unsigned number up to the most; it ends where the digits end (own profile)
unfoldable pub unsigned_at : {Q : Type 0} → Q → ℕ → Reader Q ℕ
unsigned_at what most text = found what text (number_in most (front is_ascii_digit text)) (past is_ascii_digit text)

-- the number below zero that this text is behind a minus sign; there is no `-0` (own profile)
abbrev pub negative_in : ℕ → List ℕ → Option ℤ
negative_in half digits = option_and_then (λ n. if n == 0 then None else Some (negsuc (n - 1))) (number_in half digits)

-- a signed number: below zero where something stands behind a minus sign, else from zero up (own profile)
abbrev pub signed_step : {Q : Type 0} → Q → ℕ → List ℕ → Option (List ℕ) → Result (ℤ × List ℕ) (Stop Q)
signed_step what half text (Some rest) = found what text (negative_in half (front is_ascii_digit rest)) (past is_ascii_digit rest)
signed_step what half text None = read_map pos (unsigned_at what (half - 1) text)

-- a signed number from -half up to half - 1, where a minus sign stands in front of one below zero (own profile)
unfoldable pub signed_at : {Q : Type 0} → Q → ℕ → Reader Q ℤ
signed_at what half text = signed_step what half text (behind (codes "-") text)

-- Truth and bytes

-- true, or else false, by what stands behind the one or the other word (own profile)
abbrev pub truth_step : List ℕ → Option (List ℕ) → Option (List ℕ) → Result (Bool × List ℕ) (Stop Asked)
truth_step text (Some rest) other = Ok (true, rest)
truth_step text None (Some rest) = Ok (false, rest)
truth_step text None None = stops asked.Truth text

-- `true` or `false` (own profile)
unfoldable pub truth_at : Reader Asked Bool
truth_at text = truth_step text (behind (codes "true") text) (behind (codes "false") text)

-- the value of an upper-case hex digit (own profile)
abbrev pub digit_value : ℕ → Option ℕ
digit_value c = if nat_le 48 c && nat_le c 57 then Some (c - 48) else if nat_le 65 c && nat_le c 70 then Some (c - 55) else None

-- an upper-case hex digit (own profile)
abbrev pub is_digit : ℕ → Bool
is_digit c = is_some (digit_value c)

-- the bytes that upper-case hex digits are, at least one (own profile)
abbrev pub bytes_in : List ℕ → Option (List ℕ)
bytes_in [] = None
bytes_in (c ∷ digits) = result_ok (decode_of (c ∷ digits))

-- `-` for no bytes, or upper-case hex digits, two a byte; they end where such digits end (own profile)
unfoldable pub octets_at : Reader Asked (List ℕ)
octets_at [] = stops asked.HexDigits []
octets_at (c ∷ rest) = if c == 45 then Ok ([], rest) else found asked.HexDigits (c ∷ rest) (bytes_in (front is_digit (c ∷ rest))) (past is_digit (c ∷ rest))

-- the byte that `\xHH` stands for, if it doesn't stand for itself (own profile)
abbrev pub escaped : ℕ → ℕ → ℕ → ℕ → Option ℕ
escaped slash x high low =
    if (slash == 92) && (x == 120) then option_and_then (λ h. option_and_then (λ l. if is_plain (16 * h + l) then None else Some (16 * h + l)) (digit_value low)) (digit_value high)
    else None

-- `\xHH` (own profile)
abbrev pub escape_at : Reader Asked ℕ
escape_at (slash ∷ x ∷ high ∷ low ∷ rest) = found asked.Letter (slash ∷ x ∷ high ∷ low ∷ rest) (escaped slash x high low) rest
escape_at text = stops asked.Letter text

-- one byte between quotes, or none at the closing quote (own profile)
unfoldable pub letter_at : Reader Asked (Option ℕ)
letter_at [] = stops asked.Letter []
letter_at (b ∷ rest) = if b == 34 then Ok (None, rest) else if is_plain b then Ok (Some b, rest) else read_map Some (escape_at (b ∷ rest))

-- nothing more behind the closing quote; behind a byte the others (own profile)
abbrev pub letters_step : Reader Asked (List ℕ) → Option ℕ → Reader Asked (List ℕ)
letters_step others None text = Ok ([], text)
letters_step others (Some b) text = read_map (λ s. b ∷ s) (others text)

-- at most so many bytes between quotes and the closing quote (own profile)
unfoldable pub letters_at : ℕ → Reader Asked (List ℕ)
letters_at zero text = stops asked.Letter text
letters_at (suc n) text = do
  letter ← letter_at text
  letters_step (letters_at n) letter.0 letter.1

-- bytes in quotes (own profile)
unfoldable pub quoted_at : Reader Asked (List ℕ)
quoted_at text = do
  rest ← mark_at asked.Quote (34 ∷ []) text
  letters_at (length rest) rest

-- Lists

-- whether a part was the last, by what stands behind the one or the other mark (own profile)
abbrev pub part_end_step : List ℕ → Option (List ℕ) → Option (List ℕ) → Result (Bool × List ℕ) (Stop Asked)
part_end_step text (Some rest) other = Ok (true, rest)
part_end_step text None (Some rest) = Ok (false, rest)
part_end_step text None None = stops asked.CommaOrBrace text

-- whether a part was the last: ` }` stands behind the last one, and `, ` behind another (own profile)
unfoldable pub part_end_at : Reader Asked Bool
part_end_at text = part_end_step text (behind (codes " }") text) (behind (codes ", ") text)

-- nothing more behind the last part; behind another the others (own profile)
abbrev pub parts_step : Reader Asked (List Tree) → Bool → Reader Asked (List Tree)
parts_step others true text = Ok ([], text)
parts_step others false text = others text

-- at most so many parts, one at least, and the closing brace (own profile)
unfoldable pub parts_at : Reader Asked Tree → ℕ → Reader Asked (List Tree)
parts_at value zero text = stops asked.Kind text
parts_at value (suc n) text = do
  first ← value text
  end ← part_end_at first.1
  read_map (λ ts. first.0 ∷ ts) (parts_step (parts_at value n) end.0 end.1)

-- what stands behind the opening brace: the closing one, or parts (own profile)
abbrev pub list_step : Reader Asked Tree → List ℕ → Option (List ℕ) → Result (List Tree × List ℕ) (Stop Asked)
list_step value text (Some rest) = Ok ([], rest)
list_step value text None = parts_at value (length text) text

-- the content of a value of a kind, where list reads the parts of an array or a structure (own profile)
unfoldable pub content_at : Reader Asked (List Tree) → Kind → Reader Asked Tree
content_at list NullData text = Ok (null_data, text)
content_at list Array text = read_map (λ ts. array (trees ts)) (list text)
content_at list Structure text = read_map (λ ts. structure (trees ts)) (list text)
content_at list Boolean text = read_map boolean (truth_at text)
content_at list DoubleLong text = read_map double_long (signed_at asked.Number (2 ^ 31) text)
content_at list DoubleLongUnsigned text = read_map double_long_unsigned (unsigned_at asked.Number (2 ^ 32 - 1) text)
content_at list OctetString text = read_map octet_string (octets_at text)
content_at list VisibleString text = read_map visible_string (quoted_at text)
content_at list Integer text = read_map integer (signed_at asked.Number (2 ^ 7) text)
content_at list Long text = read_map long (signed_at asked.Number (2 ^ 15) text)
content_at list Unsigned text = read_map unsigned (unsigned_at asked.Number (2 ^ 8 - 1) text)
content_at list LongUnsigned text = read_map long_unsigned (unsigned_at asked.Number (2 ^ 16 - 1) text)
content_at list Long64 text = read_map long64 (signed_at asked.Number (2 ^ 63) text)
content_at list Long64Unsigned text = read_map long64_unsigned (unsigned_at asked.Number (2 ^ 64 - 1) text)
content_at list Enumerated text = read_map enumerated (unsigned_at asked.Number (2 ^ 8 - 1) text)

-- the word of a kind and its content (own profile)
abbrev pub value_with : Reader Asked (List Tree) → Reader Asked Tree
value_with list text = do
  kind ← kind_at text
  content_at list kind.0 kind.1

-- the parts of an array or a structure that may be nested so deep, each of them one less; at depth 0 it is too deep already, whatever follows its word (own profile)
unfoldable pub list_at : ℕ → Reader Asked (List Tree)
list_at zero text = stops asked.Depth text
list_at (suc depth) text = do
  rest ← mark_at asked.OpenBrace (codes "{ ") text
  list_step (value_with (list_at depth)) rest (behind (codes "}") rest)

-- a value that is nested no deeper (own profile)
unfoldable pub value_within : ℕ → Reader Asked Tree
value_within depth = value_with (list_at depth)

-- a stop by its place from the front of a text that is so long (own profile)
abbrev pub placed : {A : Type 0} → ℕ → Result A (Stop Asked) → Result A ValueFault
placed size (Ok x) = Ok x
placed size (Err stop.Memory) = Err fault.Memory
placed size (Err (stop.At left what)) = Err (fault.At (size - left) what)

-- the value in front of a text, nested no deeper, and what stands behind it; or the first place where something else stands than what is asked (own profile)
abbrev pub value_at : ℕ → List ℕ → Result (Tree × List ℕ) ValueFault
value_at depth text = placed (length text) (value_within depth text)

-- What a function of the code says of this

-- a function told the fault that is met; where memory ran out it says nothing of what is met (own profile)
abbrev pub Fails : {Y : Type 0} → ValueFault → Result Y ValueFault → Type 0
Fails fault.Memory read = Unit {0}
Fails (fault.At place what) read = read ≡ Err (fault.At place what)

-- what a function returned, seen by view, is the value or the fault that is met, unless memory ran out (own profile)
abbrev pub Gives : {X Y : Type 0} → (X → Y) → Result X ValueFault → Result Y ValueFault → Type 0
Gives view (Ok x) read = read ≡ Ok (view x)
Gives view (Err e) read = Fails e read

-- the place of a fault is in a text that is so long, or at its end (own profile)
abbrev pub IsPlaceWithin : ℕ → ValueFault → Type 0
IsPlaceWithin size fault.Memory = Unit {0}
IsPlaceWithin size (fault.At place what) = place ≤ size
