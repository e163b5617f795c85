-- An APDU is that of one block at most, or the answer of one fault.
use Rattle.std.proofs.Common.{◌≡◌, ℕ, ◌^◌, ◌<◌, Bool, true, false, List, [], ◌∷◌, ◌++◌, length, take, drop, get_or, cond, refl, sym, ap, ◌∙◌, arith}
use Rattle.std.specs.Int.{w32, to_be_bytes, from_be_bytes}
use Rattle.std.proofs.lemmas.Nat.{from_be_bytes-to_be_bytes_4}
use Rattle.std.specs.List.{AllByRecursion}
use Rattle.cosem_data.specs.Tree.{octet_string}
use Rattle.cosem_axdr.specs.Canonical.{canonical, shortest}
use Rattle.cosem_axdr.proofs.Prefixes.{canonical_is_encoding, no_encoding_begins_another}
use Rattle.xdlms_services.specs.declared.blocks.BlockFault.{BlockFault}
use Rattle.xdlms_services.specs.declared.blocks.BlockFault.TheVariants.{NoLongGet, NumberInvalid}
use Rattle.xdlms_services.specs.Blocks.{Block}
use Rattle.xdlms_services.specs.BlockFaults.{fault_number}
use Rattle.xdlms_services.specs.BlockLaws.{OneBlock, OneFault, BlockIsNoFault}

-- four bytes are those of one number
one_number : (m n : ℕ) → m < 2 ^ 32 → n < 2 ^ 32 → to_be_bytes w32 m ≡ to_be_bytes w32 n → m ≡ n
one_number m n p q e = sym (from_be_bytes-to_be_bytes_4 m p) ∙ (ap (from_be_bytes w32) e ∙ from_be_bytes-to_be_bytes_4 n q)

-- a length and so many bytes are those of one octet-string
one_string : (a b : List ℕ) → length a < 2 ^ 32 → length b < 2 ^ 32 → AllByRecursion (λ x. x < 256) a → AllByRecursion (λ x. x < 256) b
    → shortest (length a) ++ a ≡ shortest (length b) ++ b → a ≡ b
one_string a b p q r s e =
    let left = canonical_is_encoding (octet_string a) p r in
    let right = canonical_is_encoding (octet_string b) q s in
    let same : octet_string a ≡ octet_string b = (no_encoding_begins_another (octet_string a) (octet_string b) (canonical (octet_string a)) (canonical (octet_string b)) [] [] left right (ap (λ (x : List ℕ). (9 ∷ x) ++ []) e)).0 in
    cc

-- 01 at the last block, and else 00
abbrev mark_of : Bool → ℕ
mark_of is_last = cond is_last 1 0

-- blocks with one mark are both the last, or neither is
one_mark : (a b : Bool) → mark_of a ≡ mark_of b → a ≡ b
one_mark true true e = refl
one_mark false false e = refl
one_mark true false e = absurd (omega arith)
one_mark false true e = absurd (omega arith)

-- blocks with the same parts are one
same_block : (a b : Block) → a.is_last ≡ b.is_last → a.number ≡ b.number → a.raw ≡ b.raw → a ≡ b
same_block a b e f g =
    let one : a ≡ record a { is_last = b.is_last } = ap (λ (x : Bool). record a { is_last = x }) e in
    let two : record a { is_last = b.is_last } ≡ record b { raw = a.raw } = ap (λ (x : ℕ). let c : Block = record { is_last = b.is_last; number = x; raw = a.raw } in c) f in
    let three : record b { raw = a.raw } ≡ b = ap (λ (x : List ℕ). record b { raw = x }) g in
    one ∙ (two ∙ three)

pub one_block_lem : OneBlock
one_block_lem i j a b p q e =
    let invoke : i ≡ j = ap (λ (x : List ℕ). get_or x 2 0) e in
    let mark : mark_of a.is_last ≡ mark_of b.is_last = ap (λ (x : List ℕ). get_or x 3 0) e in
    let number : to_be_bytes w32 a.number ≡ to_be_bytes w32 b.number = ap (λ (x : List ℕ). take 4 (drop 4 x)) e in
    let raw : shortest (length a.raw) ++ a.raw ≡ shortest (length b.raw) ++ b.raw = ap (λ (x : List ℕ). drop 9 x) e in
    (invoke, same_block a b (one_mark a.is_last b.is_last mark) (one_number a.number b.number p.0 q.0 number) (one_string a.raw b.raw p.1 q.1 p.2 q.2 raw))

-- results with one number are one
one_result : (f g : BlockFault) → fault_number f ≡ fault_number g → f ≡ g
one_result NoLongGet NoLongGet e = refl
one_result NumberInvalid NumberInvalid e = refl
one_result NoLongGet NumberInvalid e = absurd (omega arith)
one_result NumberInvalid NoLongGet e = absurd (omega arith)

pub one_fault_lem : OneFault
one_fault_lem i j m n f g p q e =
    let invoke : i ≡ j = ap (λ (x : List ℕ). get_or x 2 0) e in
    let number : to_be_bytes w32 m ≡ to_be_bytes w32 n = ap (λ (x : List ℕ). take 4 (drop 4 x)) e in
    let result : fault_number f ≡ fault_number g = ap (λ (x : List ℕ). get_or x 9 0) e in
    (invoke, one_number m n p q number, one_result f g result)

pub block_is_no_fault : BlockIsNoFault
block_is_no_fault i j number block fault e =
    let raw : ℕ = 0 in
    let result : ℕ = 1 in
    let choice : raw ≡ result = ap (λ (x : List ℕ). get_or x 8 0) e in
    absurd (omega arith)
