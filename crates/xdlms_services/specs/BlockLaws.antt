-- What a client has of the blocks of a value (IEC 62056-5-3, Get-Response-With-Datablock).
use Rattle.std.specs.Prelude.{◌≡◌, ℕ, ◌+◌, ◌^◌, ◌<◌, ◌≤◌, ◌↔◌, true, false, List, [], ◌∷◌, ◌++◌, length, map, flat_map, All}
use Rattle.std.specs.List.{range_with_len, AllByRecursion}
use Rattle.cosem_data.specs.Tree.{Tree}
use Rattle.cosem_axdr.specs.Canonical.{canonical}
use Rattle.xdlms_services.specs.Blocks.{Transfer, Block, block_bytes, block_size, most_raw, start, behind, next_block}
use Rattle.xdlms_services.specs.BlockFaults.{fault_block_bytes}
use Rattle.xdlms_services.specs.declared.blocks.BlockFault.{BlockFault}

-- the blocks that are sent one after the other until nothing is left
abbrev pub Sends : Transfer → List Block → Type 0
Sends t [] = t.unsent ≡ []
Sends t (block ∷ blocks) = (0 < length t.unsent) × (block ≡ next_block t) × Sends (behind t) blocks

-- the APDU keeps within the limit, and wouldn't with a raw byte more
abbrev pub IsFull : ℕ → Block → Type 0
IsFull limit block = (block_size (length block.raw) ≤ limit) × (limit < block_size (length block.raw + 1))

-- the blocks bring the encoding, numbered from a first number on; each but the last is full, and the last, and no other, says that it is the last
pub record Bring (encoding : List ℕ) (first limit : ℕ) (blocks : List Block) : Type 0 where
  pub joined : flat_map (λ block. block.raw) blocks ≡ encoding
  pub numbers : map (λ block. block.number) blocks ≡ range_with_len first (length blocks)
  pub front : List Block
  pub last : Block
  pub order : blocks ≡ front ++ (last ∷ [])
  pub each_of_front : All (λ block. (block.is_last ≡ false) × IsFull limit block) front
  pub last_is_marked : last.is_last ≡ true
  pub last_fits : block_size (length last.raw) ≤ limit
  pub last_has_some : 0 < length last.raw

-- whatever the limit, the blocks that a value is sent in bring its canonical encoding, numbered from 1
abbrev pub BlocksBringValue : Type 0
BlocksBringValue = (value : Tree) (limit : ℕ) → 16 ≤ limit → (blocks : List Block) → Sends (start value limit) blocks → Bring (canonical value) 1 limit blocks

-- the blocks come to an end
abbrev pub BlocksEnd : Type 0
BlocksEnd = (value : Tree) (limit : ℕ) → 16 ≤ limit → (blocks : List Block) × Sends (start value limit) blocks

-- the APDU of a block has the bytes that its raw bytes ask
abbrev pub SizeOfBlock : Type 0
SizeOfBlock = (invoke : ℕ) (block : Block) → length (block_bytes invoke block) ≡ block_size (length block.raw)

-- so many raw bytes keep within the limit exactly where they are at most the most; below ten not even an APDU without raw bytes does
abbrev pub MostRawFits : Type 0
MostRawFits = (limit n : ℕ) → 10 ≤ limit → (block_size n ≤ limit) ↔ (n ≤ most_raw limit)

-- its number and the length of its raw bytes fit four bytes, and each raw byte is a byte (IEC 62056-5-3, DataBlock-G)
abbrev pub IsBlock : Block → Type 0
IsBlock block = (block.number < 2 ^ 32) × (length block.raw < 2 ^ 32) × AllByRecursion (λ b. b < 256) block.raw

-- an APDU is that of one block at most
abbrev pub OneBlock : Type 0
OneBlock = (i j : ℕ) (a b : Block) → IsBlock a → IsBlock b → block_bytes i a ≡ block_bytes j b → (i ≡ j) × (a ≡ b)

-- and the answer of one fault at most
abbrev pub OneFault : Type 0
OneFault = (i j m n : ℕ) (f g : BlockFault) → m < 2 ^ 32 → n < 2 ^ 32 → fault_block_bytes i m f ≡ fault_block_bytes j n g → (i ≡ j) × (m ≡ n) × (f ≡ g)

-- but not both
abbrev pub BlockIsNoFault : Type 0
BlockIsNoFault = (i j number : ℕ) (block : Block) (fault : BlockFault) → block_bytes i block ≡ fault_block_bytes j number fault → ⊥
