-- A value in blocks (IEC 62056-5-3, Get-Response-With-Datablock).
use Rattle.std.specs.Prelude.{ℕ, zero, suc, ◌+◌, ◌^◌, ◌<◌, ◌≤◌, Bool, ◌==◌, nat_le, List, ◌∷◌, ◌++◌, length, take, drop, if◌then◌else◌}
use Rattle.std.specs.Int.{w32, to_be_bytes}
use Rattle.cosem_data.specs.Tree.{Tree}
use Rattle.cosem_axdr.specs.Canonical.{canonical, shortest}

-- what is unsent of a value's encoding, the number of the block that was sent last, 0 before the first (IEC 62056-5-3, block-number), and the most bytes that an APDU may have (own profile)
pub record Transfer : Type 0 where
  pub unsent : List ℕ
  pub number : ℕ
  pub limit : ℕ

-- a part of an encoding, its number, and whether it is the last (IEC 62056-5-3, DataBlock-G: raw-data, block-number, last-block)
pub record Block : Type 0 where
  pub is_last : Bool
  pub number : ℕ
  pub raw : List ℕ

-- C4 02, the invoke byte, 01 at the last block and else 00, the number in four bytes, 00, the length in its shortest form and the raw bytes (IEC 62056-5-3, Get-Response-With-Datablock; that the length is in its shortest form is own profile)
abbrev pub block_bytes : ℕ → Block → List ℕ
block_bytes invoke block =
    0xC4 ∷ 2 ∷ invoke ∷ (if block.is_last then 1 else 0) ∷ (to_be_bytes w32 block.number ++ (0 ∷ (shortest (length block.raw) ++ block.raw)))

-- how many bytes that are with so many raw bytes
abbrev pub block_size : ℕ → ℕ
block_size n = 9 + length (shortest n) + n

-- the greatest number up to a number that passes a test, or 0
abbrev pub greatest : (ℕ → Bool) → ℕ → ℕ
greatest test zero = 0
greatest test (suc n) = if test (suc n) then suc n else greatest test n

-- the most raw bytes of a block that keeps within the limit (own profile)
unfoldable pub most_raw : ℕ → ℕ
most_raw limit = greatest (λ n. nat_le (block_size n) limit) limit

-- before the first block of a value: its whole canonical encoding is unsent
abbrev pub start : Tree → ℕ → Transfer
start value limit = record { unsent = canonical value; number = 0; limit = limit }

-- behind the next block: it takes the most raw bytes, or all where fewer are left
abbrev pub behind : Transfer → Transfer
behind t = record { unsent = drop (most_raw t.limit) t.unsent; number = t.number + 1; limit = t.limit }

-- the next block; it is the last where nothing is left behind it
abbrev pub next_block : Transfer → Block
next_block t = record { is_last = length (behind t).unsent == 0; number = t.number + 1; raw = take (most_raw t.limit) t.unsent }

-- what is kept between two blocks: how many bytes of an encoding were sent, in so many blocks with a byte at least; a block's number fits four bytes (IEC 62056-5-3, Unsigned32), and an APDU has 16 to 1,024 bytes at most (own profile)
pub record IsLongGet (encoding : List ℕ) (sent number limit : ℕ) : Type 0 where
  pub byte_each : number ≤ sent
  pub within : sent ≤ length encoding
  pub numbered : length encoding < 2 ^ 32
  pub room : 16 ≤ limit
  pub bounded : limit ≤ 1024
