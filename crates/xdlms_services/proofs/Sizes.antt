-- How many bytes a block's APDU has, and how many raw bytes it takes at most.
use Rattle.std.proofs.Common.{List, length-append, ◌≡◌, ℕ, zero, suc, ◌+◌, ◌^◌, ◌<◌, ◌≤◌, Bool, true, leb, length, refl, sym, ap, ◌∙◌, arith, inl, inr}
use Rattle.std.proofs.lemmas.Bool.{cases_lt, cases_Bool, lt-ltb, le-ltb, le-leb, leb-true, false≢true}
use Rattle.cosem_axdr.specs.Canonical.{shortest}
use Rattle.xdlms_services.specs.Blocks.{Block, block_bytes, block_size, greatest, most_raw}
use Rattle.xdlms_services.specs.BlockLaws.{MostRawFits}

-- how long the shortest form of a length is
pub record HasForm (n size : ℕ) : Type 0 where
  pub itself : n < 128 → size ≡ 1
  pub one : 128 ≤ n → n < 2 ^ 8 → size ≡ 2
  pub two : 2 ^ 8 ≤ n → n < 2 ^ 16 → size ≡ 3
  pub three : 2 ^ 16 ≤ n → n < 2 ^ 24 → size ≡ 4
  pub four : 2 ^ 24 ≤ n → size ≡ 5

pub length-shortest : (n : ℕ) → HasForm n (length (shortest n))
unfolding shortest
length-shortest n = record {
  itself = λ a. rw (lt-ltb n 128 a) refl;
  one = λ a b. rw (le-ltb n 128 a, lt-ltb n (2 ^ 8) b) refl;
  two = λ a b. rw (le-ltb n 128 (omega arith), le-ltb n (2 ^ 8) a, lt-ltb n (2 ^ 16) b) refl;
  three = λ a b. rw (le-ltb n 128 (omega arith), le-ltb n (2 ^ 8) (omega arith), le-ltb n (2 ^ 16) a, lt-ltb n (2 ^ 24) b) refl;
  four = λ a. rw (le-ltb n 128 (omega arith), le-ltb n (2 ^ 8) (omega arith), le-ltb n (2 ^ 16) (omega arith), le-ltb n (2 ^ 24) a) refl;
}

-- more raw bytes take more room
pub block_size_grows : (m n : ℕ) → m ≤ n → block_size m ≤ block_size n
block_size_grows m n h =
    let a : HasForm m (length (shortest m)) = length-shortest m in
    let b : HasForm n (length (shortest n)) = length-shortest n in
    grind arith

-- the greatest number that passes does pass, if 0 does
greatest_passes : (test : ℕ → Bool) (n : ℕ) → test 0 ≡ true → test (greatest test n) ≡ true
greatest_passes test zero h = h
greatest_passes test (suc n) h =
    elim (cases_Bool (test (suc n))) [
      | inl p ↦ rw p p
      | inr p ↦ rw p (greatest_passes test n h)
    ]

-- and each number that passes is at most that
greatest_most : (test : ℕ → Bool) (n m : ℕ) → m ≤ n → test m ≡ true → m ≤ greatest test n
greatest_most test zero m h passes = h
greatest_most test (suc n) m h passes =
    elim (cases_Bool (test (suc n))) [
      | inl p ↦ rw p h
      | inr p ↦ rw p (elim (cases_lt m (suc n)) [
        | inl lt ↦ greatest_most test n m (omega arith) passes
        | inr le ↦
            let e : suc n ≡ m = omega arith in
            absurd (false≢true (sym p ∙ (ap test e ∙ passes)))
      ])
    ]

-- with the most raw bytes the APDU keeps within the limit
pub most_fits : (limit : ℕ) → 10 ≤ limit → block_size (most_raw limit) ≤ limit
unfolding most_raw
most_fits limit h =
    let none : HasForm 0 (length (shortest 0)) = length-shortest 0 in
    leb-true _ _ (greatest_passes (λ n. leb (block_size n) limit) limit (le-leb (block_size 0) limit (grind arith)))

-- and with more it doesn't
pub most_most : (limit n : ℕ) → block_size n ≤ limit → n ≤ most_raw limit
unfolding most_raw
most_most limit n h = greatest_most (λ n. leb (block_size n) limit) limit n (omega arith) (le-leb (block_size n) limit h)

-- the number with which the APDU keeps within the limit, while it doesn't with one more
most_is : (limit k : ℕ) → block_size k ≤ limit → limit < block_size (k + 1) → most_raw limit ≡ k
most_is limit k fits full =
    let small : block_size 0 ≤ block_size k = block_size_grows 0 k (omega arith) in
    let none : HasForm 0 (length (shortest 0)) = length-shortest 0 in
    let below : k ≤ most_raw limit = most_most limit k fits in
    elim (cases_lt k (most_raw limit)) [
      | inl lt ↦
          let more : block_size (k + 1) ≤ block_size (most_raw limit) = block_size_grows (k + 1) (most_raw limit) (omega arith) in
          let keeps : block_size (most_raw limit) ≤ limit = most_fits limit (grind arith) in
          absurd (omega arith)
      | inr le ↦ omega arith
    ]

-- the most raw bytes, where their length takes one byte
pub most_in_one : (limit k : ℕ) → limit ≡ k + 10 → k < 128 → most_raw limit ≡ k
most_in_one limit k e lt =
    let a : HasForm k (length (shortest k)) = length-shortest k in
    let b : HasForm (k + 1) (length (shortest (k + 1))) = length-shortest (k + 1) in
    most_is limit k (grind arith) (grind arith)

-- where it takes two, or one more byte would have it take two
pub most_in_two : (limit k : ℕ) → limit ≡ k + 11 → 127 ≤ k → k < 2 ^ 8 → most_raw limit ≡ k
most_in_two limit k e le lt =
    let a : HasForm k (length (shortest k)) = length-shortest k in
    let b : HasForm (k + 1) (length (shortest (k + 1))) = length-shortest (k + 1) in
    most_is limit k (grind arith) (grind arith)

-- where it takes three, or one more byte would have it take three
pub most_in_three : (limit k : ℕ) → limit ≡ k + 12 → 255 ≤ k → k < 2 ^ 16 → most_raw limit ≡ k
most_in_three limit k e le lt =
    let a : HasForm k (length (shortest k)) = length-shortest k in
    let b : HasForm (k + 1) (length (shortest (k + 1))) = length-shortest (k + 1) in
    most_is limit k (grind arith) (grind arith)

-- the APDU of a block is as long as its raw bytes say
pub length-block_bytes : (invoke : ℕ) (block : Block) → length (block_bytes invoke block) ≡ block_size (length block.raw)
length-block_bytes invoke block = omega (arith, length-append (shortest (length block.raw)) block.raw)

-- a block with the most raw bytes at most keeps within the limit
pub block_fits : (limit invoke : ℕ) (block : Block) (bytes : List ℕ) → bytes ≡ block_bytes invoke block → length block.raw ≤ most_raw limit → 10 ≤ limit → length bytes ≤ limit
block_fits limit invoke block bytes is few room =
    let grows : block_size (length block.raw) ≤ block_size (most_raw limit) = block_size_grows (length block.raw) (most_raw limit) few in
    omega (arith, ap length is, length-block_bytes invoke block, most_fits limit room)

-- there is room for a raw byte
pub most_some : (limit : ℕ) → 11 ≤ limit → 0 < most_raw limit
most_some limit h =
    let one : HasForm 1 (length (shortest 1)) = length-shortest 1 in
    omega (arith, most_most limit 1 (grind arith))

-- and a number of raw bytes fits exactly where it is at most that
pub most_raw_fits : MostRawFits
most_raw_fits limit n room = (
  λ fits. most_most limit n fits,
  λ few. let grows : block_size n ≤ block_size (most_raw limit) = block_size_grows n (most_raw limit) few in omega (arith, most_fits limit room),
)
