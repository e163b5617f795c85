-- Cases on numbers.
use Rattle.std.proofs.Common.{◌≡◌, ◌≢◌, ◌<◌, ◌≤◌, ◌+◌, ◌⊎◌, ℕ, arith}

pub same_or_not : (m n : ℕ) → (m ≡ n) ⊎ (m ≢ n)
same_or_not m n = grind arith

pub less_or_not : (j n : ℕ) → (j < n) ⊎ (n ≤ j)
less_or_not j n = grind arith

pub less_or_same : (j n : ℕ) → j < n + 1 → (j < n) ⊎ (j ≡ n)
less_or_same j n h = grind arith
