-- Seats of which the first aren't taken.
use Rattle.std.proofs.Common.{◌≡◌, ℕ, zero, suc, ◌<◌, Bool, true, false, List, [], ◌∷◌, Some, slice_get, slice_set, refl, ap, sym, ◌∙◌, arith}
use Rattle.std.proofs.Math.Dec.{leb-zero, leb-suc-zero, leb-suc-suc}
use Rattle.std.specs.Prelude.{nat_le, replicate}

pub all_taken : (n seat : ℕ) → seat < n → slice_get (replicate n true) seat ≡ Some true
all_taken zero seat within = absurd (omega arith)
all_taken (suc n) zero within = refl
all_taken (suc n) (suc seat) within = all_taken n seat (omega arith)

-- once the first of the taken seats is freed, the next is the first
pub free_next : (is_taken : List Bool) (first seat : ℕ) → slice_get is_taken seat ≡ Some (nat_le first seat) → slice_get (slice_set is_taken first false) seat ≡ Some (nat_le (suc first) seat)
free_next [] first seat is = absurd (cc is)
free_next (x ∷ l) zero zero is = refl
free_next (x ∷ l) zero (suc seat) is = is ∙ ap Some (leb-zero (suc seat) ∙ sym (leb-suc-suc zero seat ∙ leb-zero seat))
free_next (x ∷ l) (suc first) zero is = is ∙ ap Some (leb-suc-zero first ∙ sym (leb-suc-zero (suc first)))
free_next (x ∷ l) (suc first) (suc seat) is = free_next l first seat (is ∙ ap Some (leb-suc-suc first seat)) ∙ ap Some (sym (leb-suc-suc (suc first) seat))
