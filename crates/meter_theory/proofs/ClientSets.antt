-- Sets of clients, told apart by their members.
use Rattle.std.proofs.Common.{◌≡◌, ℕ, ◌<◌, ◌^◌, eqb, ap, subst, sym, arith}
use Rattle.std.specs.Int.{bit_at}
use Rattle.std.proofs.Math.Bridge.{le_prop}
use Rattle.std.proofs.lemmas.Bool.{eqb-true, eq-eqb}
use Rattle.std.proofs.lemmas.Nat.Bits.{bit_at-lt, same_from_bits}
use Rattle.cosem_data.specs.declared.clients.ClientSet.{ClientSet}
use Rattle.std.proofs.Common.{◌*◌, ◌%◌, ◌||◌, ◌∙◌, false, bit_or}
use Rattle.std.proofs.lemmas.Nat.Bits.{bit_at-zero}
use Rattle.cosem_data.proofs.Bits.{set_bit}
use Rattle.cosem_data.specs.Clients.{has_client}
use Rattle.meter_theory.specs.Labels.{nobody, with_client}

same_proof : (m n : ℕ) (p q : m < n) → p ≡ q
same_proof m n p q = le_prop p q

same_mask : (a b : ClientSet) → a.mask ≡ b.mask → a ≡ b
same_mask a b e =
    subst (λ m. (p : m < 2 ^ 16) → a ≡ record { mask = m; in_range = p }) e (λ p. ap (λ q. record { mask = a.mask; in_range = q }) (same_proof a.mask (2 ^ 16) a.in_range p)) b.in_range

same_bit : (m n : ℕ) → m < 2 → n < 2 → eqb m 1 ≡ eqb n 1 → m ≡ n
same_bit m n p q e = grind (arith, eqb-true, eq-eqb)

-- sets with the same members are equal
pub same_members : (a b : ClientSet) → ((k : ℕ) → has_client a k ≡ has_client b k) → a ≡ b
same_members a b h = same_mask a b (same_from_bits a.mask b.mask (λ k. same_bit (bit_at a.mask k) (bit_at b.mask k) (bit_at-lt a.mask k) (bit_at-lt b.mask k) (h k)))

pub nobody_in : (k : ℕ) → has_client nobody k ≡ false
nobody_in k = ap (λ n. eqb n 1) (bit_at-zero k)

-- the empty set is nobody
pub new_is_nobody : (set : ClientSet) → ((k : ℕ) → has_client set k ≡ false) → set ≡ nobody
new_is_nobody set h = same_members set nobody (λ k. h k ∙ sym (nobody_in k))

-- who is in a set with one client more
pub has_with : (set : ClientSet) (client k : ℕ) → client < 16 → has_client (with_client set client) k ≡ (eqb k client || has_client set k)
has_with set client k within =
    let one : 2 ^ client ≡ 1 * 2 ^ client = omega arith in
    ap (λ n. eqb (bit_at (bit_or set.mask (n % 2 ^ 16)) k) 1) one ∙ set_bit set.mask client k within

-- a set with one client more is told by its members
pub with_is : (set new : ClientSet) (client : ℕ) → client < 16 → ((k : ℕ) → has_client new k ≡ (eqb k client || has_client set k)) → new ≡ with_client set client
with_is set new client within h = same_members new (with_client set client) (λ k. h k ∙ sym (has_with set client k within))
