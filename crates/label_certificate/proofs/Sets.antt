-- Growing sets of clients.
use Rattle.cosem_data.proofs.Bits.{none_above}
use Rattle.std.proofs.lemmas.Bool.{ltb-false}
use Rattle.std.proofs.Common.{ltb-true, ◌≡◌, ◌<◌, ◌≤◌, ◌+◌, ◌⊎◌, ℕ, zero, suc, Bool, true, false, cond, List, [], ◌∷◌, length, set, refl, sym, ap, ◌∙◌, arith, inl, inr}
use Rattle.std.specs.Prelude.{◌||◌, nat_lt}
use Rattle.std.specs.List.{range_with_len}
use Rattle.cosem_data.specs.declared.clients.ClientSet.{ClientSet}
use Rattle.cosem_data.specs.Clients.{has_client}
use Rattle.meter_theory.specs.Lists.{IsIn}
use Rattle.meter_theory.specs.declared.limits.TheConstants as limits
use Rattle.meter_theory.proofs.Lists.{in_range}
use Rattle.label_certificate.specs.Closing.{IsSub, set_at, lacking, missing}

pub not_both : {A : Type 0} (b : Bool) → b ≡ true → b ≡ false → A
not_both true p q = cc
not_both false p q = cc

-- a larger set lacks no more
lacking-le : (a b : ClientSet) → IsSub a b → (cs : List ℕ) → lacking b cs ≤ lacking a cs
lacking-le a b h [] = omega arith
lacking-le a b h (c ∷ cs) = at (has_client a c) (has_client b c) refl refl (lacking-le a b h cs)
  where
    at : (p q : Bool) → has_client a c ≡ p → has_client b c ≡ q → lacking b cs ≤ lacking a cs → cond q 0 1 + lacking b cs ≤ cond p 0 1 + lacking a cs
    at true true i j less = omega arith
    at false true i j less = omega arith
    at false false i j less = omega arith
    at true false i j less = not_both (has_client b c) (h c i) j

-- and less, if it has one more
lacking-lt : (a b : ClientSet) → IsSub a b → (cs : List ℕ) (d : ℕ) → IsIn cs d → has_client a d ≡ false → has_client b d ≡ true → lacking b cs < lacking a cs
lacking-lt a b h [] d i none one = absurd i
lacking-lt a b h (c ∷ cs) d (inl same) none one =
    let less : lacking b cs ≤ lacking a cs = lacking-le a b h cs in
    at (has_client a c) (has_client b c) (ap (has_client a) (sym same) ∙ none) (ap (has_client b) (sym same) ∙ one) less
  where
    at : (p q : Bool) → p ≡ false → q ≡ true → lacking b cs ≤ lacking a cs → cond q 0 1 + lacking b cs < cond p 0 1 + lacking a cs
    at false true i j less = omega arith
    at true q i j less = cc
    at p false i j less = cc
lacking-lt a b h (c ∷ cs) d (inr later) none one =
    at (has_client a c) (has_client b c) refl refl (lacking-lt a b h cs d later none one)
  where
    at : (p q : Bool) → has_client a c ≡ p → has_client b c ≡ q → lacking b cs < lacking a cs → cond q 0 1 + lacking b cs < cond p 0 1 + lacking a cs
    at true true i j less = omega arith
    at false true i j less = omega arith
    at false false i j less = omega arith
    at true false i j less = not_both (has_client b c) (h c i) j

-- a client that the one has and the other lacks
in_or_out : (a b : ClientSet) (cs : List ℕ) → ((d : ℕ) × IsIn cs d × (has_client a d ≡ true) × (has_client b d ≡ false)) ⊎ ((d : ℕ) → IsIn cs d → has_client a d ≡ true → has_client b d ≡ true)
in_or_out a b [] = inr (λ d i. absurd i)
in_or_out a b (c ∷ cs) = at (has_client a c) (has_client b c) refl refl (in_or_out a b cs)
  where
    more : (has_client a c ≡ true → has_client b c ≡ true) → ((d : ℕ) → IsIn cs d → has_client a d ≡ true → has_client b d ≡ true) → (d : ℕ) → IsIn (c ∷ cs) d → has_client a d ≡ true → has_client b d ≡ true
    more h k d (inl same) p = ap (has_client b) same ∙ h (ap (has_client a) (sym same) ∙ p)
    more h k d (inr later) p = k d later p

    at : (p q : Bool) → has_client a c ≡ p → has_client b c ≡ q →
        ((d : ℕ) × IsIn cs d × (has_client a d ≡ true) × (has_client b d ≡ false)) ⊎ ((d : ℕ) → IsIn cs d → has_client a d ≡ true → has_client b d ≡ true) →
        ((d : ℕ) × IsIn (c ∷ cs) d × (has_client a d ≡ true) × (has_client b d ≡ false)) ⊎ ((d : ℕ) → IsIn (c ∷ cs) d → has_client a d ≡ true → has_client b d ≡ true)
    at true false i j rest = inl (c, inl refl, i, j)
    at true true i j (inl r) = inl (r.0, inr r.1, r.2, r.3)
    at false q i j (inl r) = inl (r.0, inr r.1, r.2, r.3)
    at true true i j (inr k) = inr (more (λ p. j) k)
    at false q i j (inr k) = inr (more (λ p. not_both (has_client a c) p i) k)

-- what is not within the other has a client that the other lacks
pub union-less : (given had new : ClientSet) → ((c : ℕ) → has_client new c ≡ (has_client had c || has_client given c)) → (IsSub given had → ⊥) →
    lacking new (range_with_len 0 limits.CLIENTS) < lacking had (range_with_len 0 limits.CLIENTS)
union-less given had new is apart = at (in_or_out given had (range_with_len 0 limits.CLIENTS))
  where
    grows : IsSub had new
    grows c p = is c ∙ ap (λ x. x || has_client given c) p

    all : ((d : ℕ) → IsIn (range_with_len 0 limits.CLIENTS) d → has_client given d ≡ true → has_client had d ≡ true) → ⊥
    all h = apart (λ c p. in_places c p (nat_lt c limits.CLIENTS) refl)
      where
        in_places : (c : ℕ) → has_client given c ≡ true → (b : Bool) → nat_lt c limits.CLIENTS ≡ b → has_client had c ≡ true
        in_places c p true low = h c (in_range 0 limits.CLIENTS c (omega arith) (ltb-true c limits.CLIENTS low)) p
        in_places c p false high = not_both (has_client given c) p (none_above given.mask c given.in_range (ltb-false c limits.CLIENTS high))

    at : ((d : ℕ) × IsIn (range_with_len 0 limits.CLIENTS) d × (has_client given d ≡ true) × (has_client had d ≡ false)) ⊎ ((d : ℕ) → IsIn (range_with_len 0 limits.CLIENTS) d → has_client given d ≡ true → has_client had d ≡ true) →
        lacking new (range_with_len 0 limits.CLIENTS) < lacking had (range_with_len 0 limits.CLIENTS)
    at (inl r) = lacking-lt had new grows (range_with_len 0 limits.CLIENTS) r.0 r.1 r.3 (is r.0 ∙ (ap (λ x. has_client had r.0 || x) r.2 ∙ or-true (has_client had r.0)))
      where
        or-true : (b : Bool) → (b || true) ≡ true
        or-true true = refl
        or-true false = refl
    at (inr h) = absurd (all h)

-- one set grows
pub missing-less : (sets : List ClientSet) (i : ℕ) (new : ClientSet) → i < length sets → lacking new (range_with_len 0 limits.CLIENTS) < lacking (set_at sets i) (range_with_len 0 limits.CLIENTS) → missing (set sets i new) < missing sets
unfolding missing
missing-less [] i new h less = absurd (omega arith)
missing-less (s ∷ ss) zero new h less = omega (arith, less)
missing-less (s ∷ ss) (suc i) new h less =
    let rest : missing (set ss i new) < missing ss = missing-less ss i new (omega arith) less in
    omega (arith, rest)
