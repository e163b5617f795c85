-- Names stand in the order of the numbers that their bytes are.
use Rattle.std.proofs.Common.{◌≡◌, ◌<◌, ◌+◌, ◌*◌, ℕ, List, [], ◌∷◌, suc, length, get_or, refl, sym, ap, ◌∙◌, arith}
use Rattle.std.specs.List.{AllByRecursion}
use Rattle.std.specs.Ordering.{nat_cmp, ordering_then, MatchOrdering}
use Rattle.std.specs.Cmp.{nat_cmp_is}
use Rattle.std.specs.Cmp.Lexicographic.{slice_cmp}
use Rattle.std.specs.Slice.Scan.{big_endian}
use Rattle.std.specs.declared.cmp.Ordering.{Ordering}
use Rattle.std.specs.declared.cmp.Ordering.TheVariants.{Less, Equal, Greater}
use Rattle.std.proofs.lemmas.Cmp.{ranked}
use Rattle.cosem_data.specs.declared.name.LogicalName.{LogicalName}
use Rattle.object_model.specs.Index.{order, worth, IsSixBytes}

abbrev AreBytes : List ℕ → Type 0
AreBytes a = AllByRecursion (λ b. b < 256) a

pub all-bytes : (a : List ℕ) → ((i : ℕ) → get_or a i 0 < 256) → AllByRecursion (λ b. b < 256) a
all-bytes [] h = tt
all-bytes (b ∷ a) h = (h 0, all-bytes a (λ i. h (suc i)))

-- bytes behind a lower number are a lower number
stays-below : (m n : ℕ) (a b : List ℕ) → m < n → length a ≡ length b → AreBytes a → big_endian m a < big_endian n b
stays-below m n [] [] h e r = h
stays-below m n [] (y ∷ b) h e r = absurd (omega (arith, e))
stays-below m n (x ∷ a) [] h e r = absurd (omega (arith, e))
stays-below m n (x ∷ a) (y ∷ b) h e r = stays-below (m * 256 + x) (n * 256 + y) a b (omega (arith, h, r.0)) (omega (arith, e)) r.1

-- the first bytes decide, and where they are the same the others do
begins : (m x y : ℕ) (a b : List ℕ) → length a ≡ length b → AreBytes (x ∷ a) → AreBytes (y ∷ b) →
    slice_cmp nat_cmp a b ≡ nat_cmp (big_endian (m * 256 + x) a) (big_endian (m * 256 + x) b) → (o : Ordering) → MatchOrdering o (x < y) (x ≡ y) (y < x) →
    ordering_then o (slice_cmp nat_cmp a b) ≡ nat_cmp (big_endian (m * 256 + x) a) (big_endian (m * 256 + y) b)
begins m x y a b e r s rest Less h = nat_cmp_is _ _ Less (stays-below (m * 256 + x) (m * 256 + y) a b (omega (arith, h)) e r.1)
begins m x y a b e r s rest Equal h = rest ∙ ap (λ z. nat_cmp (big_endian (m * 256 + x) a) (big_endian (m * 256 + z) b)) h
begins m x y a b e r s rest Greater h = nat_cmp_is _ _ Greater (stays-below (m * 256 + y) (m * 256 + x) b a (omega (arith, h)) (sym e) s.1)

-- as many bytes behind one number are in the order of the numbers that they are with it
in-order : (m : ℕ) (a b : List ℕ) → length a ≡ length b → AreBytes a → AreBytes b → slice_cmp nat_cmp a b ≡ nat_cmp (big_endian m a) (big_endian m b)
in-order m [] [] e r s = nat_cmp_is m m Equal refl
in-order m [] (y ∷ b) e r s = absurd (omega (arith, e))
in-order m (x ∷ a) [] e r s = absurd (omega (arith, e))
in-order m (x ∷ a) (y ∷ b) e r s =
    begins m x y a b (omega (arith, e)) r s (in-order (m * 256 + x) a b (omega (arith, e)) r.1 s.1) (nat_cmp x y) (ranked x y (nat_cmp x y) refl)

-- what their worths are in order by, names are
pub is-ordered : (a b : LogicalName) {m n : ℕ} {o : Ordering} → IsSixBytes a → IsSixBytes b → m ≡ worth a → n ≡ worth b → nat_cmp m n ≡ o → order a b ≡ o
is-ordered a b p q at_a at_b h = in-order 0 a.0 b.0 (p.0 ∙ sym q.0) p.1 q.1 ∙ (sym (ap2 at_a at_b) ∙ h)
  where
    ap2 : {m n k l : ℕ} → m ≡ k → n ≡ l → nat_cmp m n ≡ nat_cmp k l
    ap2 e f = cc
