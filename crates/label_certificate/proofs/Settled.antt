-- Arrows are passed until no set waits.
use Rattle.std.specs.Prelude.{◌≡◌, ◌≢◌, ◌<◌, ◌≤◌, ◌+◌, ◌⊎◌, ℕ, suc, List, [], ◌∷◌, length, Option, Some, None, IfSome}
use Rattle.std.specs.List.{range_with_len}
use Rattle.std.proofs.Common.{refl, sym, ap, subst, ◌∙◌, arith, inl, inr}
use Rattle.cosem_data.specs.declared.clients.ClientSet.{ClientSet}
use Rattle.meter_theory.specs.Lists.{IsIn}
use Rattle.meter_theory.proofs.Lists.{in_range}
use Rattle.object_model.proofs.Positions.{in-at}
use Rattle.label_certificate.specs.declared.arrows.Arrow.{Arrow}
use Rattle.label_certificate.specs.Chains.{IsLast, up_to}
use Rattle.label_certificate.specs.Closing.{AreArrows, Below, IsClosedBut, IsClosedBy, IsSub, arrow_at, missing, set_at}
use Rattle.label_certificate.specs.Waiting.{IsTaken, Numbers, with_number}
use Rattle.label_certificate.proofs.Marked.{with_number-has, with_number-keeps, with_number-length}
use Rattle.label_certificate.proofs.Passing.{IsClosing, IsPassing, IsSettled}
use Rattle.label_certificate.proofs.Cases.{same_or_not, less_or_not, less_or_same}

-- no arrow of the set was passed yet
pub passing-none : (arrows : List Arrow) (from : ℕ) (sets : List ClientSet) (w : Numbers) (next : Option ℕ) → IsLast arrows from (length arrows) next → IsPassing arrows from sets sets w w next
passing-none arrows from sets w next l = record {
  above = λ k c p. p;
  least = λ f closed under. under;
  there = l.there;
  settled = λ closed i h. at i h (closed i h);
  less = omega arith;
  bound = refl;
}
  where
    own : (i : ℕ) → i < length arrows → (arrow_at arrows i).from ≡ from → (i < up_to next) ⊎ (up_to next ≤ i) → IsSettled from (up_to next) w.waiting sets i (arrow_at arrows i)
    own i h e (inl less) = inr (e, less)
    own i h e (inr past) = absurd (l.none_behind i past h e)

    at : (i : ℕ) → i < length arrows → IsIn (from ∷ w.waiting) (arrow_at arrows i).from ⊎ IsSub (set_at sets (arrow_at arrows i).from) (set_at sets (arrow_at arrows i).to) →
        IsSettled from (up_to next) w.waiting sets i (arrow_at arrows i)
    at i h (inl (inl e)) = own i h e (less_or_not i (up_to next))
    at i h (inl (inr waits)) = inl (inl waits)
    at i h (inr sub) = inl (inr sub)

-- one more arrow was passed: where a set has grown, it waits
passing-more : (arrows : List Arrow) (from k : ℕ) (old sets new : List ClientSet) (before w v : Numbers) (next : Option ℕ) → IsPassing arrows from old sets before w (Some k) →
    IsLast arrows (arrow_at arrows k).from k next → Below sets new → ((f : List ClientSet) → IsSub (set_at f from) (set_at f (arrow_at arrows k).to) → Below sets f → Below new f) →
    IsSub (set_at new from) (set_at new (arrow_at arrows k).to) → ((j : ℕ) → IsIn w.waiting j → IsIn v.waiting j) → ((s : ℕ) → IsIn v.waiting s ⊎ (set_at new s ≡ set_at sets s)) →
    missing new + length v.waiting ≤ missing sets + length w.waiting → v.bound ≡ w.bound → IsPassing arrows from old new before v next
passing-more arrows from k old sets new before w v next m l above least passed keeps moved less bound = record {
  above = λ j c p. above j c (m.above j c p);
  least = λ f closed under. least f (subst (λ s. IsSub (set_at f s) (set_at f (arrow_at arrows k).to)) m.there.1 (closed (arrow_at arrows k) (in-at arrows k (record { from = 0; to = 0 }) m.there.0))) (m.least f closed under);
  there = further next l.there;
  settled = λ closed i h. at i (m.settled closed i h);
  less = let so_far = m.less in omega (arith, less, so_far);
  bound = bound ∙ m.bound;
}
  where
    further : (r : Option ℕ) → IfSome r (λ j. (j < k) × ((arrow_at arrows j).from ≡ (arrow_at arrows k).from)) → IfSome r (λ j. (j < length arrows) × ((arrow_at arrows j).from ≡ from))
    further None h = h
    further (Some j) h = let low = m.there.0 in let first = h.0 in (omega (arith, low, first), h.1 ∙ m.there.1)

    stays : (a : Arrow) → IsSub (set_at sets a.from) (set_at sets a.to) → IsIn v.waiting a.from ⊎ (set_at new a.from ≡ set_at sets a.from) → IsIn v.waiting a.from ⊎ IsSub (set_at new a.from) (set_at new a.to)
    stays a sub (inl waits) = inl waits
    stays a sub (inr same) = inr (subst (λ s. IsSub s (set_at new a.to)) (sym same) (λ c p. above a.to c (sub c p)))

    this : (i : ℕ) → (arrow_at arrows i).from ≡ from → (i < k) ⊎ (i ≡ k) → (i < up_to next) ⊎ (up_to next ≤ i) → IsSettled from (up_to next) v.waiting new i (arrow_at arrows i)
    this i e before (inl left) = inr (e, left)
    this i e (inl less) (inr past) = absurd (l.none_behind i past less (e ∙ sym m.there.1))
    this i e (inr same) (inr past) =
        inl (inr (subst (λ s. IsSub (set_at new s) (set_at new (arrow_at arrows i).to)) (sym e) (subst (λ z. IsSub (set_at new from) (set_at new (arrow_at arrows z).to)) (sym same) passed)))

    at : (i : ℕ) → IsSettled from (k + 1) w.waiting sets i (arrow_at arrows i) → IsSettled from (up_to next) v.waiting new i (arrow_at arrows i)
    at i (inl (inl waits)) = inl (inl (keeps (arrow_at arrows i).from waits))
    at i (inl (inr sub)) = inl (stays (arrow_at arrows i) sub (moved (arrow_at arrows i).from))
    at i (inr own) = this i own.0 (less_or_same i k own.1) (less_or_not i (up_to next))

pub passing-grown : (arrows : List Arrow) (from k to : ℕ) (old sets new : List ClientSet) (before w v : Numbers) (next : Option ℕ) → IsPassing arrows from old sets before w (Some k) →
    to ≡ (arrow_at arrows k).to → IsLast arrows (arrow_at arrows k).from k next → Below sets new → ((f : List ClientSet) → IsSub (set_at f from) (set_at f to) → Below sets f → Below new f) →
    IsSub (set_at new from) (set_at new to) → ((j : ℕ) → j ≢ to → set_at new j ≡ set_at sets j) → missing new < missing sets →
    v ≡ record { bound = w.bound; waiting = with_number w.waiting to } → IsPassing arrows from old new before v next
passing-grown arrows from k to old sets new before w v next m is l above least passed others grown added =
    passing-more arrows from k old sets new before w v next m l above
    (subst (λ t. (f : List ClientSet) → IsSub (set_at f from) (set_at f t) → Below sets f → Below new f) is least)
    (subst (λ t. IsSub (set_at new from) (set_at new t)) is passed)
    (λ j i. subst (λ ks. IsIn ks j) (sym now) (with_number-keeps w.waiting to j i))
    (λ s. moved s (same_or_not s to))
    (omega (arith, grown, with_number-length w.waiting to, ap length now))
    (ap (λ (u : Numbers). u.bound) added)
  where
    now : v.waiting ≡ with_number w.waiting to
    now = ap (λ (u : Numbers). u.waiting) added

    moved : (s : ℕ) → (s ≡ to) ⊎ (s ≢ to) → IsIn v.waiting s ⊎ (set_at new s ≡ set_at sets s)
    moved s (inl same) = inl (subst (IsIn v.waiting) (sym same) (subst (λ ks. IsIn ks to) (sym now) (with_number-has w.waiting to)))
    moved s (inr other) = inr (others s other)

pub passing-still : (arrows : List Arrow) (from k to : ℕ) (old sets new : List ClientSet) (before w : Numbers) (next : Option ℕ) → IsPassing arrows from old sets before w (Some k) →
    to ≡ (arrow_at arrows k).to → IsLast arrows (arrow_at arrows k).from k next → IsSub (set_at new from) (set_at new to) → new ≡ sets → IsPassing arrows from old new before w next
passing-still arrows from k to old sets new before w next m is l passed same =
    passing-more arrows from k old sets new before w w next m l
    (subst (Below sets) (sym same) (λ j c p. p))
    (λ f sub under. subst (λ s. Below s f) (sym same) under)
    (subst (λ t. IsSub (set_at new from) (set_at new t)) is passed)
    (λ j i. i)
    (λ s. inr (ap (λ xs. set_at xs s) same))
    (omega (arith, ap missing same))
    refl

-- all arrows of the set were passed
pub all-passed : (arrows : List Arrow) (from : ℕ) (old new : List ClientSet) (before after : Numbers) → IsPassing arrows from old new before after None →
    IsClosedBut (from ∷ before.waiting) arrows old → IsClosedBut after.waiting arrows new
all-passed arrows from old new before after m closed i h = at (m.settled closed i h)
  where
    at : IsSettled from 0 after.waiting new i (arrow_at arrows i) →
        IsIn after.waiting (arrow_at arrows i).from ⊎ IsSub (set_at new (arrow_at arrows i).from) (set_at new (arrow_at arrows i).to)
    at (inl settled) = settled
    at (inr own) = absurd (omega (arith, own.1))

-- each set waits
pub closing-none : (arrows : List Arrow) (sets : List ClientSet) (n : ℕ) (w : Numbers) → AreArrows (length sets) arrows → n ≡ length sets → w ≡ record { bound = n; waiting = range_with_len 0 n } → IsClosing arrows sets sets w
closing-none arrows sets n w fits long all = record {
  above = λ k c p. p;
  least = λ f closed under. under;
  closed = λ i h. inl (subst (λ ks. IsIn ks (arrow_at arrows i).from) (sym (ap (λ (u : Numbers). u.waiting) all)) (waits i (fits (arrow_at arrows i) (in-at arrows i (record { from = 0; to = 0 }) h)).0));
  bound = ap (λ (u : Numbers). u.bound) all ∙ long;
}
  where
    waits : (i : ℕ) → (arrow_at arrows i).from < length sets → IsIn (range_with_len 0 n) (arrow_at arrows i).from
    waits i low = in_range 0 n (arrow_at arrows i).from (omega arith) (omega (arith, low, long))

-- the arrows of one more set were passed
pub closing-more : (arrows : List Arrow) (from : ℕ) (old sets new : List ClientSet) (w v u : Numbers) → IsClosing arrows old sets w → w ≡ record { bound = v.bound; waiting = from ∷ v.waiting } →
    Below sets new → ((f : List ClientSet) → IsClosedBy arrows f → Below sets f → Below new f) → (IsClosedBut (from ∷ v.waiting) arrows sets → IsClosedBut u.waiting arrows new) →
    u.bound ≡ v.bound → length new ≡ length sets → IsClosing arrows old new u
closing-more arrows from old sets new w v u m taken above least passed bound long = record {
  above = λ k c p. above k c (m.above k c p);
  least = λ f closed under. least f closed (m.least f closed under);
  closed = passed (λ i h. at i (m.closed i h));
  bound = bound ∙ (sym (ap (λ (z : Numbers). z.bound) taken) ∙ (m.bound ∙ sym long));
}
  where
    at : (i : ℕ) → IsIn w.waiting (arrow_at arrows i).from ⊎ IsSub (set_at sets (arrow_at arrows i).from) (set_at sets (arrow_at arrows i).to) →
        IsIn (from ∷ v.waiting) (arrow_at arrows i).from ⊎ IsSub (set_at sets (arrow_at arrows i).from) (set_at sets (arrow_at arrows i).to)
    at i (inl waits) = inl (subst (λ ks. IsIn ks (arrow_at arrows i).from) (ap (λ (z : Numbers). z.waiting) taken) waits)
    at i (inr sub) = inr sub

place_of : (arrows : List Arrow) (a : Arrow) → IsIn arrows a → (i : ℕ) × (i < length arrows) × (arrow_at arrows i ≡ a)
place_of [] a there = absurd there
place_of (b ∷ arrows) a (inl e) = (0, omega arith, sym e)
place_of (b ∷ arrows) a (inr there) = let p = place_of arrows a there in (suc p.0, omega (arith, p.1), p.2)

-- no set waits
pub closed-all : (arrows : List Arrow) (sets : List ClientSet) (waiting : List ℕ) → waiting ≡ [] → IsClosedBut waiting arrows sets → IsClosedBy arrows sets
closed-all arrows sets waiting none closed a there = let p = place_of arrows a there in at p.0 p.2 (closed p.0 p.1)
  where
    at : (i : ℕ) → arrow_at arrows i ≡ a → IsIn waiting (arrow_at arrows i).from ⊎ IsSub (set_at sets (arrow_at arrows i).from) (set_at sets (arrow_at arrows i).to) → IsSub (set_at sets a.from) (set_at sets a.to)
    at i is (inl waits) = absurd (subst (λ ks. IsIn ks (arrow_at arrows i).from) none waits)
    at i is (inr sub) = subst (λ z. IsSub (set_at sets z.from) (set_at sets z.to)) is sub

-- where nothing was taken, none waits
pub none-waits : (w v : Numbers) (r : Option ℕ) → ((k : ℕ) → r ≡ Some k → ⊥) → IsTaken w v r → w.waiting ≡ []
none-waits w v None none h = h
none-waits w v (Some k) none h = absurd (none k refl)
