-- What a binary search knows, and an index that grows by a number.
use Rattle.std.proofs.Common.{◌≡◌, ◌≢◌, ◌<◌, ◌≤◌, ◌+◌, ◌*◌, ◌^◌, ◌-◌, ◌/◌, ℕ, false, List, length, Some, None, sym, ap, ◌∙◌, inl, inr, ◌⊎◌, arith, get_or}
use Rattle.std.specs.Prelude.{insert}
use Rattle.std.specs.List.{position_from}
use Rattle.std.specs.Ordering.{ordering_reverse, is_eq}
use Rattle.std.specs.declared.cmp.Ordering.TheVariants.{Less, Equal, Greater}
use Rattle.std.proofs.lemmas.Cmp.{nat_list_cmp_total, tied_itself}
use Rattle.std.proofs.lemmas.Map.Text.{is_eq-slice_cmp}
use Rattle.std.proofs.lemmas.Bool.{cases_lt, false_from_ne_true}
use Rattle.std.proofs.lemmas.Grind.{pow_more}
use Rattle.std.proofs.lemmas.List.Edits.{length-insert, get_or-insert_at, get_or-insert_below, get_or-insert_above}
use Rattle.std.proofs.Math.Nat.{pow-le-pow_right, mul-le-mul_right, eq-or-lt_of_le}
use Rattle.cosem_data.specs.Cells.{same_name}
use Rattle.cosem_data.specs.declared.name.LogicalName.{LogicalName}
use Rattle.cosem_data.proofs.Same.{same_name-true, same_name-from}
use Rattle.object_model.specs.Index.{name_at, entry, order, IsSorted, IsIndexOf}
use Rattle.object_model.proofs.Positions.{is-first, is-nowhere}

pub record IsSearched (names : List LogicalName) (numbers : List ℕ) (name : LogicalName) (low high compared : ℕ) : Type 0 where
  pub ordered : low ≤ high
  pub within : high ≤ length numbers
  pub less : (j : ℕ) → j < low → order (entry names numbers j) name ≡ Less
  pub greater : (j : ℕ) → high ≤ j → j < length numbers → order (entry names numbers j) name ≡ Greater
  pub counted : (k : ℕ) → length numbers < 2 ^ k → compared ≤ k
  pub halved : (high - low) * 2 ^ compared ≤ length numbers
  pub left : length numbers + 2 ≤ (high - low + 2) * 2 ^ compared

pub halves : (d e c n : ℕ) → e * 2 ≤ d → d * 2 ^ c ≤ n → e * 2 ^ (c + 1) ≤ n
halves d e c n h b =
    let more = mul-le-mul_right (2 ^ c) h in
    rw pow_more (regroup (2 ^ c) more)
  where
    regroup : (p : ℕ) → e * 2 * p ≤ d * 2 ^ c → e * (p * 2) ≤ n
    regroup p m = let same : e * (p * 2) ≡ e * 2 * p = grind arith in omega arith

-- what a comparison leaves of `d` numbers, at least
pub leaves : (d e c n : ℕ) → d ≤ e * 2 + 2 → n + 2 ≤ (d + 2) * 2 ^ c → n + 2 ≤ (e + 2) * 2 ^ (c + 1)
leaves d e c n h b =
    let more : (d + 2) * 2 ^ c ≤ (e + 2) * 2 * 2 ^ c = mul-le-mul_right (2 ^ c) (omega arith) in
    rw pow_more (regroup (2 ^ c) more)
  where
    regroup : (p : ℕ) → (d + 2) * 2 ^ c ≤ (e + 2) * 2 * p → n + 2 ≤ (e + 2) * (p * 2)
    regroup p m = let same : (e + 2) * (p * 2) ≡ (e + 2) * 2 * p = grind arith in omega arith

pub one_more : (d c n k : ℕ) → 0 < d → d * 2 ^ c ≤ n → n < 2 ^ k → c + 1 ≤ k
one_more d c n k some b h = at (cases_lt c k)
  where
    at : (c < k) ⊎ (k ≤ c) → c + 1 ≤ k
    at (inl less) = omega arith
    at (inr more) =
        let bound : 2 ^ k ≤ 2 ^ c = pow-le-pow_right (omega arith) more in
        let once : 1 * 2 ^ c ≤ d * 2 ^ c = mul-le-mul_right (2 ^ c) some in
        omega arith

pub order-equal : (a b : LogicalName) → order a b ≡ Equal → a ≡ b
order-equal a b h = same_name-true a b (sym (is_eq-slice_cmp a.0 b.0) ∙ ap is_eq h)

pub order-itself : (a : LogicalName) → order a a ≡ Equal
order-itself a = tied_itself nat_list_cmp_total a.0

pub less-apart : (a b : LogicalName) → order a b ≡ Less → a ≢ b
less-apart a b h e = let same : order a b ≡ Equal = ap (order a) (sym e) ∙ order-itself a in cc

pub greater-apart : (a b : LogicalName) → order a b ≡ Greater → a ≢ b
greater-apart a b h e = let same : order a b ≡ Equal = ap (order a) (sym e) ∙ order-itself a in cc

pub greater-less : (a b : LogicalName) → order a b ≡ Greater → order b a ≡ Less
greater-less a b h = nat_list_cmp_total.antisymm b.0 a.0 ∙ ap ordering_reverse h

pub less-greater : (a b : LogicalName) → order a b ≡ Less → order b a ≡ Greater
less-greater a b h = nat_list_cmp_total.antisymm b.0 a.0 ∙ ap ordering_reverse h

pub less-trans : (a b c : LogicalName) → order a b ≡ Less → order b c ≡ Less → order a c ≡ Less
less-trans a b c = nat_list_cmp_total.trans a.0 b.0 c.0

pub goes-up : (names : List LogicalName) (numbers : List ℕ) (name : LogicalName) (low high compared : ℕ) → IsSorted names numbers → low < high →
    IsSearched names numbers name low high compared → (middle : ℕ) → middle ≡ low + (high - low) / 2 → order (entry names numbers middle) name ≡ Less →
    IsSearched names numbers name (middle + 1) high (compared + 1)
goes-up names numbers name low high compared s some i middle at is = record {
  ordered = omega arith;
  within = i.within;
  less = λ j h. below j (eq-or-lt_of_le (omega arith));
  greater = i.greater;
  counted = λ k h. one_more (high - low) compared (length numbers) k (omega arith) i.halved h;
  halved = halves (high - low) (high - (middle + 1)) compared (length numbers) (omega arith) i.halved;
  left = leaves (high - low) (high - (middle + 1)) compared (length numbers) (omega arith) i.left;
}
  where
    below : (j : ℕ) → (j ≡ middle) ⊎ (j < middle) → order (entry names numbers j) name ≡ Less
    below j (inr less) = less-trans (entry names numbers j) (entry names numbers middle) name (s.sorted j middle less (omega (arith, i.within, i.ordered))) is
    below j (inl same) = ap (λ z. order (entry names numbers z) name) same ∙ is

pub goes-down : (names : List LogicalName) (numbers : List ℕ) (name : LogicalName) (low high compared : ℕ) → IsSorted names numbers → low < high →
    IsSearched names numbers name low high compared → (middle : ℕ) → middle ≡ low + (high - low) / 2 → order (entry names numbers middle) name ≡ Greater →
    IsSearched names numbers name low middle (compared + 1)
goes-down names numbers name low high compared s some i middle at is = record {
  ordered = omega arith;
  within = omega (arith, i.within);
  less = i.less;
  greater = λ j h g. above j g (eq-or-lt_of_le h);
  counted = λ k h. one_more (high - low) compared (length numbers) k (omega arith) i.halved h;
  halved = halves (high - low) (middle - low) compared (length numbers) (omega arith) i.halved;
  left = leaves (high - low) (middle - low) compared (length numbers) (omega arith) i.left;
}
  where
    above : (j : ℕ) → j < length numbers → (middle ≡ j) ⊎ (middle < j) → order (entry names numbers j) name ≡ Greater
    above j g (inr less) =
        less-greater name (entry names numbers j)
        (less-trans name (entry names numbers middle) (entry names numbers j) (greater-less (entry names numbers middle) name is) (s.sorted middle j less g))
    above j g (inl same) = ap (λ z. order (entry names numbers z) name) (sym same) ∙ is

other-name : (a b : LogicalName) → a ≢ b → same_name a b ≡ false
other-name a b h = false_from_ne_true (same_name a b) (λ e. h (same_name-true a b e))

-- an index finds its names
pub found-first : (names : List LogicalName) (numbers : List ℕ) (name : LogicalName) (i : ℕ) → IsIndexOf names numbers (length names) → i < length numbers →
    order (entry names numbers i) name ≡ Equal → Some (get_or numbers i 0) ≡ position_from (λ n. same_name n name) 0 names
found-first names numbers name i x within is =
    let same : entry names numbers i ≡ name = order-equal (entry names numbers i) name is in
    is-first (λ n. same_name n name) names (get_or numbers i 0) _ (x.below i within)
    (λ j h. other-name (name_at names j) name (λ e. x.first i within j h (e ∙ sym same))) (same_name-from (entry names numbers i) name same)

pub found-none : (names : List LogicalName) (numbers : List ℕ) (name : LogicalName) (place : ℕ) → IsIndexOf names numbers (length names) →
    ((j : ℕ) → j < place → order (entry names numbers j) name ≡ Less) → ((j : ℕ) → place ≤ j → j < length numbers → order (entry names numbers j) name ≡ Greater) →
    None ≡ position_from (λ n. same_name n name) 0 names
found-none names numbers name place x less greater =
    is-nowhere (λ n. same_name n name) names _
    (λ k h. other-name (name_at names k) name (λ e. let at = x.complete k h in apart at.0 at.1 (cases_lt at.0 place) (at.2 ∙ e)))
  where
    apart : (i : ℕ) → i < length numbers → (i < place) ⊎ (place ≤ i) → entry names numbers i ≢ name
    apart i within (inl below) = less-apart (entry names numbers i) name (less i below)
    apart i within (inr above) = greater-apart (entry names numbers i) name (greater i above within)

-- what stands where after a number was inserted
data Stands (numbers : List ℕ) (place known i value : ℕ) : Type 0 where
  Before : i < place → i < length numbers → value ≡ get_or numbers i 0 → Stands numbers place known i value
  Here : i ≡ place → value ≡ known → Stands numbers place known i value
  Behind : (k : ℕ) → i ≡ k + 1 → place ≤ k → k < length numbers → value ≡ get_or numbers k 0 → Stands numbers place known i value

stands : (numbers : List ℕ) (place known i : ℕ) → place ≤ length numbers → i < length (insert numbers place known) →
    Stands numbers place known i (get_or (insert numbers place known) i 0)
stands numbers place known i within below = at (cases_lt i place)
  where
    after : (place ≡ i) ⊎ (place < i) → Stands numbers place known i (get_or (insert numbers place known) i 0)
    after (inl same) = Here (sym same) (ap (λ z. get_or (insert numbers place known) z 0) (sym same) ∙ get_or-insert_at numbers place known 0 within)
    after (inr more) =
        let back : i ≡ i - 1 + 1 = omega arith in
        Behind (i - 1) back (omega arith) (omega (arith, length-insert numbers place known within))
        (ap (λ z. get_or (insert numbers place known) z 0) back ∙ get_or-insert_above numbers place known 0 (i - 1) (omega arith) within)

    at : (i < place) ⊎ (place ≤ i) → Stands numbers place known i (get_or (insert numbers place known) i 0)
    at (inl less) = Before less (omega arith) (get_or-insert_below numbers place known 0 i less within)
    at (inr more) = after (eq-or-lt_of_le more)

-- a name that is new
pub grows : (names : List LogicalName) (numbers : List ℕ) (known place : ℕ) → IsIndexOf names numbers known → known < length names → known < 65536 → place ≤ length numbers →
    ((j : ℕ) → j < place → order (entry names numbers j) (name_at names known) ≡ Less) →
    ((j : ℕ) → place ≤ j → j < length numbers → order (entry names numbers j) (name_at names known) ≡ Greater) →
    IsIndexOf names (insert numbers place known) (known + 1)
grows names numbers known place x known_is few within less greater = record {
  few = omega (arith, length-insert numbers place known within, x.few);
  below = λ i h. below i (get_or (insert numbers place known) i 0) (stands numbers place known i within h);
  first = λ i h. first i (get_or (insert numbers place known) i 0) (stands numbers place known i within h);
  sorted = record {
    small = omega (arith, length-insert numbers place known within, x.few);
    within = λ i h. omega (arith, below i (get_or (insert numbers place known) i 0) (stands numbers place known i within h));
    sorted = λ i j less_than h. sorted i j (get_or (insert numbers place known) i 0) (get_or (insert numbers place known) j 0) less_than
        (stands numbers place known i within (omega arith)) (stands numbers place known j within h);
  };
  complete = λ k h. complete k (eq-or-lt_of_le (omega arith));
}
  where
    below : (i v : ℕ) → Stands numbers place known i v → v < known + 1
    below i v (Before a b e) = omega (arith, x.below i b)
    below i v (Here a e) = omega arith
    below i v (Behind k a b d e) = omega (arith, x.below k d)

    apart : (i : ℕ) → i < length numbers → (i < place) ⊎ (place ≤ i) → entry names numbers i ≢ name_at names known
    apart i h (inl low) = less-apart (entry names numbers i) (name_at names known) (less i low)
    apart i h (inr high) = greater-apart (entry names numbers i) (name_at names known) (greater i high h)

    first : (i v : ℕ) → Stands numbers place known i v → (k : ℕ) → k < v → name_at names k ≢ name_at names v
    first i v (Before a b e) k h = λ same. x.first i b k (omega arith) (same ∙ ap (name_at names) e)
    first i v (Here a e) k h = λ same. let at = x.complete k (omega arith) in apart at.0 at.1 (cases_lt at.0 place) (at.2 ∙ (same ∙ ap (name_at names) e))
    first i v (Behind m a b d e) k h = λ same. x.first m d k (omega arith) (same ∙ ap (name_at names) e)

    named : (v w : ℕ) (n m : LogicalName) → name_at names v ≡ n → name_at names w ≡ m → order n m ≡ Less → order (name_at names v) (name_at names w) ≡ Less
    named v w n m e f h = cc

    sorted : (i j v w : ℕ) → i < j → Stands numbers place known i v → Stands numbers place known j w → order (name_at names v) (name_at names w) ≡ Less
    sorted i j v w h (Before a b e) (Before a' b' e') = named v w _ _ (ap (name_at names) e) (ap (name_at names) e') (x.sorted.sorted i j h b')
    sorted i j v w h (Before a b e) (Here a' e') = named v w _ _ (ap (name_at names) e) (ap (name_at names) e') (less i a)
    sorted i j v w h (Before a b e) (Behind k' a' b' d' e') = named v w _ _ (ap (name_at names) e) (ap (name_at names) e') (x.sorted.sorted i k' (omega arith) d')
    sorted i j v w h (Here a e) (Before a' b' e') = absurd (omega arith)
    sorted i j v w h (Here a e) (Here a' e') = absurd (omega arith)
    sorted i j v w h (Here a e) (Behind k' a' b' d' e') =
        named v w _ _ (ap (name_at names) e) (ap (name_at names) e') (greater-less (entry names numbers k') (name_at names known) (greater k' b' d'))
    sorted i j v w h (Behind k a b d e) (Before a' b' e') = absurd (omega arith)
    sorted i j v w h (Behind k a b d e) (Here a' e') = absurd (omega arith)
    sorted i j v w h (Behind k a b d e) (Behind k' a' b' d' e') = named v w _ _ (ap (name_at names) e) (ap (name_at names) e') (x.sorted.sorted k k' (omega arith) d')

    stood : (i : ℕ) → (i < place) ⊎ (place ≤ i) → (j : ℕ) × (i < length numbers → j < length (insert numbers place known)) × (get_or (insert numbers place known) j 0 ≡ get_or numbers i 0)
    stood i (inl low) = (i, (λ h. omega (arith, length-insert numbers place known within)), get_or-insert_below numbers place known 0 i low within)
    stood i (inr high) = (i + 1, (λ h. omega (arith, length-insert numbers place known within)), get_or-insert_above numbers place known 0 i high within)

    complete : (k : ℕ) → (k ≡ known) ⊎ (k < known) → (i : ℕ) × (i < length (insert numbers place known)) × (entry names (insert numbers place known) i ≡ name_at names k)
    complete k (inl same) =
        (place, omega (arith, length-insert numbers place known within), ap (name_at names) (get_or-insert_at numbers place known 0 within ∙ sym same))
    complete k (inr low) =
        let at = x.complete k low in
        let j = stood at.0 (cases_lt at.0 place) in
        (j.0, j.1 at.1, ap (name_at names) j.2 ∙ at.2)

-- a name that stands there
pub stays : (names : List LogicalName) (numbers : List ℕ) (known i : ℕ) → IsIndexOf names numbers known → i < length numbers →
    order (entry names numbers i) (name_at names known) ≡ Equal → IsIndexOf names numbers (known + 1)
stays names numbers known i x within is = record {
  few = omega (arith, x.few);
  below = λ j h. omega (arith, x.below j h);
  first = x.first;
  sorted = x.sorted;
  complete = λ k h. complete k (eq-or-lt_of_le (omega arith));
}
  where
    complete : (k : ℕ) → (k ≡ known) ⊎ (k < known) → (j : ℕ) × (j < length numbers) × (entry names numbers j ≡ name_at names k)
    complete k (inl same) = (i, within, order-equal (entry names numbers i) (name_at names known) is ∙ ap (name_at names) (sym same))
    complete k (inr low) = x.complete k low
