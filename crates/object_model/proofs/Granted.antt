-- Masks of indexes, and what the rights grant.
use Rattle.std.proofs.Common.{◌≡◌, ◌≢◌, ◌==◌, ◌<◌, ◌≤◌, ◌+◌, ◌*◌, ◌^◌, ◌%◌, ℕ, Bool, true, false, ◌&&◌, ◌||◌, nat_lt, List, length, take, Option, Some, None, refl, sym, ap, ◌∙◌, subst, inl, inr, ◌⊎◌, arith, get_or, set, max, eqb-true, bit_or}
use Rattle.std.specs.List.{position_from, list_any}
use Rattle.std.specs.Int.{bit_at, w16}
use Rattle.std.proofs.lemmas.Bool.{false≢true, cases_lt}
use Rattle.std.proofs.lemmas.Bool.Decides.{nat_tests}
use Rattle.std.proofs.lemmas.List.{get_or-set_same, get_or-set_other}
use Rattle.std.proofs.lemmas.List.Folds.{list_any_more}
use Rattle.std.proofs.lemmas.Nat.Bits.{bit_at_or, bit_at-lt, bit_at_set_same, bit_at_set_other}
use Rattle.std.proofs.Math.ListN.{length-set}
use Rattle.cosem_data.specs.Cells.{same_name}
use Rattle.cosem_data.specs.declared.name.LogicalName.{LogicalName}
use Rattle.cosem_data.proofs.Same.{same_name-true, same_name-from}
use Rattle.meter_theory.specs.Plan.{Right}
use Rattle.meter_theory.specs.Rights.{lists}
use Rattle.meter_theory.specs.declared.limits.TheConstants.{CLIENTS}
use Rattle.meter_theory.specs.declared.flow.Access.{Access}
use Rattle.object_model.specs.Index.{name_at}
use Rattle.object_model.specs.Grants.{listed_in, has_bit, granted_at, grants, place_in, AreMasksOf, HasRoom, IsJoined}
use Rattle.object_model.proofs.Positions.{first}
use Rattle.std.specs.Prelude.{IfSome}

or_true : (b : Bool) → (b || true) ≡ true
or_true true = refl
or_true false = refl

or_false : (b : Bool) → (b || false) ≡ b
or_false true = refl
or_false false = refl

and_false : (a b : Bool) → ((a && false) && b) ≡ false
and_false true b = refl
and_false false b = refl

lt_is : (i n : ℕ) → i < n → nat_lt i n ≡ true
lt_is i n h = grind (arith, nat_tests)

lt_not : (i n : ℕ) → n ≤ i → nat_lt i n ≡ false
lt_not i n h = grind (arith, nat_tests)

ored : (x y : ℕ) → x < 2 → y < 2 → (max x y == 1) ≡ ((x == 1) || (y == 1))
ored x y h g = grind (arith, nat_tests)

pub has_bit-or : (a b i : ℕ) → has_bit (bit_or a b) i ≡ (has_bit a i || has_bit b i)
has_bit-or a b i = at (nat_lt i 16)
  where
    at : (t : Bool) → (t && (bit_at (bit_or a b) i == 1)) ≡ ((t && (bit_at a i == 1)) || (t && (bit_at b i == 1)))
    at true = ap (λ n. n == 1) (bit_at_or a b i) ∙ ored (bit_at a i) (bit_at b i) (bit_at-lt a i) (bit_at-lt b i)
    at false = refl

pub has_bit-set : (m j i : ℕ) → j < 16 → has_bit (bit_or m (1 * 2 ^ j % 65536)) i ≡ (has_bit m i || (j == i))
has_bit-set m j i h = at (j == i) refl
  where
    at : (b : Bool) → (j == i) ≡ b → has_bit (bit_or m (1 * 2 ^ j % 65536)) i ≡ (has_bit m i || b)
    at true e =
        let same : j ≡ i = eqb-true j i e in
        let bit : bit_at (bit_or m (1 * 2 ^ j % 65536)) i ≡ 1 = ap (bit_at (bit_or m (1 * 2 ^ j % 65536))) (sym same) ∙ bit_at_set_same w16 m j h in
        ap (λ t. t && (bit_at (bit_or m (1 * 2 ^ j % 65536)) i == 1)) (lt_is i 16 (omega arith)) ∙ ap (λ n. n == 1) bit ∙ sym (or_true (has_bit m i))
    at false e =
        let other : i ≢ j = λ s. false≢true (sym e ∙ ap (λ z. z == i) (sym s) ∙ itself i) in
        ap (λ n. nat_lt i 16 && (n == 1)) (bit_at_set_other w16 m j h i other) ∙ sym (or_false (has_bit m i))
      where
        itself : (n : ℕ) → (n == n) ≡ true
        itself n = grind (arith, nat_tests)

pub mask-more : (xs : List ℕ) (k m : ℕ) → k < length xs → get_or xs k 0 < 16 → ((i : ℕ) → lists (take k xs) i ≡ has_bit m i) →
    (i : ℕ) → lists (take (k + 1) xs) i ≡ has_bit (bit_or m (1 * 2 ^ get_or xs k 0 % 65536)) i
mask-more xs k m h small before i =
    list_any_more (λ j. j == i) xs k 0 h ∙ ap (λ b. b || (get_or xs k 0 == i)) (before i) ∙ sym (has_bit-set m (get_or xs k 0) i small)

-- where a name stands
pub at-position : (names : List LogicalName) (name : LogicalName) (k : ℕ) → Some k ≡ place_in names name → (k < length names) × (name_at names k ≡ name)
at-position names name k is =
    let at = first (λ n. same_name n name) names k (sym is) in
    (at.within, same_name-true (name_at names k) name (at.passes _))

pub within : (names : List LogicalName) (r : Right) (at size : ℕ) → HasRoom names r → IfSome (place_in names r.object) (λ k. at ≡ k * CLIENTS + r.client) →
    size ≡ length names * CLIENTS → at < size
within names r at size room placed sized =
    let stands = at-position names r.object room.number (sym room.object) in
    let here : at ≡ room.number * CLIENTS + r.client = subst (λ q. IfSome q (λ k. at ≡ k * CLIENTS + r.client)) room.object placed in
    omega (arith, stands.0, here, sized, room.client)

pub joined : (masks : List ℕ) (place mask : ℕ) (indexes : List ℕ) → place < length masks → ((i : ℕ) → lists indexes i ≡ has_bit mask i) →
    IsJoined masks place indexes (set masks place (bit_or (get_or masks place 0) mask))
joined masks place mask indexes h listed_is = record {
  size = length-set masks place (bit_or (get_or masks place 0) mask);
  here = λ i.
      ap (λ z. has_bit z i) (get_or-set_same masks place (bit_or (get_or masks place 0) mask) 0 h)
      ∙ has_bit-or (get_or masks place 0) mask i
      ∙ ap (λ b. has_bit (get_or masks place 0) i || b) (sym (listed_is i));
  elsewhere = λ other apart. get_or-set_other masks place other (bit_or (get_or masks place 0) mask) 0 apart;
}

pub one-more : (names : List LogicalName) (access : Option Access) (rights : List Right) (masks after : List ℕ) (i : ℕ) (r : Right) (at : ℕ) →
    i < length rights → r ≡ get_or rights i r → AreMasksOf names access (take i rights) masks → HasRoom names r →
    IfSome (place_in names r.object) (λ k. at ≡ k * CLIENTS + r.client) → IsJoined masks at (listed_in access r) after →
    AreMasksOf names access (take (i + 1) rights) after
one-more names access rights masks after i r at h is before room placed joins = record {
  size = joins.size ∙ before.size;
  agrees = λ name client index.
      list_any_more (grants access name client index) rights i r h
      ∙ ap (λ z. list_any (grants access name client index) (take i rights) || grants access name client index z) (sym is)
      ∙ ap (λ b. b || grants access name client index r) (before.agrees name client index)
      ∙ core name client index (position_from (λ n. same_name n name) 0 names) refl;
}
  where
    k : ℕ
    k = room.number

    small : r.client < CLIENTS
    small = room.client

    found : Some k ≡ position_from (λ n. same_name n r.object) 0 names
    found = sym room.object

    here : at ≡ k * CLIENTS + r.client
    here = subst (λ q. IfSome q (λ m. at ≡ m * CLIENTS + r.client)) room.object placed

    stands : (k < length names) × (name_at names k ≡ r.object)
    stands = at-position names r.object k found

    apart : (m c j : ℕ) → (c < CLIENTS → m * CLIENTS + c ≢ at) → (nat_lt c CLIENTS && has_bit (get_or masks (m * CLIENTS + c) 0) j) ≡ (nat_lt c CLIENTS && has_bit (get_or after (m * CLIENTS + c) 0) j)
    apart m c j other = by (cases_lt c CLIENTS)
      where
        by : (c < CLIENTS) ⊎ (CLIENTS ≤ c) → (nat_lt c CLIENTS && has_bit (get_or masks (m * CLIENTS + c) 0) j) ≡ (nat_lt c CLIENTS && has_bit (get_or after (m * CLIENTS + c) 0) j)
        by (inl low) = ap (λ z. nat_lt c CLIENTS && has_bit z j) (sym (joins.elsewhere (m * CLIENTS + c) (other low)))
        by (inr high) = ap (λ b. b && has_bit (get_or masks (m * CLIENTS + c) 0) j) (lt_not c CLIENTS high) ∙ sym (ap (λ b. b && has_bit (get_or after (m * CLIENTS + c) 0) j) (lt_not c CLIENTS high))

    core : (name : LogicalName) (c j : ℕ) (q : Option ℕ) → position_from (λ n. same_name n name) 0 names ≡ q →
        (granted_at masks q c j || grants access name c j r) ≡ granted_at after q c j
    core name c j None e = by (same_name r.object name) refl
      where
        by : (b : Bool) → same_name r.object name ≡ b → (((r.client == c) && b) && lists (listed_in access r) j) ≡ false
        by true s =
            let same : r.object ≡ name = same_name-true r.object name s in
            let none : Some k ≡ None = found ∙ ap (λ m. position_from (λ n. same_name n m) 0 names) same ∙ e in cc
        by false s = and_false (r.client == c) (lists (listed_in access r) j)
    core name c j (Some m) e = by (r.client == c) refl (same_name r.object name) refl
      where
        other : (m < length names) × (name_at names m ≡ name)
        other = at-position names name m (sym e)

        by : (a : Bool) → (r.client == c) ≡ a → (b : Bool) → same_name r.object name ≡ b →
            ((nat_lt c CLIENTS && has_bit (get_or masks (m * CLIENTS + c) 0) j) || ((a && b) && lists (listed_in access r) j)) ≡ (nat_lt c CLIENTS && has_bit (get_or after (m * CLIENTS + c) 0) j)
        by false d b s =
            or_false (nat_lt c CLIENTS && has_bit (get_or masks (m * CLIENTS + c) 0) j)
            ∙ apart m c j (λ low g. false≢true (sym d ∙ tested (omega (arith, g, here, small, low))))
          where
            tested : r.client ≡ c → (r.client == c) ≡ true
            tested g = grind (arith, nat_tests)
        by true d false s =
            or_false (nat_lt c CLIENTS && has_bit (get_or masks (m * CLIENTS + c) 0) j)
            ∙ apart m c j (λ low g. let same : m ≡ k = omega (arith, g, here, small, low) in
            false≢true (sym s ∙ same_name-from r.object name (sym stands.1 ∙ ap (name_at names) (sym same) ∙ other.1)))
        by true d true s =
            let mine : r.client ≡ c = eqb-true r.client c d in
            let named : r.object ≡ name = same_name-true r.object name s in
            let one : Some k ≡ Some m = found ∙ ap (λ z. position_from (λ n. same_name n z) 0 names) named ∙ e in
            let number : k ≡ m = cc in
            let place : m * CLIENTS + c ≡ at = omega (arith, mine, number, here) in
            ap (λ t. (t && has_bit (get_or masks (m * CLIENTS + c) 0) j) || lists (listed_in access r) j) (lt_is c CLIENTS (omega (arith, mine, small)))
            ∙ ap (λ z. has_bit (get_or masks z 0) j || lists (listed_in access r) j) place
            ∙ sym (joins.here j)
            ∙ ap (λ z. has_bit (get_or after z 0) j) (sym place)
            ∙ sym (ap (λ t. t && has_bit (get_or after (m * CLIENTS + c) 0) j) (lt_is c CLIENTS (omega (arith, mine, small))))

pub room : (names : List LogicalName) (name : LogicalName) (size : ℕ) (q : Option ℕ) → size ≡ length names * CLIENTS → q ≡ position_from (λ n. same_name n name) 0 names →
    IfSome q (λ k. k * CLIENTS + CLIENTS ≤ size)
room names name size None fits is = tt
room names name size (Some k) fits is = let at = at-position names name k is in omega (arith, at.0)
