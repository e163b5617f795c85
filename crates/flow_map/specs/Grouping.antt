-- Items that are alike, put together.
use Rattle.std.specs.Prelude.{◌≡◌, ◌<◌, ℕ, Bool, not, false, cond, List, [], ◌∷◌, ◌++◌, map, Option, Some, None, get_or, length, slice_get}
use Rattle.std.specs.Bool.{Decides}
use Rattle.std.specs.Global.{Vec}
use Rattle.std.specs.List.{Contains, list_any, filter, range_with_len}

-- the numbers of each group of the code
abbrev pub numbers_of : List (Vec ℕ) → List (List ℕ)
numbers_of groups = map (λ group. group.items) groups

-- the items of which no earlier first is the same, behind firsts that are known: own profile
abbrev pub firsts_behind : {A : Type 0} → (same : A → A → Bool) → (known : List A) → List A → List A
firsts_behind same known [] = known
firsts_behind same known (x ∷ xs) = firsts_behind same (known ++ cond (not (list_any (λ y. same y x) known)) (x ∷ []) []) xs

-- all of them: own profile
unfoldable pub firsts : {A : Type 0} → (same : A → A → Bool) → List A → List A
firsts same xs = firsts_behind same [] xs

-- for each first item all that are the same, in their order: own profile
abbrev pub groups : {A : Type 0} → (same : A → A → Bool) → List A → List (List A)
groups same xs = map (λ x. filter (same x) xs) (firsts same xs)

-- the same items stand at two places of a list: own profile
abbrev pub both_same : {A : Type 0} → (same : A → A → Bool) → Option A → Option A → Bool
both_same same (Some a) (Some b) = same a b
both_same same (Some a) None = false
both_same same None b = false

abbrev pub same_at : {A : Type 0} → (same : A → A → Bool) → List A → ℕ → ℕ → Bool
same_at same items i j = both_same same (slice_get items i) (slice_get items j)

-- the numbers of items with these keys stand together where their keys are equal: own profile
pub record AreGrouped {A : Type 0} (keys : List A) (numbers : List (List ℕ)) : Type 0 where
  pub same : ℕ → ℕ → Bool
  pub decides : (i j : ℕ) → i < length keys → j < length keys → Decides (same i j) (slice_get keys i ≡ slice_get keys j)
  pub groups_are : numbers ≡ groups same (range_with_len 0 (length keys))

-- the number stands in one of the groups, and in no other: own profile
pub record IsInOne (numbers : List (List ℕ)) (i : ℕ) : Type 0 where
  pub group : ℕ
  pub there : group < length numbers
  pub has : Contains (get_or numbers group []) i
  pub no_other : (k : ℕ) → k < length numbers → Contains (get_or numbers k []) i → k ≡ group
