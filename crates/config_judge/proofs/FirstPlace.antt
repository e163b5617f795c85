-- The first place of an element that passes a test.
use Rattle.std.proofs.Common.{◌≡◌, ◌∙◌, ◌||◌, ◌<◌, ◌≤◌, ◌+◌, ℕ, zero, suc, Bool, true, false, List, [], ◌∷◌, Bor, length, take, drop, get_or, cond, nat_lt, refl, sym, ap, arith}
use Rattle.std.specs.Prelude.{Option, Some, None, IfSome, is_some, option_map, option_and_then, find}
use Rattle.std.specs.List.{list_any, position_from, position_or_len, slice_get}
use Rattle.std.specs.Str.{bytes_eq}
use Rattle.std.proofs.lemmas.Bool.{ltb-false, ltb-true, lt-ltb, le-ltb}
use Rattle.std.proofs.lemmas.Iterator.Adapters.{position_from-zero}
use Rattle.std.proofs.lemmas.List.{drop_more}
use Rattle.std.proofs.lemmas.List.Folds.{find_at}
use Rattle.std.proofs.lemmas.Option.{slice_get_past, slice_get_read}

is_some-cond : (b y : Bool) (i : ℕ) (rest : Option ℕ) → is_some rest ≡ y → is_some (cond b (Some i) rest) ≡ (b || y)
is_some-cond true y i rest e = refl
is_some-cond false y i rest e = e

-- there is a first one where there is one
pub is_some-position_from : {A : Type 0} (test : A → Bool) (i : ℕ) (xs : List A) → is_some (position_from test i xs) ≡ list_any test xs
is_some-position_from test i [] = refl
is_some-position_from test i (x ∷ xs) = is_some-cond (test x) (list_any test xs) i (position_from test (i + 1) xs) (is_some-position_from test (i + 1) xs)

at_place : {A : Type 0} (xs : List A) (n : ℕ) (b : Bool) → nat_lt n (length xs) ≡ b → option_and_then (λ i. slice_get xs i) (cond b (Some n) None) ≡ slice_get xs n
at_place xs n true e = refl
at_place xs n false e =
    let past : length xs ≤ n = ltb-false n (length xs) e in
    sym (slice_get_past xs n past)

-- what stands there is the first one
pub find_by_place : {A : Type 0} (test : A → Bool) (xs : List A) → option_and_then (λ i. slice_get xs i) (position_from test 0 xs) ≡ find test xs
find_by_place test xs =
    ap (option_and_then (λ i. slice_get xs i)) (sym (position_from-zero test xs))
    ∙ (at_place xs (position_or_len test xs) (nat_lt (position_or_len test xs) (length xs)) refl ∙ sym (find_at test xs))

-- what a read at an index gives
pub read_at : {A : Type 0} (r : Option (Bor A)) (xs : List A) (i : ℕ) → is_some r ≡ nat_lt i (length xs) → IfSome r (λ x. x.now ≡ get_or xs i x.now) → option_map (λ x. x.now) r ≡ slice_get xs i
read_at None xs i inside value =
    let past : length xs ≤ i = ltb-false i (length xs) (sym inside) in
    sym (slice_get_past xs i past)
read_at (Some x) xs i inside value =
    let within : i < length xs = ltb-true i (length xs) (sym inside) in
    sym (slice_get_read xs (length xs) i x.now refl within value)

-- one place further ahead
position_here : {A : Type 0} (test : A → Bool) (xs : List A) (i : ℕ) (x : A) → i < length xs → x ≡ get_or xs i x → position_from test i (drop i xs) ≡ cond (test x) (Some i) (position_from test (i + 1) (drop (i + 1) xs))
position_here test xs i x within e =
    ap (position_from test i) (drop_more xs i x within)
    ∙ ap (λ y. cond (test y) (Some i) (position_from test (i + 1) (drop (i + 1) xs))) (sym e)

-- a map that has the first places from j on has those from the place before on, once its name leads there
pub first_places_more : {A : Type 0} (name_of : A → List ℕ) (xs : List A) (i j : ℕ) (x : A) (name q : List ℕ) (old new : Option ℕ)
    → i < length xs → x ≡ get_or xs i x → name ≡ name_of x → i + 1 ≡ j
    → new ≡ cond (bytes_eq name q) (Some i) old → old ≡ position_from (λ p. bytes_eq (name_of p) q) j (drop j xs)
    → new ≡ position_from (λ p. bytes_eq (name_of p) q) i (drop i xs)
first_places_more {A} name_of xs i j x name q old new within e named step put before =
    let test : A → Bool = λ p. bytes_eq (name_of p) q in
    put
    ∙ (ap (λ n. cond (bytes_eq n q) (Some i) old) named
    ∙ (ap (cond (test x) (Some i)) (before ∙ ap (λ k. position_from test k (drop k xs)) (sym step))
    ∙ sym (position_here test xs i x within e)))

-- the place comes before this one
abbrev pub is_before : ℕ → Option ℕ → Bool
is_before place None = false
is_before place (Some first) = nat_lt first place

is_before-cond : (place i : ℕ) (b y : Bool) (rest : Option ℕ) → nat_lt i place ≡ true → is_before place rest ≡ y → is_before place (cond b (Some i) rest) ≡ (b || y)
is_before-cond place i true y rest lt e = lt
is_before-cond place i false y rest lt e = e

none_before-cond : (place i : ℕ) (b : Bool) (rest : Option ℕ) → nat_lt i place ≡ false → is_before place rest ≡ false → is_before place (cond b (Some i) rest) ≡ false
none_before-cond place i true rest past e = past
none_before-cond place i false rest past e = e

-- none of those from a place on comes before it
none_before : {A : Type 0} (test : A → Bool) (place i : ℕ) (xs : List A) → place ≤ i → is_before place (position_from test i xs) ≡ false
none_before test place i [] h = refl
none_before test place i (x ∷ xs) h =
    let past : nat_lt i place ≡ false = le-ltb i place h in
    none_before-cond place i (test x) (position_from test (i + 1) xs) past (none_before test place (i + 1) xs (omega (arith, h)))

-- the first one comes before a place where one of those before it passes
before_from : {A : Type 0} (test : A → Bool) (i : ℕ) (xs : List A) (n : ℕ) → is_before (i + n) (position_from test i xs) ≡ list_any test (take n xs)
before_from test i xs zero = none_before test (i + 0) i xs (omega arith)
before_from test i [] (suc n) = refl
before_from test i (x ∷ xs) (suc n) =
    let here : nat_lt i (i + suc n) ≡ true = lt-ltb i (i + suc n) (omega arith) in
    let there : i + 1 + n ≡ i + suc n = omega arith in
    is_before-cond (i + suc n) i (test x) (list_any test (take n xs)) (position_from test (i + 1) xs) here
    (ap (λ k. is_before k (position_from test (i + 1) xs)) (sym there) ∙ before_from test (i + 1) xs n)

pub before_place : {A : Type 0} (test : A → Bool) (xs : List A) (n : ℕ) → is_before n (position_from test 0 xs) ≡ list_any test (take n xs)
before_place test xs n =
    let e : 0 + n ≡ n = omega arith in
    ap (λ k. is_before k (position_from test 0 xs)) (sym e) ∙ before_from test 0 xs n
