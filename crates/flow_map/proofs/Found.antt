-- What searches find, element by element.
use Rattle.std.proofs.Common.{◌≡◌, ◌<◌, ◌⊎◌, ◌+◌, ℕ, zero, suc, Bool, true, false, cond, ◌||◌, List, [], ◌∷◌, ◌++◌, map, flat_map, length, get_or, find, Some, None, refl, sym, ap, ◌∙◌, arith}
use Rattle.std.specs.List.{list_any, range_with_len}
use Rattle.std.proofs.lemmas.Bool.{false≢true}
use Rattle.std.proofs.lemmas.List.{get_or_default}
use Rattle.cosem_data.specs.declared.cell.MethodRef.{MethodRef}
use Rattle.cosem_data.specs.declared.name.LogicalName.{LogicalName}
use Rattle.meter_theory.specs.Plan.{Object, Script, ScriptTable, interface_of}
use Rattle.meter_theory.specs.declared.refs.Interface.{Interface}

-- the first that passes, behind what fails
pub found-here : {A : Type 0} (test : A → Bool) (xs : List A) (k : ℕ) (d : A) → k < length xs → ((j : ℕ) → j < k → test (get_or xs j d) ≡ false) → test (get_or xs k d) ≡ true →
    find test xs ≡ Some (get_or xs k d)
found-here test [] k d low before here = absurd (omega (arith, low))
found-here test (x ∷ xs) zero d low before here = ap (λ b. cond b (Some x) (find test xs)) here
found-here test (x ∷ xs) (suc k) d low before here =
    ap (λ b. cond b (Some x) (find test xs)) (before 0 (omega arith))
    ∙ found-here test xs k d (omega (arith, low)) (λ j less. before (suc j) (omega (arith, less))) here

pub found-nowhere : {A : Type 0} (test : A → Bool) (xs : List A) (d : A) → ((j : ℕ) → j < length xs → test (get_or xs j d) ≡ false) → find test xs ≡ None
found-nowhere test [] d none = refl
found-nowhere test (x ∷ xs) d none =
    ap (λ b. cond b (Some x) (find test xs)) (none 0 (omega arith))
    ∙ found-nowhere test xs d (λ j less. none (suc j) (omega (arith, less)))

-- of numbers from a first one on
pub found-number : {B : Type 0} (f : ℕ → B) (test : B → Bool) (start n k : ℕ) → k < n → ((j : ℕ) → j < k → test (f (start + j)) ≡ false) → test (f (start + k)) ≡ true →
    find test (map f (range_with_len start n)) ≡ Some (f (start + k))
found-number f test start zero k low before here = absurd (omega (arith, low))
found-number f test start (suc n) zero low before here =
    let e : start + 0 ≡ start = omega arith in
    ap (λ b. cond b (Some (f start)) (find test (map f (range_with_len (start + 1) n)))) (ap (λ m. test (f m)) (sym e) ∙ here)
    ∙ ap (λ m. Some (f m)) (sym e)
found-number f test start (suc n) (suc k) low before here =
    let first : start + 0 ≡ start = omega arith in
    let next : (j : ℕ) → start + suc j ≡ (start + 1) + j = λ j. omega arith in
    ap (λ b. cond b (Some (f start)) (find test (map f (range_with_len (start + 1) n)))) (ap (λ m. test (f m)) (sym first) ∙ before 0 (omega arith))
    ∙ (found-number f test (start + 1) n k (omega (arith, low)) (λ j less. ap (λ m. test (f m)) (sym (next j)) ∙ before (suc j) (omega (arith, less))) (ap (λ m. test (f m)) (sym (next k)) ∙ here)
    ∙ ap (λ m. Some (f m)) (sym (next k)))

pub no-number : {B : Type 0} (f : ℕ → B) (test : B → Bool) (start n : ℕ) → ((j : ℕ) → j < n → test (f (start + j)) ≡ false) → find test (map f (range_with_len start n)) ≡ None
no-number f test start zero none = refl
no-number f test start (suc n) none =
    let first : start + 0 ≡ start = omega arith in
    let next : (j : ℕ) → start + suc j ≡ (start + 1) + j = λ j. omega arith in
    ap (λ b. cond b (Some (f start)) (find test (map f (range_with_len (start + 1) n)))) (ap (λ m. test (f m)) (sym first) ∙ none 0 (omega arith))
    ∙ no-number f test (start + 1) n (λ j less. ap (λ m. test (f m)) (sym (next j)) ∙ none (suc j) (omega (arith, less)))

-- of lists one behind another
find-behind : {A : Type 0} (test : A → Bool) (xs ys : List A) → find test xs ≡ None → find test (xs ++ ys) ≡ find test ys
find-behind test [] ys h = refl
find-behind test (x ∷ xs) ys h = at (test x) h (find-behind test xs ys)
  where
    at : (b : Bool) → cond b (Some x) (find test xs) ≡ None → (find test xs ≡ None → find test (xs ++ ys) ≡ find test ys) → cond b (Some x) (find test (xs ++ ys)) ≡ find test ys
    at true e rest = cc
    at false e rest = rest e

find-before : {A : Type 0} (test : A → Bool) (xs ys : List A) (r : A) → find test xs ≡ Some r → find test (xs ++ ys) ≡ Some r
find-before test [] ys r h = cc
find-before test (x ∷ xs) ys r h = at (test x) h (find-before test xs ys r)
  where
    at : (b : Bool) → cond b (Some x) (find test xs) ≡ Some r → (find test xs ≡ Some r → find test (xs ++ ys) ≡ Some r) → cond b (Some x) (find test (xs ++ ys)) ≡ Some r
    at true e rest = e
    at false e rest = rest e

pub found-in-list : {A B : Type 0} (f : A → List B) (test : B → Bool) (xs : List A) (k : ℕ) (d : A) (r : B) → k < length xs → ((j : ℕ) → j < k → find test (f (get_or xs j d)) ≡ None) →
    find test (f (get_or xs k d)) ≡ Some r → find test (flat_map f xs) ≡ Some r
found-in-list f test [] k d r low before here = absurd (omega (arith, low))
found-in-list f test (x ∷ xs) zero d r low before here = find-before test (f x) (flat_map f xs) r here
found-in-list f test (x ∷ xs) (suc k) d r low before here =
    find-behind test (f x) (flat_map f xs) (before 0 (omega arith))
    ∙ found-in-list f test xs k d r (omega (arith, low)) (λ j less. before (suc j) (omega (arith, less))) here

pub none-in-lists : {A B : Type 0} (f : A → List B) (test : B → Bool) (xs : List A) (d : A) → ((j : ℕ) → j < length xs → find test (f (get_or xs j d)) ≡ None) → find test (flat_map f xs) ≡ None
none-in-lists f test [] d none = refl
none-in-lists f test (x ∷ xs) d none =
    find-behind test (f x) (flat_map f xs) (none 0 (omega arith))
    ∙ none-in-lists f test xs d (λ j less. none (suc j) (omega (arith, less)))

-- what passes somewhere is found
pub some-found : {A : Type 0} (test : A → Bool) (xs : List A) → list_any test xs ≡ true → (x : A) × (find test xs ≡ Some x)
some-found test [] h = absurd (false≢true h)
some-found {A = A} test (y ∷ xs) h = at (test y) h (some-found test xs)
  where
    at : (b : Bool) → (b || list_any test xs) ≡ true → (list_any test xs ≡ true → (x : A) × (find test xs ≡ Some x)) → (x : A) × (cond b (Some y) (find test xs) ≡ Some x)
    at true e rest = (y, refl)
    at false e rest = rest e

-- an element at its place, in a list that is the same
pub item-is : {A : Type 0} (xs ys : List A) (k : ℕ) (d x : A) → ys ≡ xs → k < length ys → x ≡ get_or ys k x → get_or xs k d ≡ x
item-is xs ys k d x e low is = ap (λ zs. get_or zs k d) (sym e) ∙ (get_or_default ys k d x low ∙ sym is)

pub last-or-before : (j k : ℕ) → j < k + 1 → (j ≡ k) ⊎ (j < k)
last-or-before j k h = grind arith

-- the method of an object with this index
abbrev pub method_at : Object → ℕ → MethodRef
method_at o i = record { class_id = (interface_of o.part).class_id; name = o.name; index = i }

pub as-method : (o : Object) (interface : Interface) (name : LogicalName) (k : ℕ) → interface ≡ interface_of o.part → name ≡ o.name →
    record { class_id = interface.class_id; name = name; index = k + 1 } ≡ method_at o (1 + k)
as-method o interface name k same named = let next : k + 1 ≡ 1 + k = omega arith in λ i. record { class_id = (same i).class_id; name = named i; index = next i }

-- an object that no plan has
abbrev pub no_object : Object
no_object = record { name = record { 0 = [] }; fed = false; part = ScriptTable [] }

-- a script that no table has
abbrev pub no_script : Script
no_script = record { id = 0; actions = [] }
