-- Numbers from 0 on.
use Rattle.std.proofs.Common.{◌≡◌, ℕ, ◌+◌, ◌<◌, List, [], ◌∷◌, ◌++◌, Bool, true, false, not, cond, take, length, get_or, Option, Some, None, refl, flat_map, map, sym, ap, ap₂, subst, ◌∙◌, ◌≤◌, zero-add, append-nil, arith}
use Rattle.std.specs.List.{All, cons_option, count_by, sum_by, filter, filter_map, range_with_len}
use Rattle.std.specs.Option.{option_to_list}
use Rattle.std.proofs.lemmas.List.{map-append, map-id, map_more}
use Rattle.std.proofs.lemmas.Grind.{flat_map-append}
use Rattle.std.proofs.lemmas.List.Elements.{filter-append, filter_map-append}
use Rattle.std.proofs.lemmas.List.FromFn.{get_or-range_with_len, length-range_with_len, map-range_with_len_more}
use Rattle.std.proofs.lemmas.List.Sums.{count_by-le-length, sum_by-append, sum_by_push}

-- one more number
pub range-more : (n : ℕ) → range_with_len 0 (n + 1) ≡ range_with_len 0 n ++ n ∷ []
range-more n =
    sym (map-id (range_with_len 0 (n + 1))) ∙ map-range_with_len_more (λ k. k) 0 n n (omega arith) ∙ ap (λ ks. ks ++ n ∷ []) (map-id (range_with_len 0 n))

pub filter-more : (test : ℕ → Bool) (n : ℕ) → filter test (range_with_len 0 (n + 1)) ≡ filter test (range_with_len 0 n) ++ cond (test n) (n ∷ []) []
filter-more test n = ap (filter test) (range-more n) ∙ filter-append test (range_with_len 0 n) (n ∷ [])

pub filter-next : (test : ℕ → Bool) (n : ℕ) (b : Bool) (old new : List ℕ) → old ≡ filter test (range_with_len 0 n) → b ≡ test n → new ≡ old ++ cond b (n ∷ []) [] →
    new ≡ filter test (range_with_len 0 (n + 1))
filter-next test n b old new before is put = put ∙ (ap₂ (λ xs t. xs ++ cond t (n ∷ []) []) before is ∙ sym (filter-more test n))

pub range-below : (n : ℕ) → All (λ i. i < n) (range_with_len 0 n)
range-below n k d less =
    let low = subst (λ m. k < m) (length-range_with_len 0 n) less in
    let at = get_or-range_with_len 0 n k d low in
    let P : ℕ → Type 0 = λ i. i < n in
    subst P (sym at) (omega (arith, low))

-- what a loop over numbers has put together, one number later
pub map-next : {A : Type 0} (f : ℕ → A) (n : ℕ) (old new : List A) → old ≡ map f (range_with_len 0 n) → new ≡ old ++ f n ∷ [] → new ≡ map f (range_with_len 0 (n + 1))
map-next f n old new before put = put ∙ (ap (λ xs. xs ++ f n ∷ []) before ∙ sym (map-range_with_len_more f 0 n n (omega arith)))

pub viewed-next : {X A : Type 0} (view : X → A) (f : ℕ → A) (n : ℕ) (old new : List X) (x : X) → map view old ≡ map f (range_with_len 0 n) → view x ≡ f n → new ≡ old ++ x ∷ [] →
    map view new ≡ map f (range_with_len 0 (n + 1))
viewed-next view f n old new x before is put =
    map-next f n (map view old) (map view new) before (ap (map view) put ∙ (map-append view old (x ∷ []) ∙ ap (λ a. map view old ++ a ∷ []) is))

pub flat-next : {A : Type 0} (f : ℕ → List A) (n : ℕ) (old new : List A) → old ≡ flat_map f (range_with_len 0 n) → new ≡ old ++ f n → new ≡ flat_map f (range_with_len 0 (n + 1))
flat-next f n old new before put =
    put ∙ (ap₂ (λ xs ys. xs ++ ys) before (sym (append-nil (f n))) ∙ (sym (flat_map-append f (range_with_len 0 n) (n ∷ [])) ∙ ap (flat_map f) (sym (range-more n))))

-- a count, one number later
pub count-more : (test : ℕ → Bool) (n : ℕ) → count_by test (range_with_len 0 (n + 1)) ≡ count_by test (range_with_len 0 n) + cond (test n) 1 0
count-more test n =
    ap (count_by test) (range-more n)
    ∙ (sum_by-append (λ k. cond (test k) 1 0) (range_with_len 0 n) (n ∷ []) ∙ ap (λ m. sum_by (λ k. cond (test k) 1 0) (range_with_len 0 n) + m) (zero-add (cond (test n) 1 0)))

pub count-next : (test : ℕ → Bool) (n : ℕ) (b : Bool) (old new : ℕ) → old ≡ count_by test (range_with_len 0 n) → b ≡ test n → new ≡ old + cond b 1 0 →
    new ≡ count_by test (range_with_len 0 (n + 1))
count-next test n b old new before is put = put ∙ (ap₂ (λ k t. k + cond t 1 0) before is ∙ sym (count-more test n))

pub count-few : (test : ℕ → Bool) (n : ℕ) → count_by test (range_with_len 0 n) ≤ n
count-few test n = subst (λ k. count_by test (range_with_len 0 n) ≤ k) (length-range_with_len 0 n) (count_by-le-length test (range_with_len 0 n))

-- a sum, one number later
pub sum-more : (f : ℕ → ℕ) (n : ℕ) → sum_by f (range_with_len 0 (n + 1)) ≡ sum_by f (range_with_len 0 n) + f n
sum-more f n = ap (sum_by f) (range-more n) ∙ sum_by_push f (range_with_len 0 n) n

-- the cells with numbers that pass a test, one number later
pub mapped-next : {A : Type 0} (f : ℕ → A) (test : ℕ → Bool) (n : ℕ) (b : Bool) (old new : List A) (x : A) → old ≡ map f (filter test (range_with_len 0 n)) → b ≡ test n → x ≡ f n →
    new ≡ old ++ cond b (x ∷ []) [] → new ≡ map f (filter test (range_with_len 0 (n + 1)))
mapped-next {A} f test n b old new x before is there put =
    put
    ∙ (ap₂ (λ xs ys. xs ++ ys) before (ap (λ y. cond b (y ∷ []) []) there ∙ (one b ∙ ap (λ t. map f (cond t (n ∷ []) [])) is))
    ∙ (sym (map-append f (filter test (range_with_len 0 n)) (cond (test n) (n ∷ []) [])) ∙ ap (map f) (sym (filter-more test n))))
  where
    one : (t : Bool) → cond t (f n ∷ []) [] ≡ map f (cond t (n ∷ []) [])
    one true = refl
    one false = refl

-- the first items of a list, one more
pub take-more : {A : Type 0} (xs : List A) (i : ℕ) (d : A) → i < length xs → take (i + 1) xs ≡ take i xs ++ get_or xs i d ∷ []
take-more xs i d less = sym (map-id (take (i + 1) xs)) ∙ (map_more (λ x. x) xs i d less ∙ ap (λ ys. ys ++ get_or xs i d ∷ []) (map-id (take i xs)))

-- what a loop over a list has put together, one item later
pub viewed-more : {X Y A : Type 0} (view : X → A) (f : Y → A) (ys : List Y) (i : ℕ) (d : Y) (old new : List X) (x : X) → map view old ≡ map f (take i ys) → i < length ys →
    view x ≡ f (get_or ys i d) → new ≡ old ++ x ∷ [] → map view new ≡ map f (take (i + 1) ys)
viewed-more view f ys i d old new x before less is put =
    ap (map view) put ∙ (map-append view old (x ∷ []) ∙ (ap₂ (λ xs a. xs ++ a ∷ []) before is ∙ sym (map_more f ys i d less)))

pub picked-more : {X Y : Type 0} (f : X → Option Y) (xs : List X) (i : ℕ) (d : X) (o : Option Y) (old new : List Y) → old ≡ filter_map f (take i xs) → i < length xs → o ≡ f (get_or xs i d) →
    new ≡ old ++ option_to_list o → new ≡ filter_map f (take (i + 1) xs)
picked-more {X} {Y} f xs i d o old new before less is put =
    put
    ∙ (ap₂ (λ ys p. ys ++ option_to_list p) before is
    ∙ (ap (λ ys. filter_map f (take i xs) ++ ys) (one (f (get_or xs i d)))
    ∙ (sym (filter_map-append f (take i xs) (get_or xs i d ∷ [])) ∙ ap (filter_map f) (sym (take-more xs i d less)))))
  where
    one : (p : Option Y) → option_to_list p ≡ cons_option p []
    one None = refl
    one (Some y) = refl

-- what is told by its opposite
pub turned : (b s : Bool) → not b ≡ s → b ≡ not s
turned true s h = ap not h
turned false s h = ap not h
