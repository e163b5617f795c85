-- Lists of an element more, with the places of its elements.
use Rattle.std.specs.Prelude.{◌≡◌, ℕ, zero, suc, ◌+◌, ◌<◌, Bool, false, ◌||◌, List, [], ◌∷◌, ◌++◌, flat_map, get_or, length, map, take}
use Rattle.std.specs.List.{enumerate_from, list_any, range_with_len}
use Rattle.std.proofs.Common.{refl, sym, ap, ◌∙◌, add-one, arith}
use Rattle.std.proofs.lemmas.List.{flat_map_more}
use Rattle.std.proofs.lemmas.List.Folds.{list_any-append}
use Rattle.std.proofs.lemmas.List.FromFn.{map-range_with_len_more}

enumerated-next : {A : Type 0} (k : ℕ) (xs : List A) (n : ℕ) (d : A) → n < length xs →
    enumerate_from k (take n xs) ++ (k + n, get_or xs n d) ∷ [] ≡ enumerate_from k (take (suc n) xs)
enumerated-next k [] n d within = absurd (omega arith)
enumerated-next k (x ∷ xs) zero d within =
    let at : k + zero ≡ k = omega arith in
    ap (λ j. (j, x) ∷ []) at
enumerated-next k (x ∷ xs) (suc n) d within =
    let at : k + suc n ≡ (k + 1) + n = omega arith in
    ap (λ j. (k, x) ∷ (enumerate_from (k + 1) (take n xs) ++ (j, get_or xs n d) ∷ [])) at
    ∙ ap (λ ps. (k, x) ∷ ps) (enumerated-next (k + 1) xs n d (omega arith))

-- what is found of a list of one element more, by the places of the elements
pub placed-more : {A B : Type 0} (f : ℕ × A → List B) (before : List B) (xs : List A) (n : ℕ) (d : A) → n < length xs →
    (before ++ flat_map f (enumerate_from 0 (take n xs))) ++ f (n, get_or xs n d) ≡ before ++ flat_map f (enumerate_from 0 (take (n + 1) xs))
placed-more f before xs n d within =
    let at : n ≡ 0 + n = omega arith in
    flat_map_more f before (enumerate_from 0 (take n xs)) (n, get_or xs n d)
    ∙ ap (λ ps. before ++ flat_map f ps) (
    ap (λ j. enumerate_from 0 (take n xs) ++ (j, get_or xs n d) ∷ []) at
    ∙ (enumerated-next 0 xs n d within ∙ sym (ap (λ m. enumerate_from 0 (take m xs)) (add-one n))))

range-more : (n : ℕ) → range_with_len 0 n ++ n ∷ [] ≡ range_with_len 0 (n + 1)
range-more n = sym (same (range_with_len 0 (n + 1)) ∙ (map-range_with_len_more (λ k. k) 0 n n (omega arith) ∙ ap (λ ks. ks ++ n ∷ []) (sym (same (range_with_len 0 n)))))
  where
    same : (ks : List ℕ) → ks ≡ map (λ k. k) ks
    same [] = refl
    same (k ∷ ks) = ap (λ js. k ∷ js) (same ks)

-- the same number by number
pub number-more : {B : Type 0} (f : ℕ → List B) (before : List B) (n : ℕ) → (before ++ flat_map f (range_with_len 0 n)) ++ f n ≡ before ++ flat_map f (range_with_len 0 (n + 1))
number-more f before n = flat_map_more f before (range_with_len 0 n) n ∙ ap (λ ns. before ++ flat_map f ns) (range-more n)

-- no number below the next passes a test
pub none-more : (test : ℕ → Bool) (n : ℕ) → list_any test (range_with_len 0 n) ≡ false → test n ≡ false → list_any test (range_with_len 0 (n + 1)) ≡ false
none-more test n none fails =
    ap (list_any test) (sym (range-more n))
    ∙ (list_any-append test (range_with_len 0 n) (n ∷ [])
    ∙ (ap (λ b. b || (test n || false)) none ∙ ap (λ b. b || false) fails))

-- some element of the lists passes a test that are made of others, where one of such a list does
pub any-of-each : {A B : Type 0} (test : B → Bool) (f : A → List B) (xs : List A) → list_any test (flat_map f xs) ≡ list_any (λ x. list_any test (f x)) xs
any-of-each test f [] = refl
any-of-each test f (x ∷ xs) = list_any-append test (f x) (flat_map f xs) ∙ ap (λ b. list_any test (f x) || b) (any-of-each test f xs)
