-- The last elements of a list, of which a profile keeps as many as it has entries (IEC 62056-6-2, sort_method fifo).
use Rattle.std.specs.Prelude.{◌≡◌, ℕ, zero, suc, ◌+◌, ◌-◌, ◌≤◌, List, [], ◌∷◌, ◌++◌, length, drop, Bool, true}
use Rattle.std.specs.List.{list_all, remove}
use Rattle.std.proofs.Common.{refl, ◌∙◌, arith}
use Rattle.std.proofs.lemmas.List.{length-drop}
use Rattle.std.proofs.lemmas.List.Folds.{list_all-append}
use Rattle.std.proofs.lemmas.Bool.{and_parts, and_from}
use Rattle.meter_theory.specs.Lists.{keep_last}

pub length-keep_last : {A : Type 0} (most : ℕ) (xs : List A) → length (keep_last most xs) ≤ most
length-keep_last most xs = simp length-drop (omega arith)

-- where there is room, all stay
pub keep_last_few : {A : Type 0} (most : ℕ) (xs : List A) → length xs ≤ most → keep_last most xs ≡ xs
keep_last_few most xs few = let none : length xs - most ≡ 0 = omega arith in rw none

-- where there is one too many, the first goes
pub keep_last_full : {A : Type 0} (most : ℕ) (xs : List A) → length xs ≡ most + 1 → keep_last most xs ≡ remove xs 0
keep_last_full most xs full = let one : length xs - most ≡ 1 = omega arith in rw one

list_all-drop : {A : Type 0} (p : A → Bool) (n : ℕ) (xs : List A) → list_all p xs ≡ true → list_all p (drop n xs) ≡ true
list_all-drop p zero xs h = h
list_all-drop p (suc n) [] h = refl
list_all-drop p (suc n) (x ∷ xs) h = list_all-drop p n xs (and_parts (p x) (list_all p xs) h).1

-- what each passes and the newest passes, each of the last passes
pub list_all-keep_last : {A : Type 0} (p : A → Bool) (most : ℕ) (xs : List A) (x : A) → list_all p xs ≡ true → p x ≡ true → list_all p (keep_last most (xs ++ x ∷ [])) ≡ true
list_all-keep_last p most xs x each newest =
    list_all-drop p _ (xs ++ x ∷ []) (list_all-append p xs (x ∷ []) ∙ and_from (list_all p xs) _ each (and_from (p x) true newest refl))
