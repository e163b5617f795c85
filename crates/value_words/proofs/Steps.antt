-- Steps of reading, and tests.
use Rattle.std.proofs.Common.{◌≡◌, ℕ, Bool, true, false, cond, List, Option, Some, None, Result, Ok, Err, refl, ap, ◌⊎◌, inl, inr, option_map}
use Rattle.std.specs.Prelude.{option_and_then}
use Rattle.value_words.specs.declared.stop.Stop.{Stop}
use Rattle.value_words.specs.Stopping.{◌>>=◌, found, read_map}

-- the value of a step that did not stop
pub bind_ok : {A B E : Type 0} (r : Result A E) (f : A → Result B E) (y : B) → (r >>= f) ≡ Ok y → (x : A) × (r ≡ Ok x) × (f x ≡ Ok y)
bind_ok (Ok x) f y e = (x, refl, e)
bind_ok (Err d) f y e = absurd cc

-- a step that did not stop
abbrev pub done : {A E : Type 0} → A → Result A E
done x = Ok x

-- its value
pub ok_is : {A E : Type 0} (x y : A) → done {E = E} x ≡ done y → x ≡ y
ok_is x y e = cc

-- what a test chose
pub chosen : {A : Type 0} (b : Bool) (x y z : A) → cond b x y ≡ z → ((b ≡ true) × (x ≡ z)) ⊎ ((b ≡ false) × (y ≡ z))
chosen true x y z e = inl (refl, e)
chosen false x y z e = inr (refl, e)

-- what was found
pub some_is : {A : Type 0} (x y : A) → Some x ≡ Some y → x ≡ y
some_is x y e = cc

-- the value of a step that found something
pub then_some : {A B : Type 0} (f : A → Option B) (o : Option A) (y : B) → option_and_then f o ≡ Some y → (x : A) × (o ≡ Some x) × (f x ≡ Some y)
then_some f (Some x) y e = (x, refl, e)
then_some f None y e = absurd cc

-- the value that was found, as another type
pub map_some : {A B : Type 0} (f : A → B) (o : Option A) (y : B) → option_map f o ≡ Some y → (x : A) × (o ≡ Some x) × (f x ≡ y)
map_some f (Some x) y e = (x, refl, cc)
map_some f None y e = absurd cc

-- what was found in front of a text, and what stands behind it
pub found_ok : {Q A : Type 0} (what : Q) (text : List ℕ) (o : Option A) (rest : List ℕ) (x : A) (behind : List ℕ) → found what text o rest ≡ Ok (x, behind) → (o ≡ Some x) × (rest ≡ behind)
found_ok {A = A} what text (Some y) rest x behind e = let is = ok_is {A = A × List ℕ} (y, rest) (x, behind) e in (ap (λ (p : A × List ℕ). Some p.0) is, ap (λ (p : A × List ℕ). p.1) is)
found_ok what text None rest x behind e = absurd cc

-- what was read as another type
pub mapped : {Q A B : Type 0} (f : A → B) (r : Result (A × List ℕ) (Stop Q)) (y : B) (rest : List ℕ) → read_map f r ≡ Ok (y, rest) → (x : A) × (r ≡ Ok (x, rest)) × (f x ≡ y)
mapped {A = A} {B = B} f (Ok x) y rest e =
    let is = ok_is {A = B × List ℕ} (f x.0, x.1) (y, rest) e in
    (x.0, ap (λ (p : B × List ℕ). done {A = A × List ℕ} (x.0, p.1)) is, ap (λ (p : B × List ℕ). p.0) is)
mapped f (Err d) y rest e = absurd cc

-- what is read as another type
pub read_again : {Q A B : Type 0} (f : A → B) (r : Result (A × List ℕ) (Stop Q)) (x : A) (rest : List ℕ) → r ≡ Ok (x, rest) → read_map f r ≡ Ok (f x, rest)
read_again f r x rest e = ap (read_map f) e
