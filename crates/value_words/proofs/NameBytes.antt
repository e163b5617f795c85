-- A logical name that is read has six bytes, each below 256.
use Rattle.std.proofs.Common.{◌≡◌, ℕ, ◌+◌, ◌-◌, ◌*◌, ◌<◌, Bool, true, false, ◌&&◌, cond, ltb, eqb, List, [], ◌∷◌, length, Option, Some, None, refl, ap, subst, arith, inl, inr}
use Rattle.std.specs.Char.{is_ascii_digit}
use Rattle.std.specs.List.{AllByRecursion}
use Rattle.std.proofs.lemmas.Bool.{and_parts, ltb-true}
use Rattle.std.proofs.lemmas.Bool.Decides.{nat_tests}
use Rattle.cosem_data.specs.Digits.{◌>>=◌, step, field_at, dot_at, dotted_at, name_at}
use Rattle.value_words.proofs.Steps.{chosen, some_is}

-- the value of a step that found something
pub bind_some : {A B : Type 0} (o : Option A) (f : A → Option B) (y : B) → (o >>= f) ≡ Some y → (x : A) × (o ≡ Some x) × (f x ≡ Some y)
bind_some (Some x) f y e = (x, refl, e)
bind_some None f y e = absurd cc

-- one more digit
step_small : (v : ℕ) (text : List ℕ) → v < 256 → (step v text).0 < 256
step_small v [] h = h
step_small v (c ∷ rest) h = at (is_ascii_digit c && ltb (10 * v + (c - 48)) 256) refl
  where
    at : (b : Bool) → (is_ascii_digit c && ltb (10 * v + (c - 48)) 256) ≡ b → (cond {A = ℕ × List ℕ} b (10 * v + (c - 48), rest) (v, c ∷ rest)).0 < 256
    at true e = ltb-true (10 * v + (c - 48)) 256 (and_parts _ _ e).1
    at false e = h

-- a number that is read in a name
field_small : (text : List ℕ) (x : ℕ × List ℕ) → field_at text ≡ Some x → x.0 < 256
field_small [] x e = absurd cc
field_small (c ∷ rest) x e =
    elim (chosen (eqb c 48) _ _ (Some x) e) [
      | inl p ↦ let zero : 0 ≡ x.0 = ap (λ (y : ℕ × List ℕ). y.0) (some_is {A = ℕ × List ℕ} (0, rest) x p.1) in omega (arith, zero)
      | inr p ↦ elim (chosen (is_ascii_digit c) _ _ (Some x) p.1) [
        | inl q ↦
            let first : c - 48 < 256 = grind (arith, nat_tests) in
            let one = step_small (c - 48) rest first in
            let two = step_small (step (c - 48) rest).0 (step (c - 48) rest).1 one in
            subst (λ (y : ℕ × List ℕ). y.0 < 256) (some_is {A = ℕ × List ℕ} (step (step (c - 48) rest).0 (step (c - 48) rest).1) x q.1) two
        | inr q ↦ let wrong = q.1 in absurd cc
      ]
    ]

-- the number before a dot
dot_keeps : (value : ℕ) (text : List ℕ) (x : ℕ × List ℕ) → dot_at value text ≡ Some x → value ≡ x.0
dot_keeps value [] x e = absurd cc
dot_keeps value (c ∷ rest) x e =
    elim (chosen (eqb c 46) _ _ (Some x) e) [
      | inl p ↦ ap (λ (y : ℕ × List ℕ). y.0) (some_is {A = ℕ × List ℕ} (value, rest) x p.1)
      | inr p ↦ let wrong = p.1 in absurd cc
    ]

-- a number that is read before a dot
dotted_small : (text : List ℕ) (x : ℕ × List ℕ) → dotted_at text ≡ Some x → x.0 < 256
dotted_small text x e =
    let b = bind_some (field_at text) (λ y. dot_at y.0 y.1) x e in
    let same = dot_keeps b.0.0 b.0.1 x b.2 in
    let small = field_small text b.0 b.1 in
    omega (arith, same, small)

-- a name that is read
pub record IsNameRead (bytes : List ℕ) : Type 0 where
  pub long : length bytes ≡ 6
  pub small : AllByRecursion (λ b. b < 256) bytes

-- the six numbers, if nothing stands behind them
six : (rest : List ℕ) (made bytes : List ℕ) → cond (eqb (length rest) 0) (Some made) None ≡ Some bytes → made ≡ bytes
six [] made bytes e = some_is made bytes e
six (c ∷ rest) made bytes e = at (eqb (length (c ∷ rest)) 0) e
  where
    at : (b : Bool) → cond b (Some made) None ≡ Some bytes → made ≡ bytes
    at true h = some_is made bytes h
    at false h = absurd cc

-- what is read as a name is one
pub name_read : (text bytes : List ℕ) → name_at text ≡ Some bytes → IsNameRead bytes
unfolding name_at
name_read text bytes h =
    let a = bind_some (dotted_at text) _ bytes h in
    let b = bind_some (dotted_at a.0.1) _ bytes a.2 in
    let c = bind_some (dotted_at b.0.1) _ bytes b.2 in
    let d = bind_some (dotted_at c.0.1) _ bytes c.2 in
    let e = bind_some (dotted_at d.0.1) _ bytes d.2 in
    let f = bind_some (field_at e.0.1) _ bytes e.2 in
    let made = six f.0.1 (a.0.0 ∷ b.0.0 ∷ c.0.0 ∷ d.0.0 ∷ e.0.0 ∷ f.0.0 ∷ []) bytes f.2 in
    subst IsNameRead {x = a.0.0 ∷ b.0.0 ∷ c.0.0 ∷ d.0.0 ∷ e.0.0 ∷ f.0.0 ∷ []} made (record {
      long = refl;
      small = (dotted_small text a.0 a.1, (dotted_small a.0.1 b.0 b.1, (dotted_small b.0.1 c.0 c.1, (dotted_small c.0.1 d.0 d.1, (dotted_small d.0.1 e.0 e.1, (field_small e.0.1 f.0 f.1, tt))))));
    })
