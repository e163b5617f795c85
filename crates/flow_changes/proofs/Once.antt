-- Lists of which at most one element passes a test.
use Rattle.std.specs.Prelude.{◌≡◌, ℕ, suc, ◌+◌, ◌-◌, ◌≤◌, Bool, true, false, ◌&&◌, ◌||◌, cond, List, [], ◌∷◌, Option, Some, None, find, map, option_and_then, option_map, slice_get}
use Rattle.std.specs.List.{enumerate_from, list_any, position_from}
use Rattle.std.specs.Str.{bytes_eq}
use Rattle.std.proofs.Common.{refl, sym, ap, subst, ◌∙◌, inl, inr, arith}
use Rattle.std.proofs.lemmas.Option.{same_Some}
use Rattle.std.proofs.lemmas.Slice.Eq.{bytes_eq-Decides}
use Rattle.cosem_data.specs.Cells.{same_name}
use Rattle.cosem_data.specs.declared.name.LogicalName.{LogicalName}
use Rattle.cosem_data.proofs.Same.{same_name-true}
use Rattle.meter_theory.specs.Lists.{IsIn, AreDistinct, some_passes}
use Rattle.meter_theory.specs.Plan.{Client, Object}
use Rattle.meter_theory.proofs.Lists.{in_map}
use Rattle.flow_changes.proofs.Lists.{list_any-none}

-- what passes once doesn't pass again
abbrev pub Once : {A : Type 0} → (A → Bool) → List A → Type 0
Once key [] = Unit {0}
Once key (x ∷ xs) = (key x ≡ true → list_any key xs ≡ false) × Once key xs

none-both : {A : Type 0} (key t : A → Bool) (xs : List A) → list_any key xs ≡ false → list_any (λ x. key x && t x) xs ≡ false
none-both key t [] h = refl
none-both key t (x ∷ xs) h = at (key x) h (λ e. none-both key t xs e)
  where
    at : (b : Bool) → (b || list_any key xs) ≡ false → (list_any key xs ≡ false → list_any (λ y. key y && t y) xs ≡ false) → ((b && t x) || list_any (λ y. key y && t y) xs) ≡ false
    at true e rest = cc
    at false e rest = rest e

or-false : (b : Bool) → (b || false) ≡ b
or-false true = refl
or-false false = refl

-- of those that pass a test, of which there is one at most, the first decides
pub any-once : {A : Type 0} (key t : A → Bool) (xs : List A) → Once key xs → list_any (λ x. key x && t x) xs ≡ some_passes t (find key xs)
any-once key t [] once = refl
any-once key t (x ∷ xs) once = at (key x) refl (any-once key t xs once.1)
  where
    at : (b : Bool) → key x ≡ b → list_any (λ y. key y && t y) xs ≡ some_passes t (find key xs) → ((b && t x) || list_any (λ y. key y && t y) xs) ≡ some_passes t (cond b (Some x) (find key xs))
    at true e rest = ap (λ b. t x || b) (none-both key t xs (once.0 e)) ∙ or-false (t x)
    at false e rest = rest

-- Clients with their numbers

-- a client is found by its name, with its number
abbrev pub found : List ℕ → ℕ → List Client → Option (ℕ × Client)
found name k clients = find (λ n. bytes_eq n.1.name name) (enumerate_from k clients)

any-named : (name : List ℕ) (k : ℕ) (clients : List Client) → (IsIn (map (λ client. client.name) clients) name → ⊥) → list_any (λ n. bytes_eq n.1.name name) (enumerate_from k clients) ≡ false
any-named name k [] h = refl
any-named name k (c ∷ clients) h = at (bytes_eq c.name name) refl (any-named name (k + 1) clients (λ i. h (inr i)))
  where
    at : (b : Bool) → bytes_eq c.name name ≡ b → list_any (λ n. bytes_eq n.1.name name) (enumerate_from (k + 1) clients) ≡ false → (b || list_any (λ n. bytes_eq n.1.name name) (enumerate_from (k + 1) clients)) ≡ false
    at true e rest = absurd (h (inl (sym ((bytes_eq-Decides c.name name).0 e))))
    at false e rest = rest

pub clients-once : (name : List ℕ) (k : ℕ) (clients : List Client) → AreDistinct (map (λ client. client.name) clients) → Once (λ n. bytes_eq n.1.name name) (enumerate_from k clients)
clients-once name k [] d = tt
clients-once name k (c ∷ clients) d =
    (λ e. any-named name (k + 1) clients (λ i. d.0 (subst (IsIn (map (λ client. client.name) clients)) (sym ((bytes_eq-Decides c.name name).0 e)) i)), clients-once name (k + 1) clients d.1)

-- its number is that of its name
pub found-number : (name : List ℕ) (k : ℕ) (clients : List Client) → position_from (λ c. bytes_eq c.name name) k clients ≡ option_map (λ n. n.0) (found name k clients)
found-number name k [] = refl
found-number name k (c ∷ clients) = at (bytes_eq c.name name) (found-number name (k + 1) clients)
  where
    at : (b : Bool) → position_from (λ c. bytes_eq c.name name) (k + 1) clients ≡ option_map (λ n. n.0) (found name (k + 1) clients) →
        cond b (Some k) (position_from (λ c. bytes_eq c.name name) (k + 1) clients) ≡ option_map (λ n. n.0) (cond b (Some (k, c)) (found name (k + 1) clients))
    at true rest = refl
    at false rest = rest

-- and it stands at its number
pub found-there : (name : List ℕ) (k : ℕ) (clients : List Client) (m : ℕ × Client) → found name k clients ≡ Some m → (k ≤ m.0) × (slice_get clients (m.0 - k) ≡ Some m.1)
found-there name k [] m e = cc
found-there name k (c ∷ clients) m e = at (bytes_eq c.name name) e (found-there name (k + 1) clients m)
  where
    at : (b : Bool) → cond b (Some (k, c)) (found name (k + 1) clients) ≡ Some m → (found name (k + 1) clients ≡ Some m → (k + 1 ≤ m.0) × (slice_get clients (m.0 - (k + 1)) ≡ Some m.1)) → (k ≤ m.0) × (slice_get (c ∷ clients) (m.0 - k) ≡ Some m.1)
    at true e rest =
        let same : (k, c) ≡ m = same_Some (k, c) m e in
        let none : k - k ≡ 0 = omega arith in
        subst (λ n. (k ≤ n.0) × (slice_get (c ∷ clients) (n.0 - k) ≡ Some n.1)) same (omega arith, ap (slice_get (c ∷ clients)) none)
    at false e rest =
        let r = rest e in
        let next : m.0 - k ≡ suc (m.0 - (k + 1)) = omega (arith, r.0) in
        (omega (arith, r.0), ap (slice_get (c ∷ clients)) next ∙ r.1)

-- the client at the number of a name is the one that is found
pub found-client : (name : List ℕ) (clients : List Client) → option_and_then (slice_get clients) (option_map (λ n. n.0) (found name 0 clients)) ≡ option_map (λ n. n.1) (found name 0 clients)
found-client name clients = at (found name 0 clients) refl
  where
    at : (o : Option (ℕ × Client)) → found name 0 clients ≡ o → option_and_then (slice_get clients) (option_map (λ n. n.0) o) ≡ option_map (λ n. n.1) o
    at None e = refl
    at (Some m) e = let n : m.0 ≡ m.0 - 0 = omega arith in ap (slice_get clients) n ∙ (found-there name 0 clients m e).1

-- Objects by their names

others-apart : (name : LogicalName) (objects : List Object) → (IsIn (map (λ o. o.name) objects) name → ⊥) → list_any (λ o. same_name o.name name) objects ≡ false
others-apart name objects h = list_any-none (λ o. same_name o.name name) objects (λ o i. at o i (same_name o.name name) refl)
  where
    at : (o : Object) → IsIn objects o → (b : Bool) → same_name o.name name ≡ b → b ≡ false
    at o i true e = absurd (h (subst (IsIn (map (λ o. o.name) objects)) (same_name-true o.name name e) (in_map (λ o. o.name) objects o i)))
    at o i false e = refl

pub objects-once : (name : LogicalName) (objects : List Object) → AreDistinct (map (λ o. o.name) objects) → Once (λ o. same_name o.name name) objects
objects-once name [] d = tt
objects-once name (o ∷ objects) d =
    (λ e. others-apart name objects (λ i. d.0 (subst (IsIn (map (λ o. o.name) objects)) (sym (same_name-true o.name name e)) i)), objects-once name objects d.1)
