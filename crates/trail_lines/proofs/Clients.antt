-- A client of a sound plan is found by its name, with which no step of the meter itself begins.
use Rattle.std.proofs.Common.{◌≡◌, ◌∙◌, ℕ, zero, suc, ◌+◌, Bool, true, false, cond, List, [], ◌∷◌, Some, ap, arith, inl, inr, map, refl, subst, sym}
use Rattle.std.specs.Prelude.{slice_get}
use Rattle.std.specs.List.{position_from}
use Rattle.std.specs.Str.{bytes_eq}
use Rattle.std.proofs.lemmas.Slice.Eq.{bytes_eq-Decides}
use Rattle.meter_theory.specs.Lists.{AreDistinct, IsIn}
use Rattle.meter_theory.specs.Plan.{Client, Plan, client_named}
use Rattle.meter_theory.specs.Sound.{IsSound}

-- what is found in a list is in it
pub there : {A : Type 0} (xs : List A) (k : ℕ) (x : A) → slice_get xs k ≡ Some x → IsIn xs x
there [] k x e = absurd cc
there (y ∷ ys) zero x e = inl (sym (some y x e))
  where
    some : {A : Type 0} (a b : A) → Some a ≡ Some b → a ≡ b
    some a b e = cc
there (y ∷ ys) (suc k) x e = inr (there ys k x e)

name-there : (clients : List Client) (x : Client) → IsIn clients x → IsIn (map (λ client. client.name) clients) x.name
name-there [] x i = i
name-there (y ∷ ys) x (inl e) = inl (ap (λ client. client.name) e)
name-there (y ∷ ys) x (inr i) = inr (name-there ys x i)

-- another client has another name
other : (y : Client) (ys : List Client) (c : ℕ) (x : Client) → (IsIn (map (λ client. client.name) ys) y.name → ⊥) → slice_get ys c ≡ Some x → bytes_eq y.name x.name ≡ false
other y ys c x none e = at (bytes_eq y.name x.name) refl
  where
    at : (b : Bool) → bytes_eq y.name x.name ≡ b → b ≡ false
    at true is = absurd (none (subst (IsIn (map (λ client. client.name) ys)) (sym ((bytes_eq-Decides y.name x.name).0 is)) (name-there ys x (there ys c x e))))
    at false is = refl

placed : (clients : List Client) (c k : ℕ) (x : Client) → AreDistinct (map (λ client. client.name) clients) → slice_get clients c ≡ Some x →
    position_from (λ client. bytes_eq client.name x.name) k clients ≡ Some (k + c)
placed [] c k x apart e = absurd cc
placed (y ∷ ys) zero k x apart e =
    ap (λ b. cond b (Some k) (position_from (λ client. bytes_eq client.name x.name) (k + 1) ys)) ((bytes_eq-Decides y.name x.name).1 (ap (λ client. client.name) (some y x e)))
    ∙ ap Some (omega arith)
  where
    some : (a b : Client) → Some a ≡ Some b → a ≡ b
    some a b e = cc
placed (y ∷ ys) (suc c) k x apart e =
    ap (λ b. cond b (Some k) (position_from (λ client. bytes_eq client.name x.name) (k + 1) ys)) (other y ys c x apart.0 e)
    ∙ placed ys c (k + 1) x apart.1 e
    ∙ ap Some (omega arith)

-- the client at a place is found there by its name
pub client-is : (P : Plan) → IsSound P → (c : ℕ) (x : Client) → slice_get P.clients c ≡ Some x → client_named P x.name ≡ Some c
client-is P sound c x e = placed P.clients c 0 x sound.clients_apart e ∙ ap Some (omega arith)
