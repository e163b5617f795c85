-- What the shapes of fixed attributes stand on: interface classes and service access points are small.
use Rattle.std.specs.Prelude.{◌≡◌, ℕ, zero, suc, ◌+◌, ◌<◌, ◌≤◌, nat_le, List, [], ◌∷◌, ◌++◌, map, filter, get_or, cond, take, length, Some, slice_get, Bool, true, false}
use Rattle.std.specs.List.{range_with_len}
use Rattle.std.proofs.Common.{refl, sym, ap, ◌∙◌, append_assoc, arith, inl, inr}
use Rattle.std.proofs.lemmas.Bool.{and_parts, leb-true}
use Rattle.std.proofs.lemmas.List.FromFn.{map-range_with_len_more}
use Rattle.std.proofs.lemmas.List.{map-append}
use Rattle.std.proofs.lemmas.List.Elements.{filter_more}
use Rattle.cosem_data.specs.Tree.{Tree}
use Rattle.meter_theory.specs.Lists.{IsIn}
use Rattle.meter_theory.specs.Plan.{Plan, Client, Part, Data1, interface_of}
use Rattle.meter_theory.specs.Sound.{IsSound}

is_in : {A : Type 0} (xs : List A) (i : ℕ) (x : A) → slice_get xs i ≡ Some x → IsIn xs x
is_in [] i x h = cc
is_in (y ∷ ys) zero x h = inl cc
is_in (y ∷ ys) (suc i) x h = inr (is_in ys i x h)

pub sap_within : (P : Plan) → IsSound P → (c : ℕ) (client : Client) → slice_get P.clients c ≡ Some client → client.sap ≤ 127
sap_within P sound c client is =
    leb-true client.sap 127 (and_parts (nat_le 1 client.sap) (nat_le client.sap 127) (sound.saps client (is_in P.clients c client is))).1

pub few_attributes : (part : Part) → (interface_of part).attributes < 128
few_attributes (Data1 start) = omega arith
few_attributes _ = omega arith

pub few_methods : (part : Part) → (interface_of part).methods < 128
few_methods (Data1 start) = omega arith
few_methods _ = omega arith

-- the next index
pub one_more : (f : ℕ → Tree) (n : ℕ) → map f (range_with_len 1 (n + 1)) ≡ map f (range_with_len 1 n) ++ f (n + 1) ∷ []
one_more f n = map-range_with_len_more f 1 n (n + 1) (omega arith)

map-cond : {X Y : Type 0} (f : X → Y) (b : Bool) (x : X) → map f (cond b (x ∷ []) []) ≡ cond b (f x ∷ []) []
map-cond f true x = refl
map-cond f false x = refl

-- the next object, listed where it passes the test
pub listed_more : {X Y : Type 0} (f : X → Y) (test : X → Bool) (xs : List X) (i : ℕ) (x : X) (front list after : List Y) → i < length xs → x ≡ get_or xs i x
    → list ≡ front ++ map f (filter test (take i xs)) → after ≡ list ++ cond (test x) (f x ∷ []) []
    → after ≡ front ++ map f (filter test (take (i + 1) xs))
listed_more f test xs i x front list after lt is before step =
    step
    ∙ (ap (λ ys. ys ++ cond (test x) (f x ∷ []) []) before
    ∙ (append_assoc front (map f (filter test (take i xs))) (cond (test x) (f x ∷ []) [])
    ∙ ap (λ ys. front ++ ys)
    (ap (λ ys. map f (filter test (take i xs)) ++ ys) (sym (map-cond f (test x) x))
    ∙ (sym (map-append f (filter test (take i xs)) (cond (test x) (x ∷ []) []))
    ∙ ap (map f) (sym (filter_more test xs i x lt ∙ ap (λ y. filter test (take i xs) ++ cond (test y) (y ∷ []) []) (sym is)))))))
