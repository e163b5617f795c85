-- Clients of sets, and what texts say one after the other.
use Rattle.std.proofs.Common.{◌≡◌, ◌∙◌, ◌<◌, ◌≤◌, ◌+◌, ℕ, List, [], ◌∷◌, ◌++◌, if◌then◌else◌, flat_map, get_or, length, map, true, false, option_map, option_to_list, OnOk, Ok, Err, Result, String, Global, string_bytes, slice_get, refl, sym, ap, ap₂, arith, append-nil, append_assoc}
use Rattle.std.specs.List.{join_by, range_with_len}
use Rattle.std.proofs.lemmas.Grind.{flat_map-append}
use Rattle.std.proofs.lemmas.List.{map-id}
use Rattle.std.proofs.lemmas.List.FromFn.{map-range_with_len_more}
use Rattle.std.proofs.lemmas.Option.{slice_get_past, slice_get_read}
use Rattle.cosem_data.specs.Clients.{has_client}
use Rattle.cosem_data.specs.declared.clients.ClientSet.{ClientSet}
use Rattle.cosem_data.specs.declared.memory.Memory.{Memory}
use Rattle.shown_text.specs.Pieces.{Fact, told, piece_text, rendered}
use Rattle.flow_picture.specs.Svg.{Says, name_if_in}

-- pieces of the items of a list are pieces of the texts of these items
flat-of-map : {X : Type 0} (f : X → List ℕ) (g : List ℕ → List ℕ) (xs : List X) → flat_map (λ x. g (f x)) xs ≡ flat_map g (map f xs)
flat-of-map f g [] = refl
flat-of-map f g (x ∷ xs) = ap (λ rest. g (f x) ++ rest) (flat-of-map f g xs)

-- items joined by their texts are their texts, joined
pub join-of-map : {X : Type 0} (f : X → List ℕ) (between : List ℕ) (xs : List X) → join_by f between xs ≡ join_by (λ name. name) between (map f xs)
join-of-map f between [] = refl
join-of-map f between (x ∷ xs) = ap (λ rest. f x ++ rest) (flat-of-map f (λ y. between ++ y) xs)

-- pieces for one number more
pub number_more : {B : Type 0} (f : ℕ → List B) (k : ℕ) → flat_map f (range_with_len 0 (k + 1)) ≡ flat_map f (range_with_len 0 k) ++ f k
number_more f k =
    let at : 0 + k ≡ k = omega arith in
    ap (flat_map f) (sym (map-id (range_with_len 0 (k + 1))) ∙ map-range_with_len_more (λ j. j) 0 k k at ∙ ap (λ ks. ks ++ k ∷ []) (map-id (range_with_len 0 k)))
    ∙ flat_map-append f (range_with_len 0 k) (k ∷ [])
    ∙ ap (λ rest. flat_map f (range_with_len 0 k) ++ rest) (append-nil (f k))

-- and the same after others
pub after_more : {B : Type 0} (old : List B) (f : ℕ → List B) (k : ℕ) → (old ++ flat_map f (range_with_len 0 k)) ++ f k ≡ old ++ flat_map f (range_with_len 0 (k + 1))
after_more old f k = append_assoc old (flat_map f (range_with_len 0 k)) (f k) ∙ ap (λ rest. old ++ rest) (sym (number_more f k))

-- a set has no name of a client that there isn't
pub name-past : (clients : List (String Global)) (set : ClientSet) (client : ℕ) → length clients ≤ client → [] ≡ name_if_in clients set client
name-past clients set client past =
    let none = slice_get_past clients client past in
    elim (has_client set client) as (λ has. [] ≡ if has then option_to_list (option_map string_bytes (slice_get clients client)) else []) [
      | true ↦ sym (ap (λ found. option_to_list (option_map string_bytes found)) none)
      | false ↦ refl
    ]

-- of one that it has it has the name
pub name-there : (clients : List (String Global)) (set : ClientSet) (client : ℕ) (name : String Global) → true ≡ has_client set client → client < length clients → name ≡ get_or clients client name → string_bytes name ∷ [] ≡ name_if_in clients set client
name-there clients set client name has inside is =
    let there = slice_get_read clients (length clients) client name refl inside is in
    sym (ap₂ (λ test found. if test then option_to_list (option_map string_bytes found) else []) (sym has) there)

-- a text that goes on by what one and another say goes on by what both say
pub says-both : (a b : List Fact) (x y z : List ℕ) → Says a x y → Says b y z → Says (a ++ b) x z
says-both a b x y z first second = record {
  pieces = first.pieces ++ second.pieces;
  they_say = flat_map-append told first.pieces second.pieces ∙ ap₂ (λ p q. p ++ q) first.they_say second.they_say;
  goes_on = second.goes_on ∙ ap (λ t. t ++ rendered second.pieces) first.goes_on ∙ append_assoc x (rendered first.pieces) (rendered second.pieces)
      ∙ ap (λ t. x ++ t) (sym (flat_map-append piece_text first.pieces second.pieces));
}

-- also where the other is a call that may fail
pub says-then : (a b : List Fact) (x y z : List ℕ) (r : Result (Unit {0}) Memory) → Says a x y → OnOk r (Says b y z) → OnOk r (Says (a ++ b) x z)
says-then a b x y z (Ok done) first second = says-both a b x y z first second
says-then a b x y z (Err fault) first second = tt
