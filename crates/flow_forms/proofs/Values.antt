-- Values of JSON, element by element, and that none of a report is a float.
use Rattle.std.proofs.Common.{◌≡◌, ◌<◌, ◌+◌, ℕ, Bool, true, false, ◌||◌, cond, List, [], ◌∷◌, ◌++◌, flat_map, get_or, length, map, take, Ordering, Less, Equal, Greater, refl, sym, ap, ap₂, subst, ◌∙◌}
use Rattle.std.proofs.lemmas.List.{get_or-map, length-map, map-append, take_more}
use Rattle.std.specs.Ordering.{nat_cmp, match_ordering}
use Rattle.std.specs.Cmp.Lexicographic.{slice_cmp}
use Rattle.serde_json.specs.Data.{Data, Members, member, no_members, put}
use Rattle.serde_json.specs.View.{items_of}
use Rattle.serde_json.specs.Written.{has_float, items_have_float, members_have_float}
use Rattle.meter_theory.specs.Plan.{Object, Plan}
use Rattle.flow_map.proofs.Found.{item-is}
use Rattle.flow_forms.specs.Rights.{head_of, heads_of}
use Rattle.flow_forms.specs.Json.{Member, array_of, object_with, put_all}

-- members behind others
pub put-more : (ms : Members) (xs ys : List Member) → put_all ms (xs ++ ys) ≡ put_all (put_all ms xs) ys
put-more ms [] ys = refl
put-more ms ((k, d) ∷ xs) ys = put-more (put k d ms) xs ys

-- one item more
pub item-more : {A B : Type 0} (f : A → B) (xs : List A) (k : ℕ) (d : A) → k < length xs → map f (take (k + 1) xs) ≡ map f (take k xs) ++ f (get_or xs k d) ∷ []
item-more f xs k d less = ap (map f) (take_more xs k d less) ∙ map-append f (take k xs) (get_or xs k d ∷ [])

-- the head of an object at a place
pub head-there : (P : Plan) (objects : List Object) (k : ℕ) (o : Object) → objects ≡ P.objects → k < length objects → o ≡ get_or objects k o →
    (k < length (heads_of P)) × (get_or (heads_of P) k (head_of o) ≡ head_of o)
head-there P objects k o same less is =
    let within : k < length P.objects = subst (λ os. k < length os) same less in (
      subst (λ n. k < n) (sym (length-map P.objects head_of)) within,
      get_or-map head_of P.objects k o (head_of o) within ∙ ap head_of (item-is P.objects objects k o o same less is),
    )

-- No floats

neither : (a b : Bool) → a ≡ false → b ≡ false → (a || b) ≡ false
neither a b p q = ap₂ (λ s t. s || t) p q

-- each value has none
abbrev pub NoFloats : List Data → Type 0
NoFloats [] = Unit {0}
NoFloats (d ∷ ds) = (has_float d ≡ false) × NoFloats ds

abbrev pub NoFloatMembers : List Member → Type 0
NoFloatMembers [] = Unit {0}
NoFloatMembers (m ∷ ms) = (has_float m.1 ≡ false) × NoFloatMembers ms

pub no-float-array : (ds : List Data) → NoFloats ds → has_float (array_of ds) ≡ false
no-float-array [] h = refl
no-float-array (d ∷ ds) h = neither (has_float d) (items_have_float (items_of ds)) h.0 (no-float-array ds h.1)

put-at : (o : Ordering) (k l : List ℕ) (d e : Data) (ms more : Members) → has_float d ≡ false → has_float e ≡ false → members_have_float ms ≡ false → members_have_float more ≡ false →
    members_have_float (match_ordering o (member k d (member l e ms)) (member l d ms) (member l e more)) ≡ false
put-at Less k l d e ms more p q r s = neither (has_float d) (has_float e || members_have_float ms) p (neither (has_float e) (members_have_float ms) q r)
put-at Equal k l d e ms more p q r s = neither (has_float d) (members_have_float ms) p r
put-at Greater k l d e ms more p q r s = neither (has_float e) (members_have_float more) q s

or-left : (a b : Bool) → (a || b) ≡ false → a ≡ false
or-left false b h = refl
or-left true b h = cc

or-right : (a b : Bool) → (a || b) ≡ false → b ≡ false
or-right false b h = h
or-right true b h = cc

no-float-put : (k : List ℕ) (d : Data) (ms : Members) → has_float d ≡ false → members_have_float ms ≡ false → members_have_float (put k d ms) ≡ false
no-float-put k d no_members p q = neither (has_float d) false p refl
no-float-put k d (member l e ms) p q =
    let here = or-left (has_float e) (members_have_float ms) q in
    let rest = or-right (has_float e) (members_have_float ms) q in
    put-at (slice_cmp nat_cmp k l) k l d e ms (put k d ms) p here rest (no-float-put k d ms p rest)

no-float-all : (ms : Members) (xs : List Member) → members_have_float ms ≡ false → NoFloatMembers xs → members_have_float (put_all ms xs) ≡ false
no-float-all ms [] p h = p
no-float-all ms ((k, d) ∷ xs) p h = no-float-all (put k d ms) xs (no-float-put k d ms h.0 p) h.1

pub no-float-object : (xs : List Member) → NoFloatMembers xs → has_float (object_with xs) ≡ false
no-float-object xs h = no-float-all no_members xs refl h

-- lists one behind another
no-floats-behind : (xs ys : List Data) → NoFloats xs → NoFloats ys → NoFloats (xs ++ ys)
no-floats-behind [] ys p q = q
no-floats-behind (x ∷ xs) ys p q = (p.0, no-floats-behind xs ys p.1 q)

pub no-floats-flat : {A : Type 0} (f : A → List Data) (xs : List A) → ((x : A) → NoFloats (f x)) → NoFloats (flat_map f xs)
no-floats-flat f [] h = tt
no-floats-flat f (x ∷ xs) h = no-floats-behind (f x) (flat_map f xs) (h x) (no-floats-flat f xs h)

pub no-floats-map : {A : Type 0} (f : A → Data) (xs : List A) → ((x : A) → has_float (f x) ≡ false) → NoFloats (map f xs)
no-floats-map f [] h = tt
no-floats-map f (x ∷ xs) h = (h x, no-floats-map f xs h)

members-behind : (xs ys : List Member) → NoFloatMembers xs → NoFloatMembers ys → NoFloatMembers (xs ++ ys)
members-behind [] ys p q = q
members-behind (x ∷ xs) ys p q = (p.0, members-behind xs ys p.1 q)

pub no-floats-members : {A : Type 0} (f : A → List Member) (xs : List A) → ((x : A) → NoFloatMembers (f x)) → NoFloatMembers (flat_map f xs)
no-floats-members f [] h = tt
no-floats-members f (x ∷ xs) h = members-behind (f x) (flat_map f xs) (h x) (no-floats-members f xs h)

-- one value, if a test holds
pub no-floats-if : (b : Bool) (d : Data) → has_float d ≡ false → NoFloats (cond b (d ∷ []) [])
no-floats-if true d h = (h, tt)
no-floats-if false d h = tt
