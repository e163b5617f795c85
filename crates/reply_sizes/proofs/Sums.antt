-- How long the encodings of arrays and structures are, from those of their parts.
use Rattle.std.proofs.Common.{◌≡◌, ◌≤◌, ◌+◌, ◌*◌, ◌-◌, ◌==◌, ℕ, zero, suc, Bool, true, false, cond, List, [], ◌∷◌, ◌++◌, map, length, take, drop, refl, sym, ap, subst, inl, inr, arith}
use Rattle.std.proofs.lemmas.List.{length-append, length-map}
use Rattle.std.proofs.Math.Nat.{suc-mul}
use Rattle.cosem_data.specs.Tree.{Tree, Trees, no_trees, more_trees, array, structure, trees, parts}
use Rattle.cosem_axdr.specs.Canonical.{canonical, all, shortest}
use Rattle.meter_theory.specs.Lists.{IsIn}
use Rattle.meter_theory.specs.Times.{parts_of}
use Rattle.meter_theory.specs.Value.{array_of, structure_of, elements}
use Rattle.meter_theory.specs.Selection.{EntryDescriptor, places_between, columns_of, entries_of}
use Rattle.meter_theory.proofs.Lists.{from_map}

-- the value's encoding is no longer
pub record IsWithin (most : ℕ) (v : Tree) : Type 0 where
  pub bytes : length (canonical v) ≤ most

-- and so for each of the values
abbrev pub AreWithin : ℕ → List Tree → Type 0
AreWithin most [] = Unit {0}
AreWithin most (t ∷ ts) = IsWithin most t × AreWithin most ts

pub are_within : (most : ℕ) (ts : List Tree) → ((t : Tree) → IsIn ts t → IsWithin most t) → AreWithin most ts
are_within most [] h = tt
are_within most (t ∷ ts) h = (h t (inl refl), are_within most ts (λ u i. h u (inr i)))

pub wider : (few most : ℕ) (v : Tree) → few ≤ most → IsWithin few v → IsWithin most v
wider few most v le h = let e = h.bytes in record { bytes = omega (arith, e) }

pub either : (most : ℕ) (b : Bool) (v w : Tree) → IsWithin most v → IsWithin most w → IsWithin most (cond b v w)
either most true v w h k = h
either most false v w h k = k

-- the bytes of the values, one behind the other
abbrev pub size : List Tree → ℕ
size ts = length (all (trees ts))

-- a length or a count takes at most five bytes
pub length-shortest : (n : ℕ) → length (shortest n) ≤ 5
unfolding shortest
length-shortest n = grind arith

length-array : (ts : List Tree) → length (canonical (array_of ts)) ≤ 6 + size ts
length-array ts =
    let count : ℕ = length (parts (trees ts)) in
    let e = length-append (shortest count) (all (trees ts)) in
    let f = length-shortest count in
    omega (arith, e, f)

length-structure : (ts : List Tree) → length (canonical (structure_of ts)) ≤ 6 + size ts
length-structure ts =
    let count : ℕ = length (parts (trees ts)) in
    let e = length-append (shortest count) (all (trees ts)) in
    let f = length-shortest count in
    omega (arith, e, f)

size-more : (t : Tree) (ts : List Tree) → size (t ∷ ts) ≡ length (canonical t) + size ts
size-more t ts = length-append (canonical t) (all (trees ts))

-- so many values of at most so many bytes
size-within : (number most : ℕ) (ts : List Tree) → length ts ≤ number → AreWithin most ts → size ts ≤ number * most
size-within number most [] few h = omega arith
size-within zero most (t ∷ ts) few h = omega (arith, few)
size-within (suc number) most (t ∷ ts) few h =
    let first = h.0.bytes in
    let rest = size-within number most ts (omega (arith, few)) h.1 in
    let e = size-more t ts in
    let f = suc-mul number most in
    omega (arith, first, rest, e, f)

pub array_within : (number most : ℕ) (ts : List Tree) → length ts ≤ number → AreWithin most ts → IsWithin (6 + number * most) (array_of ts)
array_within number most ts few h =
    let e = length-array ts in
    let f = size-within number most ts few h in
    record { bytes = omega (arith, e, f) }

pub structure_within : (number most : ℕ) (ts : List Tree) → length ts ≤ number → AreWithin most ts → IsWithin (6 + number * most) (structure_of ts)
structure_within number most ts few h =
    let e = length-structure ts in
    let f = size-within number most ts few h in
    record { bytes = omega (arith, e, f) }

pub map_within : {A : Type 0} (number most : ℕ) (f : A → Tree) (xs : List A) → length xs ≤ number → ((x : A) → IsIn xs x → IsWithin most (f x)) → IsWithin (6 + number * most) (array_of (map f xs))
map_within number most f xs few h =
    array_within number most (map f xs) (let e = length-map xs f in omega (arith, e))
    (are_within most (map f xs) (λ t i. let x = from_map f xs t i in subst (IsWithin most) (sym x.2) (h x.0 x.1)))

-- Selections

size-take : (n : ℕ) (ts : List Tree) → size (take n ts) ≤ size ts
size-take zero ts = omega arith
size-take (suc n) [] = omega arith
size-take (suc n) (t ∷ ts) =
    let e = size-more t ts in
    let f = size-more t (take n ts) in
    let rest = size-take n ts in
    omega (arith, e, f, rest)

size-drop : (n : ℕ) (ts : List Tree) → size (drop n ts) ≤ size ts
size-drop zero ts = omega arith
size-drop (suc n) [] = omega arith
size-drop (suc n) (t ∷ ts) =
    let e = size-more t ts in
    let rest = size-drop n ts in
    omega (arith, e, rest)

-- what a selection leaves of a list is no longer
size-places : (from to : ℕ) (ts : List Tree) → size (places_between from to ts) ≤ size ts
size-places from to ts =
    let n : ℕ = cond (to == 0) (length ts) to in
    let e = size-drop (from - 1) (take n ts) in
    let f = size-take n ts in
    omega (arith, e, f)

trees-parts : (ts : Trees) → trees (parts ts) ≡ ts
trees-parts no_trees = refl
trees-parts (more_trees t ts) = ap (more_trees t) (trees-parts ts)

-- the parts are no longer than the whole
size-all : (count : ℕ) (ts : Trees) → size (parts ts) ≤ suc (length (shortest count ++ all ts))
size-all count ts =
    let e = length-append (shortest count) (all ts) in
    let f : size (parts ts) ≡ length (all ts) = ap (λ (us : Trees). length (all us)) (trees-parts ts) in
    omega (arith, e, f)

size-parts_of : (v : Tree) → size (parts_of v) ≤ length (canonical v)
size-parts_of (structure ts) = size-all (length (parts ts)) ts
size-parts_of _ = omega arith

size-elements : (v : Tree) → size (elements v) ≤ length (canonical v)
size-elements (array ts) = size-all (length (parts ts)) ts
size-elements _ = omega arith

-- columns of a row: a tag and a count, and no more than the row
length-columns : (d : EntryDescriptor) (row : Tree) → length (canonical (columns_of d row)) ≤ 6 + length (canonical row)
length-columns d row =
    let columns : List Tree = places_between d.from_selected_value d.to_selected_value (parts_of row) in
    let e = length-structure columns in
    let f = size-places d.from_selected_value d.to_selected_value (parts_of row) in
    let g = size-parts_of row in
    omega (arith, e, f, g)

-- each row takes at least its tag, so its columns take at most seven times as much
size-columns : (d : EntryDescriptor) (rows : List Tree) → size (map (columns_of d) rows) ≤ 7 * size rows
size-columns d [] = omega arith
size-columns d (row ∷ rows) =
    let e = size-more row rows in
    let f = size-more (columns_of d row) (map (columns_of d) rows) in
    let first = length-columns d row in
    let rest = size-columns d rows in
    omega (arith, e, f, first, rest)

-- selected entries take at most seven times what the whole takes, and a tag and a count
pub entries_within : (most : ℕ) (d : EntryDescriptor) (v : Tree) → IsWithin most v → IsWithin (6 + 7 * most) (entries_of d v)
entries_within most d v h =
    let rows : List Tree = places_between d.from_entry d.to_entry (elements v) in
    let e = length-array (map (columns_of d) rows) in
    let f = size-columns d rows in
    let g = size-places d.from_entry d.to_entry (elements v) in
    let k = size-elements v in
    let l = h.bytes in
    record { bytes = omega (arith, e, f, g, k, l) }
