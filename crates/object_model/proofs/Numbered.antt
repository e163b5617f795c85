-- The number of an object in a plan whose objects have names of their own.
use Rattle.std.proofs.Common.{◌≡◌, ◌==◌, ℕ, zero, suc, ◌+◌, inl, inr, [], ◌∷◌, Bool, true, false, Option, Some, None, List, map, flat_map, take, length, get_or, ◌++◌, ◌<◌, refl, sym, ap, ap₂, subst, ◌∙◌, arith}
use Rattle.std.specs.Prelude.{slice_get, option_map, replicate, IfSome}
use Rattle.std.specs.List.{position_from}
use Rattle.std.proofs.lemmas.Bool.{cond-true, cond-false}
use Rattle.std.proofs.lemmas.Option.{slice_get-get_or}
use Rattle.cosem_data.specs.Cells.{same_name}
use Rattle.std.proofs.lemmas.Grind.{flat_map-append}
use Rattle.std.proofs.lemmas.List.{append-nil, length-map, map-append, take_more}
use Rattle.cosem_data.specs.Cells.{same_cell}
use Rattle.cosem_data.specs.declared.cell.CellRef.{CellRef}
use Rattle.cosem_data.specs.declared.name.LogicalName.{LogicalName}
use Rattle.cosem_data.proofs.Same.{same_cell-refl, same_name-true, same_name-from}
use Rattle.meter_theory.specs.Lists.{IsIn, AreDistinct}
use Rattle.meter_theory.proofs.Lists.{in_any, in_map}
use Rattle.meter_theory.proofs.Held.{keys-append}
use Rattle.meter_theory.specs.State.{State, keys}
use Rattle.meter_theory.specs.Plan.{Plan, Object, ScriptTable, class_of, clock_object, start_of}
use Rattle.object_model.specs.Grants.{place_in}
use Rattle.object_model.specs.Tables.{AreNumbersOf, clock_number, number_at}
use Rattle.object_model.proofs.ByObject.{keys-named, position-map}
use Rattle.object_model.specs.InstanceView.{AtName}
use Rattle.object_model.proofs.Positions.{first, IsFirst}
use Rattle.object_model.proofs.Numbers.{in-get}

number_behind : (os : List Object) (start k : ℕ) (o : Object) → AreDistinct (map (λ p. p.name) os) → slice_get os k ≡ Some o → position_from (λ p. same_name p.name o.name) start os ≡ Some (start + k)
number_behind [] start k o apart here = cc
number_behind (p ∷ os) start zero o apart here =
    cond-true (same_name p.name o.name) (Some start) (position_from (λ q. same_name q.name o.name) (start + 1) os) (same_name-from p.name o.name cc)
    ∙ ap Some (omega arith)
number_behind (p ∷ os) start (suc k) o apart here =
    cond-false (same_name p.name o.name) (Some start) (position_from (λ q. same_name q.name o.name) (start + 1) os) (other (same_name p.name o.name) refl)
    ∙ number_behind os (start + 1) k o apart.1 here
    ∙ ap Some (omega arith)
  where
    other : (b : Bool) → same_name p.name o.name ≡ b → same_name p.name o.name ≡ false
    other true is = absurd (apart.0 (subst (IsIn (map (λ q. q.name) os)) (sym (same_name-true p.name o.name is)) (in_map (λ q. q.name) os o (in-get os k o here))))
    other false is = is

-- an object's place is its number
pub number_here : (os : List Object) (k : ℕ) (o : Object) → AreDistinct (map (λ p. p.name) os) → slice_get os k ≡ Some o → number_at os o.name ≡ Some k
number_here os k o apart here = number_behind os 0 k o apart here ∙ ap Some (omega arith)

-- what stands under the clock's number is the clock
pub clock_here : (P : Plan) (k : ℕ) (i : AtName) → clock_number P ≡ Some k → IfSome (slice_get P.objects k) (λ o. i ≡ record { plan = P; name = o.name })
    → (i.plan ≡ P) × (Some i.name ≡ option_map (λ o. o.name) (clock_object P))
clock_here P k i is here = at (slice_get P.objects k) refl here
  where
    there : IsFirst (λ o. class_of o.part == 8) P.objects k
    there = first (λ o. class_of o.part == 8) P.objects k is

    at : (r : Option Object) → slice_get P.objects k ≡ r → IfSome r (λ o. i ≡ record { plan = P; name = o.name }) → (i.plan ≡ P) × (Some i.name ≡ option_map (λ o. o.name) (clock_object P))
    at None none h = let some = slice_get-get_or P.objects k (record { name = i.name; fed = false; part = ScriptTable [] }) there.within in cc
    at (Some o) found h = (ap (λ j. j.plan) h, ap (λ j. Some j.name) h ∙ ap (option_map (λ p. p.name)) (sym (there.found ∙ found)))

-- what stands under an object's number is the object
pub placed_under : (P : Plan) (k : ℕ) (o : Object) (i : AtName) → slice_get P.objects k ≡ Some o → IfSome (slice_get P.objects k) (λ p. i ≡ record { plan = P; name = p.name }) →
    i ≡ record { plan = P; name = o.name }
placed_under P k o i here is = subst (λ r. IfSome r (λ p. ◌≡◌ {A = AtName} i (record { plan = P; name = p.name }))) here is

-- the numbers of two lists of names
pub numbers-both : (P : Plan) (xs ys : List CellRef) (a b : List ℕ) → AreNumbersOf P xs a → AreNumbersOf P ys b → AreNumbersOf P (xs ++ ys) (a ++ b)
numbers-both P xs ys a b first second =
    map-append Some a b
    ∙ ap₂ (λ ns ms. ns ++ ms) first second
    ∙ sym (map-append (place_in (map (λ o. o.name) P.objects)) (map (λ x. x.name) xs) (map (λ x. x.name) ys))
    ∙ ap (map (place_in (map (λ o. o.name) P.objects))) (sym (map-append (λ x. x.name) xs ys))

-- the cells of one object have its number
all-one : (P : Plan) (n : LogicalName) (k : ℕ) (xs : List CellRef) → ((x : CellRef) → IsIn xs x → x.name ≡ n) → number_at P.objects n ≡ Some k → AreNumbersOf P xs (replicate (length xs) k)
all-one P n k [] of_one is = refl
all-one P n k (x ∷ xs) of_one is =
    ap (λ m. m ∷ map Some (replicate (length xs) k)) (sym is ∙ sym (position-map P.objects n 0) ∙ ap (place_in (map (λ o. o.name) P.objects)) (sym (of_one x (inl refl))))
    ∙ ap (λ ms. place_in (map (λ o. o.name) P.objects) x.name ∷ ms) (all-one P n k xs (λ y i. of_one y (inr i)) is)

-- the numbers of the cells of one object more
pub owners-more : (P : Plan) (k : ℕ) (o : Object) (owners : List ℕ) (size : ℕ) → AreDistinct (map (λ p. p.name) P.objects) → slice_get P.objects k ≡ Some o → k < length P.objects →
    o ≡ get_or P.objects k o → size ≡ length (start_of o.name o.part) →
    AreNumbersOf P (keys (flat_map (λ p. start_of p.name p.part) (take k P.objects))) owners → AreNumbersOf P (keys (flat_map (λ p. start_of p.name p.part) (take (k + 1) P.objects))) (owners ++ replicate size k)
owners-more P k o owners size apart here within is long so_far =
    subst (λ xs. AreNumbersOf P xs (owners ++ replicate size k)) more
    (numbers-both P (keys (flat_map f (take k P.objects))) own owners (replicate size k) so_far
    (subst (λ n. AreNumbersOf P own (replicate n k)) (length-map (f o) (λ e. e.0) ∙ sym long)
    (all-one P o.name k own (λ x i. keys-named x o.name o.part (in_any (same_cell x) own x i (same_cell-refl x))) (number_here P.objects k o apart here))))
  where
    f : Object → State
    f p = start_of p.name p.part

    own : List CellRef
    own = keys (f o)

    more : keys (flat_map f (take k P.objects)) ++ own ≡ keys (flat_map f (take (k + 1) P.objects))
    more =
        sym (keys-append (flat_map f (take k P.objects)) (f o))
        ∙ ap keys (ap (λ es. flat_map f (take k P.objects) ++ es) (sym (append-nil (f o))) ∙ sym (flat_map-append f (take k P.objects) (o ∷ [])))
        ∙ ap (λ os. keys (flat_map f os)) (ap (λ p. take k P.objects ++ p ∷ []) is ∙ sym (take_more P.objects k o within))
