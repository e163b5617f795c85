-- The cells whose writes change a cell are of its object, and stand near it.
use Rattle.std.proofs.Common.{◌≡◌, ◌<◌, ◌≤◌, ◌+◌, ℕ, zero, suc, Bool, true, false, ◌&&◌, cond, List, [], ◌∷◌, drop, find, get_or, length, take, Option, Some, None, option_map, refl, sym, ap, ◌∙◌, inl, inr, arith}
use Rattle.std.specs.List.{position_from}
use Rattle.std.proofs.lemmas.Bool.{and_parts, false_from_ne_true}
use Rattle.std.proofs.lemmas.List.{length-map}
use Rattle.std.proofs.lemmas.Option.{slice_get-get_or}
use Rattle.cosem_data.specs.Cells.{same_cell, same_name}
use Rattle.cosem_data.specs.declared.cell.CellRef.{CellRef}
use Rattle.cosem_data.proofs.Same.{same_cell-refl}
use Rattle.meter_theory.specs.Edges.{among}
use Rattle.meter_theory.specs.Lists.{IsIn}
use Rattle.meter_theory.specs.Plan.{Object, Plan, buffer, cells, entries_in_use, object_at, start_of}
use Rattle.meter_theory.specs.Rights.{may_set}
use Rattle.meter_theory.specs.Sound.{IsSound}
use Rattle.meter_theory.specs.Steps.{changed_by_write, empties}
use Rattle.meter_theory.proofs.Check.{among_in}
use Rattle.meter_theory.proofs.Writes.{write-cells}
use Rattle.object_model.specs.Tables.{place_of}
use Rattle.object_model.specs.declared.place.Place.{Place}
use Rattle.object_model.proofs.Numbers.{IsPlaced, cells-apart, few-own, is-placed, no-place, own, unplaced}
use Rattle.object_model.proofs.Positions.{first, in-at, is-first}
use Rattle.flow_edges.specs.Table.{no_cell}
use Rattle.flow_edges.proofs.Sources.{unnumbered}
use Rattle.flow_map.specs.Granting.{first_set}
use Rattle.flow_map.proofs.Found.{found-nowhere}

-- what is found among some is found among all, where a test passes nowhere else
find-part : {A : Type 0} (test : A → Bool) (xs : List A) (k m : ℕ) (d : A) → ((j : ℕ) → j < length xs → test (get_or xs j d) ≡ true → (k ≤ j) × (j < k + m)) →
    find test (take m (drop k xs)) ≡ find test xs
find-part test [] zero zero d here = refl
find-part test [] zero (suc m) d here = refl
find-part test [] (suc k) zero d here = refl
find-part test [] (suc k) (suc m) d here = refl
find-part test (x ∷ xs) zero zero d here =
    sym (found-nowhere test (x ∷ xs) d (λ j less. false_from_ne_true (test (get_or (x ∷ xs) j d)) (λ passes. let low = (here j less passes).1 in absurd (omega (arith, low)))))
find-part test (x ∷ xs) zero (suc m) d here =
    ap (cond (test x) (Some x)) (find-part test xs zero m d (λ j less passes. let low = (here (suc j) (omega (arith, less)) passes).1 in (omega arith, omega (arith, low))))
find-part test (x ∷ xs) (suc k) m d here =
    find-part test xs k m d (λ j less passes. let at = here (suc j) (omega (arith, less)) passes in (omega (arith, at.0), omega (arith, at.1)))
    ∙ ap (λ b. cond b (Some x) (find test xs)) (sym (false_from_ne_true (test x) (λ passes. let low = (here 0 (omega arith) passes).0 in absurd (omega (arith, low)))))

-- a write changes cells of one object
named : (y x : CellRef) → IsIn (changed_by_write y) x → x.name ≡ y.name
named y x (inl e) = ap (λ z. z.name) e
named y x (inr i) = at (empties y) i
  where
    at : (b : Bool) → IsIn (cond b (buffer y.name ∷ entries_in_use y.name ∷ []) []) x → x.name ≡ y.name
    at true (inl e) = ap (λ z. z.name) e
    at true (inr (inl e)) = ap (λ z. z.name) e
    at true (inr (inr none)) = absurd none
    at false none = absurd none

module _ (P : Plan) (sound : IsSound P) where
  -- each cell has its number
  numbered : (j : ℕ) (d : CellRef) → j < length (cells P) → position_from (same_cell (get_or (cells P) j d)) 0 (cells P) ≡ Some j
  numbered j d less =
      let y = get_or (cells P) j d in
      sym (is-first (same_cell y) (cells P) j d less
      (λ i before. false_from_ne_true (same_cell y (get_or (cells P) i d))
      (λ same. let e = cells-apart P sound j i y (get_or (cells P) i d) (slice_get-get_or (cells P) j d less) (slice_get-get_or (cells P) i d (omega (arith, before, less))) same in absurd (omega (arith, e, before))))
      (same_cell-refl y))

  -- the numbers of an object's cells
  in-object : (o : Object) (place : Place) (z : CellRef) (n : ℕ) → IsPlaced P z o place → position_from (same_cell z) 0 (cells P) ≡ Some n → (place.first_cell ≤ n) × (n < place.first_cell + 4)
  in-object o place z n placed is = at (position_from (same_cell z) 0 (own o)) refl (sym placed.number ∙ is)
    where
      at : (p : Option ℕ) → position_from (same_cell z) 0 (own o) ≡ p → option_map (λ j. place.first_cell + j) p ≡ Some n → (place.first_cell ≤ n) × (n < place.first_cell + 4)
      at None e h = cc
      at (Some j) e h =
          let low = (first (same_cell z) (own o) j e).within in
          let few = few-own o.name o.part in
          let long = length-map (start_of o.name o.part) (λ s. s.0) in
          let sum : place.first_cell + j ≡ n = cc in
          (omega (arith, sum), omega (arith, sum, low, few, long))

  -- the numbers of two cells of one object are no further apart than it has others
  near : (x y : CellRef) (i j : ℕ) → position_from (same_cell x) 0 (cells P) ≡ Some i → position_from (same_cell y) 0 (cells P) ≡ Some j → x.name ≡ y.name → (i ≤ j + 3) × (j ≤ i + 3)
  near x y i j x-is y-is same = of (object_at P x.name) refl
    where
      of : (r : Option Object) → object_at P x.name ≡ r → (i ≤ j + 3) × (j ≤ i + 3)
      of None none = let nowhere = unplaced P x none in cc
      of (Some o) there = at (position_from (λ p. same_name p.name x.name) 0 P.objects) refl
        where
          at : (q : Option ℕ) → position_from (λ p. same_name p.name x.name) 0 P.objects ≡ q → (i ≤ j + 3) × (j ≤ i + 3)
          at None none = absurd (no-place P x.name o (sym there) (sym (ap (option_map (place_of P.objects)) none)))
          at (Some k) is =
              let place = place_of P.objects k in
              let mine = is-placed P x o place sound (sym there) (sym (ap (option_map (place_of P.objects)) is)) in
              let other = is-placed P y o place sound (sym (ap (object_at P) (sym same) ∙ there))
              (sym (ap (λ n. option_map (place_of P.objects) (position_from (λ p. same_name p.name n) 0 P.objects)) (sym same) ∙ ap (option_map (place_of P.objects)) is)) in
              let a = in-object o place x i mine x-is in
              let b = in-object o place y j other y-is in
              (omega (arith, a.0, a.1, b.0, b.1), omega (arith, a.0, a.1, b.0, b.1))

  module _ (x : CellRef) (c : ℕ) where
    changed : (y : CellRef) → (may_set P c y && among (changed_by_write y) x) ≡ true → IsIn (changed_by_write y) x
    changed y passes = among_in (changed_by_write y) x (and_parts (may_set P c y) (among (changed_by_write y) x) passes).1

    -- no write changes what is no cell
    pub no-cell : position_from (same_cell x) 0 (cells P) ≡ None → None ≡ first_set P c x
    no-cell none =
        sym (found-nowhere (λ y. may_set P c y && among (changed_by_write y) x) (cells P) no_cell
        (λ j less. false_from_ne_true _ (λ passes.
        let y = get_or (cells P) j no_cell in
        absurd (unnumbered (cells P) x none (write-cells P y (in-at (cells P) j no_cell less) x (changed y passes))))))

    -- the writes that change a cell are found around it
    pub found-around : (i k m : ℕ) → position_from (same_cell x) 0 (cells P) ≡ Some i → ((j : ℕ) → j < length (cells P) → i ≤ j + 3 → j ≤ i + 3 → (k ≤ j) × (j < k + m)) →
        find (λ y. may_set P c y && among (changed_by_write y) x) (take m (drop k (cells P))) ≡ first_set P c x
    found-around i k m is within =
        find-part (λ y. may_set P c y && among (changed_by_write y) x) (cells P) k m no_cell
        (λ j less passes.
        let y = get_or (cells P) j no_cell in
        let apart = near x y i j is (numbered j no_cell less) (named y x (changed y passes)) in
        within j less apart.0 apart.1)
