-- Links by the cells that they lead to.
use Rattle.std.proofs.Common.{◌≡◌, ◌==◌, ◌<◌, ◌⊎◌, ℕ, Bool, true, false, ◌&&◌, cond, List, [], ◌∷◌, ◌++◌, filter, find, get_or, length, map, replicate, slice_set, Some, refl, sym, ap, ap₂, subst, ◌∙◌, inl, inr, arith}
use Rattle.std.specs.Prelude.{option_map, slice_get}
use Rattle.std.proofs.lemmas.Bool.{cases_eq, eq-eqb, ne_eqb}
use Rattle.std.proofs.lemmas.Grind.{elements}
use Rattle.std.proofs.lemmas.List.{get_or-map, get_or-replicate, length-map, length-replicate, map-set}
use Rattle.std.proofs.lemmas.List.Elements.{filter-append}
use Rattle.std.proofs.lemmas.Option.{get_or_from_slice_get, slice_get-map, slice_get_within}
use Rattle.cosem_data.specs.Cells.{same_cell}
use Rattle.meter_theory.specs.Edges.{edges}
use Rattle.meter_theory.specs.Plan.{Plan, cells}
use Rattle.meter_theory.specs.Sound.{IsSound}
use Rattle.meter_theory.specs.Ways.{far_end}
use Rattle.meter_theory.specs.declared.flow.Reach.{Reach}
use Rattle.flow_edges.specs.Table.{AreWithin, cell_at, edge_at}
use Rattle.flow_edges.specs.declared.table.Link.{Link}
use Rattle.flow_edges.proofs.Sources.{are-cells}
use Rattle.flow_ways.specs.Arriving.{AreArriving, AreEdgesTo, FindsAllTo}
use Rattle.flow_edges.specs.Ends.{far_of}
use Rattle.flow_ways.specs.Rounds.{AreLinksOf}
use Rattle.flow_ways.proofs.Reached.{far-cell-at, far-low, same-numbers}

-- a search among those that pass a test which what is searched for passes
find-filter : {A : Type 0} (test keep : A → Bool) (xs : List A) → ((x : A) → test x ≡ true → keep x ≡ true) → find test (filter keep xs) ≡ find test xs
find-filter test keep [] passes = refl
find-filter test keep (x ∷ xs) passes = at (find-filter test keep xs passes) (keep x) (test x) refl refl
  where
    at : find test (filter keep xs) ≡ find test xs → (k t : Bool) → keep x ≡ k → test x ≡ t → find test (cond k (x ∷ filter keep xs) (filter keep xs)) ≡ cond t (Some x) (find test xs)
    at rest true t kept is = ap₂ (λ b o. cond b (Some x) o) is rest
    at rest false true kept is = absurd (no (sym kept ∙ passes x is))
      where
        no : false ≡ true → ⊥
        no h = cc
    at rest false false kept is = rest

filtered-within : (P : Plan) (keep : Link → Bool) (links : List Link) → AreWithin (cells P) links → AreWithin (cells P) (filter keep links)
filtered-within P keep [] are = are
filtered-within P keep (l ∷ ls) are = at (filtered-within P keep ls are.1) (keep l)
  where
    at : AreWithin (cells P) (filter keep ls) → (k : Bool) → AreWithin (cells P) (cond k (l ∷ filter keep ls) (filter keep ls))
    at rest true = (are.0, rest)
    at rest false = rest

module _ (P : Plan) (sound : IsSound P) (reach : Reach) (i : ℕ) (low : i < length (cells P)) where
  filtered-edges : (links : List Link) → AreWithin (cells P) links →
      map (edge_at (cells P)) (filter (λ l. far_of reach l == i) links) ≡ filter (λ e. same_cell (far_end reach e) (cell_at (cells P) i)) (map (edge_at (cells P)) links)
  filtered-edges [] are = refl
  filtered-edges (l ∷ ls) are =
      at (far_of reach l == i)
      ∙ ap₂ (λ b es. cond b (edge_at (cells P) l ∷ es) es) same (filtered-edges ls are.1)
    where
      at : (b : Bool) → map (edge_at (cells P)) (cond b (l ∷ filter (λ l. far_of reach l == i) ls) (filter (λ l. far_of reach l == i) ls))
          ≡ cond b (edge_at (cells P) l ∷ map (edge_at (cells P)) (filter (λ l. far_of reach l == i) ls)) (map (edge_at (cells P)) (filter (λ l. far_of reach l == i) ls))
      at true = refl
      at false = refl

      same : (far_of reach l == i) ≡ same_cell (far_end reach (edge_at (cells P) l)) (cell_at (cells P) i)
      same = same-numbers P (are-cells P sound) (far_of reach l) i (far-low reach P l are.0) low ∙ ap (λ x. same_cell x (cell_at (cells P) i)) (sym (far-cell-at reach P l))

-- lists of links are lists of edges
pub arriving-edges : (P : Plan) → IsSound P → (reach : Reach) (links : List Link) (lists : List (List Link)) → AreLinksOf P links → AreArriving reach (length (cells P)) links lists → AreEdgesTo P reach lists
arriving-edges P sound reach links lists of are = record {
  edges = λ i h. let low = subst (λ n. i < n) are.size h in
      ap (map (edge_at (cells P))) (are.each i low) ∙ (filtered-edges P sound reach i low links of.within ∙ ap (filter (λ e. same_cell (far_end reach e) (cell_at (cells P) i))) of.edges);
  within = λ i h. subst (AreWithin (cells P)) (sym (are.each i (subst (λ n. i < n) are.size h))) (filtered-within P (λ l. far_of reach l == i) links of.within);
}

-- the list of a cell has all that lead to it, and so have all links
module _ {V : Type 0} (items : V → List Link) (P : Plan) (reach : Reach) (lists : List V) (i : ℕ) (v : V) (are : AreEdgesTo P reach (map items lists)) (there : slice_get lists i ≡ Some v) where
  among-lists : slice_get (map items lists) i ≡ Some (items v)
  among-lists = slice_get-map items lists i ∙ ap (option_map items) there

  listed : get_or (map items lists) i [] ≡ items v
  listed = get_or_from_slice_get (map items lists) i (items v) [] among-lists

  low : i < length (map items lists)
  low = slice_get_within (map items lists) i (items v) among-lists

  pub list-finds : FindsAllTo P reach (cell_at (cells P) i) (items v)
  list-finds test passes =
      ap (λ ls. find test (map (edge_at (cells P)) ls)) (sym listed)
      ∙ (ap (find test) (are.edges i low) ∙ find-filter test (λ e. same_cell (far_end reach e) (cell_at (cells P) i)) (edges P) passes)

  pub list-within : AreWithin (cells P) (items v)
  list-within = subst (AreWithin (cells P)) listed (are.within i low)

-- a test that passes where another does
pub first-passes : (a b : Bool) → (a && b) ≡ true → a ≡ true
first-passes true b h = refl
first-passes false b h = h

-- no list has links before any is put
pub none-arrive : (reach : Reach) (n : ℕ) (lists : List (List Link)) → lists ≡ replicate n [] → AreArriving reach n [] lists
none-arrive reach n lists are = record {
  size = ap length are ∙ length-replicate n [];
  each = λ i low. ap (λ ls. get_or ls i []) are ∙ get_or-replicate n i [] [] low;
}

-- one link more stands in the list of the cell that it leads to
module _ {V : Type 0} (items : V → List Link) (reach : Reach) (n : ℕ) (links : List Link) (l : Link) (lists : List V) (v w : V) (are : AreArriving reach n links (map items lists)) (low : far_of reach l < n)
    (there : get_or lists (far_of reach l) v ≡ v) (pushed : items w ≡ items v ++ l ∷ []) where
  long : length lists ≡ n
  long = sym (length-map lists items) ∙ are.size

  here : get_or (map items (slice_set lists (far_of reach l) w)) (far_of reach l) [] ≡ items w
  here = ap (λ ls. get_or ls (far_of reach l) []) (map-set items lists (far_of reach l) w) ∙ grind (elements, arith, long, low, length-map lists items)

  more : (i : ℕ) → i < n → (i ≡ far_of reach l) ⊎ (i ≡ far_of reach l → ⊥) →
      get_or (map items (slice_set lists (far_of reach l) w)) i [] ≡ filter (λ k. far_of reach k == i) links ++ filter (λ k. far_of reach k == i) (l ∷ [])
  more i h (inl e) =
      subst (λ j. get_or (map items (slice_set lists (far_of reach l) w)) j [] ≡ filter (λ k. far_of reach k == j) links ++ filter (λ k. far_of reach k == j) (l ∷ [])) (sym e)
      (here ∙ (pushed ∙ ap₂ (λ a b. a ++ cond b (l ∷ []) []) (before ∙ are.each (far_of reach l) low) (sym (eq-eqb (far_of reach l) (far_of reach l) refl))))
    where
      before : items v ≡ get_or (map items lists) (far_of reach l) []
      before = ap items (sym there) ∙ sym (get_or-map items lists (far_of reach l) v [] (subst (λ m. far_of reach l < m) (sym long) low))
  more i h (inr ne) =
      elsewhere
      ∙ (are.each i h ∙ (none-behind (filter (λ k. far_of reach k == i) links) ∙ ap (λ b. filter (λ k. far_of reach k == i) links ++ cond b (l ∷ []) []) (sym (ne_eqb (far_of reach l) i (λ e. ne (sym e))))))
    where
      none-behind : (ks : List Link) → ks ≡ ks ++ []
      none-behind [] = refl
      none-behind (k ∷ ks) = ap (λ t. k ∷ t) (none-behind ks)

      elsewhere : get_or (map items (slice_set lists (far_of reach l) w)) i [] ≡ get_or (map items lists) i []
      elsewhere = ap (λ ls. get_or ls i []) (map-set items lists (far_of reach l) w) ∙ grind (elements, arith, ne)

  pub one-arrives : AreArriving reach n (links ++ l ∷ []) (map items (slice_set lists (far_of reach l) w))
  one-arrives = record {
    size = length-map (slice_set lists (far_of reach l) w) items ∙ (grind (elements, arith) ∙ long);
    each = λ i h. more i h (cases_eq i (far_of reach l)) ∙ sym (filter-append (λ k. far_of reach k == i) links (l ∷ []));
  }
