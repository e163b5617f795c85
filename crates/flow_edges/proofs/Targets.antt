-- Which cells of a list are among others.
use Rattle.std.specs.Prelude.{◌≡◌, ◌≢◌, ℕ, ◌+◌, ◌<◌, ◌==◌, Bool, true, false, ◌||◌, ◌⊎◌, List, [], ◌∷◌, ◌++◌, Option, Some, None, map, filter_map, length, get_or, set, take, replicate}
use Rattle.std.specs.List.{cons_option, list_any, position_from}
use Rattle.std.proofs.Common.{refl, sym, ap, ap₂, subst, ◌∙◌, arith, inl, inr}
use Rattle.std.proofs.lemmas.Bool.{eq-eqb, ne_eqb}
use Rattle.std.proofs.lemmas.List.{length-map, get_or-map, get_or_default, get_or-set_same, get_or-set_other, same_lists, take_more}
use Rattle.std.proofs.lemmas.List.Elements.{filter_map-append}
use Rattle.std.proofs.lemmas.Simd.{splat_is_map}
use Rattle.std.proofs.lemmas.List.Folds.{list_any-append}
use Rattle.cosem_data.specs.Cells.{same_cell}
use Rattle.cosem_data.specs.declared.cell.CellRef.{CellRef}
use Rattle.cosem_data.proofs.Same.{same_cell-true, same_cell-refl}
use Rattle.meter_theory.specs.Edges.{among}
use Rattle.meter_theory.specs.Lists.{IsIn}
use Rattle.object_model.proofs.Positions.{in-at}
use Rattle.flow_edges.specs.Table.{cell_at, no_cell, AreCells}
use Rattle.flow_edges.proofs.EdgeMarks.{or-true, or-false}
use Rattle.flow_edges.proofs.Sources.{numbered, unnumbered}

-- none is among no others
pub none_among : (cs : List CellRef) (n : ℕ) → n ≡ length cs → replicate n false ≡ map (among []) cs
none_among cs n e = splat_is_map cs n false (sym e)

same_or_not : (m n : ℕ) → (m ≡ n) ⊎ (m ≢ n)
same_or_not m n = grind arith

-- the numbers of those that are cells of a list
abbrev pub numbers_in : List CellRef → List CellRef → List ℕ
numbers_in cs xs = filter_map (λ x. position_from (same_cell x) 0 cs) xs

-- those of one more
pub numbers-step : (cs xs : List CellRef) (i : ℕ) (r : Option ℕ) → i < length xs → r ≡ position_from (same_cell (get_or xs i no_cell)) 0 cs →
    numbers_in cs (take i xs) ++ cons_option r [] ≡ numbers_in cs (take (i + 1) xs)
numbers-step cs xs i r within is =
    ap (λ z. numbers_in cs (take i xs) ++ cons_option z []) is
    ∙ sym (filter_map-append (λ x. position_from (same_cell x) 0 cs) (take i xs) (get_or xs i no_cell ∷ []))
    ∙ ap (numbers_in cs) (sym (take_more xs i no_cell within))

-- they are numbers of cells
pub numbers-within : (cs xs : List CellRef) (n : ℕ) → IsIn (numbers_in cs xs) n → n < length cs
numbers-within cs [] n i = absurd i
numbers-within cs (x ∷ xs) n i = at (λ j. numbers-within cs xs n j) (position_from (same_cell x) 0 cs) refl i
  where
    at : (IsIn (numbers_in cs xs) n → n < length cs) → (r : Option ℕ) → position_from (same_cell x) 0 cs ≡ r → IsIn (cons_option r (numbers_in cs xs)) n → n < length cs
    at rest None is j = rest j
    at rest (Some k) is (inl same) = subst (λ z. z < length cs) (sym same) (numbered cs x k is).0
    at rest (Some k) is (inr j) = rest j

-- a number is one of them where its cell is among those
numbered-among : (cs : List CellRef) (k : ℕ) → AreCells cs → k < length cs → (xs : List CellRef) → list_any (λ n. n == k) (numbers_in cs xs) ≡ among xs (cell_at cs k)
numbered-among cs k are within [] = refl
numbered-among cs k are within (x ∷ xs) = at (numbered-among cs k are within xs) (position_from (same_cell x) 0 cs) refl
  where
    elsewhere : (b : Bool) → (same_cell (cell_at cs k) x ≡ true → ⊥) → same_cell (cell_at cs k) x ≡ b → b ≡ false
    elsewhere false apart e = refl
    elsewhere true apart e = absurd (apart e)

    is-one : (n : ℕ) → position_from (same_cell x) 0 cs ≡ Some n → (n ≡ k) ⊎ (n ≢ k) → (n == k) ≡ same_cell (cell_at cs k) x
    is-one n is (inl same) =
        eq-eqb n k same
        ∙ sym (subst (λ z. same_cell z x ≡ true) (sym (ap (cell_at cs) (sym same) ∙ (numbered cs x n is).1)) (same_cell-refl x))
    is-one n is (inr other) =
        ne_eqb n k other
        ∙ sym (elsewhere (same_cell (cell_at cs k) x)
        (λ e. other (sym (are.apart k n within (numbered cs x n is).0 (subst (λ z. same_cell (cell_at cs k) z ≡ true) (sym (numbered cs x n is).1) e)))) refl)

    at : list_any (λ n. n == k) (numbers_in cs xs) ≡ among xs (cell_at cs k) → (r : Option ℕ) → position_from (same_cell x) 0 cs ≡ r →
        list_any (λ n. n == k) (cons_option r (numbers_in cs xs)) ≡ (same_cell (cell_at cs k) x || among xs (cell_at cs k))
    at rest None is =
        rest
        ∙ ap (λ b. b || among xs (cell_at cs k))
        (sym (elsewhere (same_cell (cell_at cs k) x)
        (λ e. unnumbered cs x is (subst (IsIn cs) (same_cell-true (cell_at cs k) x e) (in-at cs k no_cell within))) refl))
    at rest (Some n) is = ap₂ (λ a b. a || b) (is-one n is (same_or_not n k)) rest

-- one more mark is set
pub marked-more : (old now : List Bool) (ns : List ℕ) (i k : ℕ) → i < length ns → get_or ns i 0 < length now →
    get_or now k false ≡ (get_or old k false || list_any (λ n. n == k) (take i ns)) →
    get_or (set now (get_or ns i 0) true) k false ≡ (get_or old k false || list_any (λ n. n == k) (take (i + 1) ns))
marked-more old now ns i k within there so_far = at (same_or_not k n) ∙ ap (λ b. a || b) (sym more)
  where
    n : ℕ
    n = get_or ns i 0

    a : Bool
    a = get_or old k false

    b : Bool
    b = list_any (λ m. m == k) (take i ns)

    more : list_any (λ m. m == k) (take (i + 1) ns) ≡ (b || ((n == k) || false))
    more = ap (list_any (λ m. m == k)) (take_more ns i 0 within) ∙ list_any-append (λ m. m == k) (take i ns) (n ∷ [])

    or_true : (c : Bool) → true ≡ (c || true)
    or_true true = refl
    or_true false = refl

    at : (k ≡ n) ⊎ (k ≢ n) → get_or (set now n true) k false ≡ (a || (b || ((n == k) || false)))
    at (inl same) =
        ap (λ z. get_or (set now n true) z false) same
        ∙ get_or-set_same now n true false there
        ∙ or_true a
        ∙ ap (λ c. a || c) (or-true b (n == k) (eq-eqb n k (sym same)))
    at (inr other) =
        get_or-set_other now n k true false other
        ∙ so_far
        ∙ ap (λ c. a || c) (or-false b (n == k) (ne_eqb n k (λ e. other (sym e))))

-- the marks at their numbers are set
pub all-marked : (cs before xs : List CellRef) (marks new : List Bool) → AreCells cs → marks ≡ map (among before) cs → length new ≡ length marks →
    ((k : ℕ) → k < length marks → get_or new k false ≡ (get_or marks k false || list_any (λ n. n == k) (numbers_in cs xs))) → new ≡ map (among (before ++ xs)) cs
all-marked cs before xs marks new are so_far same set =
    same_lists new (map (among (before ++ xs)) cs) (same ∙ long ∙ sym (length-map cs (among (before ++ xs)))) (λ k d h. at k d h (subst (λ z. k < z) (same ∙ long) h))
  where
    long : length marks ≡ length cs
    long = ap length so_far ∙ length-map cs (among before)

    at : (k : ℕ) (d : Bool) → k < length new → k < length cs → get_or new k d ≡ get_or (map (among (before ++ xs)) cs) k d
    at k d h within =
        get_or_default new k d false h
        ∙ set k (subst (λ z. k < z) same h)
        ∙ ap₂ (λ a b. a || b)
        (ap (λ z. get_or z k false) so_far ∙ get_or-map (among before) cs k no_cell false within)
        (numbered-among cs k are within xs)
        ∙ sym (list_any-append (same_cell (cell_at cs k)) before xs)
        ∙ sym (get_or-map (among (before ++ xs)) cs k no_cell d within)
