-- Boxes of cells, and where the numbers of cells stand in them.
use Rattle.std.proofs.Common.{◌≡◌, ◌<◌, ◌≤◌, ◌+◌, ◌⊎◌, inl, inr, ℕ, suc, Bool, true, false, ◌||◌, cond, nat_lt, List, [], ◌∷◌, get_or, length, map, Option, None, Some, unwrap_or, refl, sym, ap, ap₂, subst, ◌∙◌, Vec, Global, arith}
use Rattle.std.specs.List.{All, list_any, position_from, range_with_len}
use Rattle.std.proofs.lemmas.Bool.{cases_lt, false≢true, ltb-true, ne_eqb}
use Rattle.std.proofs.lemmas.List.{get_or-map, length-map}
use Rattle.std.proofs.lemmas.List.Elements.{All-filter, All-map, filter_passes}
use Rattle.meter_theory.specs.Plan.{Plan, cells}
use Rattle.flow_edges.specs.declared.table.Link.{Link}
use Rattle.std.proofs.lemmas.List.FromFn.{get_or-map-range_with_len, length-map-range_with_len}
use Rattle.std.proofs.lemmas.Option.{slice_get_past, unwrap_or-slice_get}
use Rattle.flow_picture.specs.Arrows.{ArePlaces, between_of, between_places, has_number, place_of}
use Rattle.flow_picture.specs.Boxes.{IsBox}
use Rattle.flow_picture.specs.Drawn.{AreEnds, are_few, boxes_of, by_class, drawn, has_end, has_mark, known_of, marked_boxes}

-- where a test first passes in a list of views
pub position-map : {X Y : Type 0} (f : X → Y) (test : Y → Bool) (i : ℕ) (xs : List X) → position_from test i (map f xs) ≡ position_from (λ x. test (f x)) i xs
position-map f test i [] = refl
position-map f test i (x ∷ xs) = ap (λ o. cond (test (f x)) (Some i) o) (position-map f test (i + 1) xs)

-- a box of the code is one
pub box-there : (count : ℕ) (boxes : List (Vec ℕ Global)) (k : ℕ) (box : Vec ℕ Global) → All (IsBox count) (map (λ v. v.items) boxes) → k < length boxes → box ≡ get_or boxes k box →
    IsBox count box.items
box-there count boxes k box are less is =
    let f = λ (v : Vec ℕ Global). v.items in
    subst (IsBox count) (get_or-map f boxes k box box.items less ∙ sym (ap f is)) (are k box.items (subst (λ n. k < n) (sym (length-map boxes f)) less))

any-some : {X : Type 0} (test : X → Bool) (xs : List X) → list_any test xs ≡ true → 1 ≤ length xs
any-some test [] h = absurd (false≢true h)
any-some test (x ∷ xs) h = omega arith

known-within : (count : ℕ) (group : List ℕ) → All (λ i. i < count) (known_of count group)
known-within count group j d less = ltb-true _ _ (filter_passes (λ i. nat_lt i count) group j d less)

-- the boxes of which a cell is marked are those of which one is an end of an edge
has-same : (links : List Link) (ends : List Bool) → AreEnds links ends → (box : List ℕ) → All (λ i. i < length ends) box → has_mark ends box ≡ has_end links box
has-same links ends are [] low = refl
has-same links ends are (i ∷ box) low = ap₂ (λ a b. a || b) (are.each i (low 0 0 (omega arith))) (has-same links ends are box (λ k d less. low (suc k) d (omega (arith, less))))

same-boxes : (links : List Link) (ends : List Bool) → AreEnds links ends → (given : List (List ℕ)) → marked_boxes ends given ≡ boxes_of (length ends) links given
same-boxes links ends are [] = refl
same-boxes links ends are (group ∷ given) =
    ap₂ (λ has rest. cond has (known_of (length ends) group ∷ rest) rest) (has-same links ends are (known_of (length ends) group) (known-within (length ends) group)) (same-boxes links ends are given)

pub marked-are : (count : ℕ) (links : List Link) (ends : List Bool) (given : List (List ℕ)) → length ends ≡ count → AreEnds links ends → marked_boxes ends given ≡ boxes_of count links given
marked-are count links ends given long are = subst (λ n. marked_boxes ends given ≡ boxes_of n links given) long (same-boxes links ends are given)

-- the boxes of groups are boxes of cells
pub boxes-are : (count : ℕ) (links : List Link) (given : List (List ℕ)) → All (IsBox count) (boxes_of count links given)
boxes-are count links given k d less =
    let known = map (known_of count) given in
    record {
      some = any-some _ _ (filter_passes (has_end links) known k d less);
      within = All-filter (has_end links) (λ box. All (λ i. i < count) box) known (All-map (λ box. All (λ i. i < count) box) (known_of count) given (λ j e low. known-within count _)) k d less;
    }

pub drawn-are : (P : Plan) (links : List Link) (given : List (List ℕ)) → All (IsBox (length (cells P))) (drawn P links given)
drawn-are P links given = at (are_few links (boxes_of (length (cells P)) links given))
  where
    at : (b : Bool) → All (IsBox (length (cells P))) (cond b (boxes_of (length (cells P)) links given) (boxes_of (length (cells P)) links (by_class P)))
    at true = boxes-are (length (cells P)) links given
    at false = boxes-are (length (cells P)) links (by_class P)

-- A number that no cell has stands in no box.

not-there : (count i : ℕ) (xs : List ℕ) → All (λ j. j < count) xs → count ≤ i → has_number i xs ≡ false
not-there count i [] low past = refl
not-there count i (x ∷ xs) low past =
    let here = low 0 0 (omega arith) in
    ap₂ (λ a b. a || b) (ne_eqb x i (λ e. omega (arith, e, here, past))) (not-there count i xs (λ k d less. low (suc k) d (omega (arith, less))) past)

in-no-box : (count i s : ℕ) (boxes : List (List ℕ)) → All (IsBox count) boxes → count ≤ i → position_from (has_number i) s boxes ≡ None
in-no-box count i s [] are past = refl
in-no-box count i s (box ∷ boxes) are past =
    ap₂ (λ b o. cond b (Some s) o) (not-there count i box (are 0 [] (omega arith)).within past) (in-no-box count i (s + 1) boxes (λ k d less. are (suc k) d (omega (arith, less))) past)

pub places-are : (count k : ℕ) (boxes : List (List ℕ)) (places : List (Option ℕ)) → All (IsBox count) boxes → k ≡ count → places ≡ map (place_of boxes) (range_with_len 0 k) → ArePlaces boxes places
places-are count k boxes places are end is i = at (cases_lt i k)
  where
    long : length places ≡ k
    long = ap length is ∙ length-map-range_with_len (place_of boxes) 0 k

    at : (i < k) ⊎ (k ≤ i) → get_or places i None ≡ place_of boxes i
    at (inl less) = ap (λ ps. get_or ps i None) is ∙ get_or-map-range_with_len (place_of boxes) 0 k i i None less (omega arith)
    at (inr past) =
        sym (unwrap_or-slice_get places i None)
        ∙ (ap (λ o. unwrap_or o None) (slice_get_past places i (omega (arith, past, long))) ∙ sym (in-no-box count i 0 boxes are (omega (arith, past, end))))

pub between-is : (boxes : List (List ℕ)) (places : List (Option ℕ)) (link : Link) → ArePlaces boxes places →
    between_places (get_or places link.source None) (get_or places link.target None) link.cause ≡ between_of boxes link
between-is boxes places link are = ap₂ (λ s t. between_places s t link.cause) (are link.source) (are link.target)
