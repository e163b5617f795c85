-- A state as the pairs of its cells and their values.
use Rattle.std.proofs.Common.{◌≡◌, ◌≤◌, ℕ, zero, suc, true, ◌++◌, length, take, drop, List, [], ◌∷◌, map, flat_map, Some, refl, sym, ap, ap₂, subst, ◌∙◌, inl, inr, arith}
use Rattle.std.specs.Prelude.{slice_get}
use Rattle.std.proofs.lemmas.Bool.{cond-true, cond-false, false_from_ne_true}
use Rattle.std.proofs.lemmas.List.{take_all, take_at}
use Rattle.std.proofs.lemmas.List.Folds.{flat_map-map}
use Rattle.cosem_data.specs.Cells.{same_cell}
use Rattle.cosem_data.specs.Equal.{same_tree, same_tree-true}
use Rattle.cosem_data.specs.Tree.{Tree}
use Rattle.cosem_data.specs.declared.cell.CellRef.{CellRef}
use Rattle.cosem_data.proofs.Same.{same_cell-true, same_cell-refl}
use Rattle.meter_theory.specs.Lists.{IsIn, AreDistinct}
use Rattle.meter_theory.specs.Plan.{Plan, cells}
use Rattle.meter_theory.specs.Sound.{IsSound}
use Rattle.meter_theory.specs.State.{State, keys, value}
use Rattle.object_model.proofs.Numbers.{cells-apart}
use Rattle.line_words.specs.Changes.{change_of, change_lines, told_part}

-- equal cells stand at one place
abbrev AreApart : List CellRef → Type 0
AreApart xs = (i j : ℕ) (x y : CellRef) → slice_get xs i ≡ Some x → slice_get xs j ≡ Some y → same_cell x y ≡ true → i ≡ j

in_place : (xs : List CellRef) (x : CellRef) → IsIn xs x → (j : ℕ) × (slice_get xs j ≡ Some x)
in_place [] x i = absurd i
in_place (y ∷ ys) x (inl e) = (zero, ap Some (sym e))
in_place (y ∷ ys) x (inr i) = let p = in_place ys x i in (suc p.0, p.1)

distinct : (xs : List CellRef) → AreApart xs → AreDistinct xs
distinct [] apart = tt
distinct (x ∷ xs) apart = (
  (λ i. let p = in_place xs x i in let e : zero ≡ suc p.0 = apart zero (suc p.0) x x refl p.1 (same_cell-refl x) in omega (arith, e)),
  distinct xs (λ i j y z a b s. let e : suc i ≡ suc j = apart (suc i) (suc j) y z a b s in omega (arith, e)),
)

cells-distinct : (P : Plan) → IsSound P → AreDistinct (cells P)
cells-distinct P sound = distinct (cells P) (cells-apart P sound)

-- functions that agree on the elements of a list
map_there : {A B : Type 0} (f g : A → B) (xs : List A) → ((x : A) → IsIn xs x → f x ≡ g x) → map f xs ≡ map g xs
map_there f g [] h = refl
map_there f g (x ∷ xs) h = ap₂ (λ y ys. y ∷ ys) (h x (inl refl)) (map_there f g xs (λ y i. h y (inr i)))

-- cells with their values in a state
abbrev pub valued : State → List CellRef → State
valued s xs = map (λ x. (x, value s x)) xs

valued-keys : (s : State) → AreDistinct (keys s) → valued s (keys s) ≡ s
valued-keys [] d = refl
valued-keys (e ∷ s) d = ap₂ (λ y ys. y ∷ ys) first (map_there _ _ (keys s) later ∙ valued-keys s d.1)
  where
    first : ◌≡◌ {A = CellRef × Tree} (e.0, value (e ∷ s) e.0) e
    first = ap (λ v. (e.0, v)) (cond-true (same_cell e.0 e.0) e.1 (value s e.0) (same_cell-refl e.0))

    later : (x : CellRef) → IsIn (keys s) x → ◌≡◌ {A = CellRef × Tree} (x, value (e ∷ s) x) (x, value s x)
    later x i =
        let other : same_cell e.0 x ≡ true → ⊥ = λ p. d.0 (subst (IsIn (keys s)) (sym (same_cell-true e.0 x p)) i) in
        ap (λ v. (x, v)) (cond-false (same_cell e.0 x) e.1 (value s x) (false_from_ne_true (same_cell e.0 x) other))

-- the cells of a plan with their values in one of its states
valued-cells : (P : Plan) (s : State) → IsSound P → keys s ≡ cells P → valued s (cells P) ≡ s
valued-cells P s sound k = subst (λ xs. valued s xs ≡ s) k (valued-keys s (subst AreDistinct (sym k) (cells-distinct P sound)))

-- the cells of a state with their values in another
valued-again : (s t : State) → map (λ e. (e.0, value t e.0)) s ≡ valued t (keys s)
valued-again [] t = refl
valued-again (e ∷ s) t = ap (λ ys. (e.0, value t e.0) ∷ ys) (valued-again s t)

-- cells that are given their values in another state are its told part
renewed : (P : Plan) (before after : State) → keys before ≡ cells P → map (λ e. (e.0, value after e.0)) before ≡ told_part P after
renewed P before after k = valued-again before after ∙ ap (valued after) k

-- the lines of changes, by what a list of cells and values held before
lines-along : (P : Plan) (before after : State) → IsSound P → keys before ≡ cells P →
    flat_map (λ e. change_of e.0 e.1 (value after e.0)) before ≡ change_lines before (told_part P after)
unfolding change_lines
lines-along P before after sound k =
    ap (flat_map (λ e. change_of e.0 e.1 (value after e.0))) (sym (valued-cells P before sound k))
    ∙ flat_map-map (λ e. change_of e.0 e.1 (value after e.0)) (λ x. (x, value before x)) (cells P)
    ∙ sym (flat_map-map (λ e. change_of e.0 (value before e.0) e.1) (λ x. (x, value after x)) (cells P))

-- the cells of a plan with their values, when each has been read
pub all-valued : (P : Plan) (s kept : State) (xs : List CellRef) (i : ℕ) → xs ≡ cells P → length xs ≤ i → kept ≡ valued s (take i xs) → kept ≡ told_part P s
all-valued P s kept xs i all past read = read ∙ ap (valued s) (take_all i xs past ∙ all)

-- the told part has the cells of the plan
keys-valued : (s : State) (xs : List CellRef) → keys (valued s xs) ≡ xs
keys-valued s [] = refl
keys-valued s (x ∷ xs) = ap (λ ys. x ∷ ys) (keys-valued s xs)

pub told_cells : (P : Plan) (s : State) → keys (told_part P s) ≡ cells P
told_cells P s = keys-valued s (cells P)

-- a cell whose value is the one that was kept
pub unchanged : (e : CellRef × Tree) (v : Tree) → true ≡ same_tree e.1 v → e ≡ (e.0, v)
unchanged e v h = ap (λ w. (e.0, w)) (same_tree-true e.1 v (sym h))

-- the cells that were kept, as they lie in memory, have all been looked at: the lines that were put behind none
pub lines-looked : (P : Plan) (held items before after : State) (first lines : List ℕ) → IsSound P → keys before ≡ cells P →
    held ≡ items → items ≡ before → first ≡ [] → lines ≡ first ++ flat_map (λ e. change_of e.0 e.1 (value after e.0)) held → lines ≡ change_lines before (told_part P after)
lines-looked P held items before after first lines sound k here viewed none told =
    told ∙ ap (λ l. l ++ flat_map (λ e. change_of e.0 e.1 (value after e.0)) held) none
    ∙ ap (flat_map (λ e. change_of e.0 e.1 (value after e.0))) (here ∙ viewed) ∙ lines-along P before after sound k

-- and what is kept then
pub kept-looked : (P : Plan) (held items before after now : State) (n : ℕ) → keys before ≡ cells P →
    held ≡ items → items ≡ before → length now ≡ length held → length held ≡ n → now ≡ map (λ e. (e.0, value after e.0)) held → take n (now ++ drop (length now) items) ≡ told_part P after
kept-looked P held items before after now n k here viewed long all kept =
    take_at now (drop (length now) items) n (omega (arith, long, all))
    ∙ kept ∙ ap (map (λ e. (e.0, value after e.0))) (here ∙ viewed) ∙ renewed P before after k
