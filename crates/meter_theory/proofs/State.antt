-- The laws of states: what a put leaves at each cell.
use Rattle.cosem_data.proofs.Same.{same_cell-true, same_cell-refl}
use Rattle.std.proofs.Common.{◌≡◌, ◌⊎◌, Bool, true, false, cond, List, [], ◌∷◌, map, refl, sym, ap, ap₂, subst, ◌∙◌, inl, inr}
use Rattle.std.specs.List.{list_any}
use Rattle.std.proofs.lemmas.Bool.{false_from_ne_true, cond-true, cond-false}
use Rattle.meter_theory.specs.Lists.{IsIn}
use Rattle.cosem_data.specs.Tree.{Tree, null_data}
use Rattle.cosem_data.specs.declared.cell.CellRef.{CellRef}
use Rattle.cosem_data.specs.Cells.{same_cell}
use Rattle.meter_theory.specs.State.{State, keys, value, put}
use Rattle.meter_theory.proofs.Lists.{any_in, none_in}

pub keys-put : (s : State) (x : CellRef) (v : Tree) → keys (put s x v) ≡ keys s
keys-put [] x v = refl
keys-put (e ∷ s) x v = elim (same_cell e.0 x) as (λ b. keys (cond b ((e.0, v) ∷ s) (e ∷ put s x v)) ≡ e.0 ∷ keys s) [
  | true ↦ refl
  | false ↦ ap (λ ks. e.0 ∷ ks) (keys-put s x v)
]

pub value-put_other : (s : State) (x y : CellRef) (v : Tree) → same_cell x y ≡ false → value (put s x v) y ≡ value s y
value-put_other [] x y v h = refl
value-put_other (e ∷ s) x y v h =
    elim (same_cell e.0 x) as (λ b. same_cell e.0 x ≡ b → value (cond b ((e.0, v) ∷ s) (e ∷ put s x v)) y ≡ value (e ∷ s) y) [
      | true ↦ λ p. let q : same_cell e.0 y ≡ false = subst (λ z. same_cell z y ≡ false) (sym (same_cell-true e.0 x p)) h in
          cond-false _ _ _ q ∙ sym (cond-false _ _ _ q)
      | false ↦ λ p. ap (cond (same_cell e.0 y) e.1) (value-put_other s x y v h)
    ] refl

-- the same value put at the same cell of states with the same cells
pub value-put_same : (s t : State) (x : CellRef) (v : Tree) → keys s ≡ keys t → value (put s x v) x ≡ value (put t x v) x
value-put_same [] [] x v k = refl
value-put_same [] (f ∷ t) x v k = cc
value-put_same (e ∷ s) [] x v k = cc
value-put_same (e ∷ s) (f ∷ t) x v k =
    let heads : e.0 ≡ f.0 = cc in
    let tails : keys s ≡ keys t = cc in
    elim (same_cell e.0 x) as (λ b. same_cell e.0 x ≡ b → value (cond b ((e.0, v) ∷ s) (e ∷ put s x v)) x ≡ value (put (f ∷ t) x v) x) [
      | true ↦ λ p.
          let q : same_cell f.0 x ≡ true = subst (λ z. same_cell z x ≡ true) heads p in
          cond-true _ _ _ p ∙ sym (rw q (cond-true _ _ _ q))
      | false ↦ λ p.
          let q : same_cell f.0 x ≡ false = subst (λ z. same_cell z x ≡ false) heads p in
          cond-false _ _ _ p ∙ (value-put_same s t x v tails ∙ sym (rw q (cond-false _ _ _ q)))
    ] refl

-- a value put in any case
pub value-put : (s t : State) (x y : CellRef) (v : Tree) → keys s ≡ keys t → value s y ≡ value t y → value (put s x v) y ≡ value (put t x v) y
value-put s t x y v k e =
    elim (same_cell x y) as (λ b. same_cell x y ≡ b → value (put s x v) y ≡ value (put t x v) y) [
      | true ↦ λ p. subst (λ z. value (put s x v) z ≡ value (put t x v) z) (same_cell-true x y p) (value-put_same s t x v k)
      | false ↦ λ p. value-put_other s x y v p ∙ (e ∙ sym (value-put_other t x y v p))
    ] refl

-- a value that was put into a cell of the state
pub value-put_there : (s : State) (x : CellRef) (v : Tree) → IsIn (keys s) x → value (put s x v) x ≡ v
value-put_there [] x v i = absurd i
value-put_there (e ∷ s) x v i =
    elim (same_cell e.0 x) as (λ b. same_cell e.0 x ≡ b → value (cond b ((e.0, v) ∷ s) (e ∷ put s x v)) x ≡ v) [
      | true ↦ λ p. cond-true (same_cell e.0 x) v (value s x) p
      | false ↦ λ p. cond-false (same_cell e.0 x) e.1 (value (put s x v) x) p ∙ value-put_there s x v (later p)
    ] refl
  where
    later : same_cell e.0 x ≡ false → IsIn (keys s) x
    later p = elim i [
      | inl q ↦ let r : same_cell e.0 x ≡ true = subst (λ z. same_cell e.0 z ≡ true) (sym q) (same_cell-refl e.0) in absurd (both p r)
      | inr j ↦ j
    ]
      where
        both : same_cell e.0 x ≡ false → same_cell e.0 x ≡ true → ⊥
        both a b = cc

pub value_missing : (s : State) (x : CellRef) → (IsIn (keys s) x → ⊥) → value s x ≡ null_data
value_missing [] x h = refl
value_missing (e ∷ s) x h =
    cond-false (same_cell e.0 x) e.1 (value s x) (false_from_ne_true (same_cell e.0 x) (λ p. h (inl (sym (same_cell-true e.0 x p)))))
    ∙ value_missing s x (λ i. h (inr i))

-- What was there, put again, changes nothing.
pub put-itself : (s : State) (x : CellRef) → put s x (value s x) ≡ s
put-itself [] x = refl
put-itself (e ∷ s) x =
    elim (same_cell e.0 x) as (λ b. cond b ((e.0, cond b e.1 (value s x)) ∷ s) (e ∷ put s x (cond b e.1 (value s x))) ≡ e ∷ s) [
      | true ↦ refl
      | false ↦ ap (λ t. e ∷ t) (put-itself s x)
    ]

-- The later of two puts at one cell counts.
pub put-twice : (s : State) (x : CellRef) (v w : Tree) → put (put s x v) x w ≡ put s x w
put-twice [] x v w = refl
put-twice (e ∷ s) x v w =
    elim (same_cell e.0 x) as (λ b. same_cell e.0 x ≡ b → put (cond b ((e.0, v) ∷ s) (e ∷ put s x v)) x w ≡ cond b ((e.0, w) ∷ s) (e ∷ put s x w)) [
      | true ↦ λ p. cond-true (same_cell e.0 x) _ _ p
      | false ↦ λ p. cond-false (same_cell e.0 x) _ _ p ∙ ap (λ t. e ∷ t) (put-twice s x v w)
    ] refl

-- Puts at two cells come in any order.
pub put-swap : (s : State) (x y : CellRef) (v w : Tree) → same_cell x y ≡ false → put (put s x v) y w ≡ put (put s y w) x v
put-swap [] x y v w h = refl
put-swap (e ∷ s) x y v w h = at (put-swap s x y v w h) (same_cell e.0 x) (same_cell e.0 y) refl refl
  where
    both : {A : Type 0} → same_cell e.0 x ≡ true → same_cell e.0 y ≡ true → A
    both p r = let a : x ≡ y = sym (same_cell-true e.0 x p) ∙ same_cell-true e.0 y r in
        let b : same_cell x y ≡ true = subst (λ z. same_cell x z ≡ true) a (same_cell-refl x) in absurd (not_both b)
      where
        not_both : same_cell x y ≡ true → ⊥
        not_both b = cc

    at : put (put s x v) y w ≡ put (put s y w) x v → (a b : Bool) → same_cell e.0 x ≡ a → same_cell e.0 y ≡ b →
        put (cond a ((e.0, v) ∷ s) (e ∷ put s x v)) y w ≡ put (cond b ((e.0, w) ∷ s) (e ∷ put s y w)) x v
    at rest true true p r = both p r
    at rest true false p r = cond-false (same_cell e.0 y) _ _ r ∙ sym (cond-true (same_cell e.0 x) _ _ p)
    at rest false true p r = cond-true (same_cell e.0 y) _ _ r ∙ sym (cond-false (same_cell e.0 x) _ _ p)
    at rest false false p r = cond-false (same_cell e.0 y) _ _ r ∙ (ap (λ t. e ∷ t) rest ∙ sym (cond-false (same_cell e.0 x) _ _ p))

-- all different
abbrev pub AreDistinct : List CellRef → Type 0
AreDistinct [] = Unit {0}
AreDistinct (k ∷ ks) = (IsIn ks k → ⊥) × AreDistinct ks

-- States with the same cells, each once, that give the same values are one state.
pub same_state : (s t : State) → keys s ≡ keys t → AreDistinct (keys s) → ((x : CellRef) → value s x ≡ value t x) → s ≡ t
same_state [] [] k d h = refl
same_state [] (f ∷ t) k d h = cc
same_state (e ∷ s) [] k d h = cc
same_state (e ∷ s) (f ∷ t) k d h =
    let heads : e.0 ≡ f.0 = cc in
    let tails : keys s ≡ keys t = cc in
    let first : e.1 ≡ f.1 =
    sym (cond-true (same_cell e.0 e.0) e.1 (value s e.0) (same_cell-refl e.0))
    ∙ (h e.0 ∙ cond-true (same_cell f.0 e.0) f.1 (value t e.0) (subst (λ z. same_cell z e.0 ≡ true) heads (same_cell-refl e.0))) in
    ap₂ (λ g u. g ∷ u) (λ i. (heads i, first i)) (same_state s t tails d.1 (λ x. later x))
  where
    later : (x : CellRef) → value s x ≡ value t x
    later x = at (same_cell e.0 x) refl
      where
        at : (b : Bool) → same_cell e.0 x ≡ b → value s x ≡ value t x
        at false p =
            sym (cond-false (same_cell e.0 x) e.1 (value s x) p)
            ∙ (h x ∙ cond-false (same_cell f.0 x) f.1 (value t x) (subst (λ z. same_cell z x ≡ false) heads p))
          where
            heads : e.0 ≡ f.0
            heads = cc
        at true p =
            value_missing s x (λ i. d.0 (subst (IsIn (keys s)) (sym (same_cell-true e.0 x p)) i))
            ∙ sym (value_missing t x (λ i. d.0 (subst (λ ks. IsIn ks e.0) (sym tails) (subst (IsIn (keys t)) (sym (same_cell-true e.0 x p)) i))))
          where
            tails : keys s ≡ keys t
            tails = cc

-- a cell is one of these, or isn't
pub is_touched : (xs : List CellRef) (x : CellRef) → IsIn xs x ⊎ (IsIn xs x → ⊥)
is_touched xs x =
    elim (list_any (same_cell x) xs) as (λ b. list_any (same_cell x) xs ≡ b → IsIn xs x ⊎ (IsIn xs x → ⊥)) [
      | true ↦ λ p. let r = any_in (same_cell x) xs p in inl (subst (IsIn xs) (sym (same_cell-true x r.0 r.2)) r.1)
      | false ↦ λ p. inr (λ i. let a : same_cell x x ≡ false = none_in (same_cell x) xs x p i in let b : same_cell x x ≡ true = same_cell-refl x in cc)
    ] refl

-- one row of the captured cells
pub same_row : (captured : List CellRef) (s t : State) → ((y : CellRef) → IsIn captured y → value s y ≡ value t y) → map (value s) captured ≡ map (value t) captured
same_row [] s t h = refl
same_row (x ∷ xs) s t h = ap₂ (λ v vs. v ∷ vs) (h x (inl refl)) (same_row xs s t (λ y i. h y (inr i)))
