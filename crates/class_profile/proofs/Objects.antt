-- A value of capture_objects, element by element.
use Rattle.std.proofs.Common.{◌≡◌, ◌<◌, ◌↔◌, ℕ, Bool, true, false, ◌+◌, List, [], ◌∷◌, ◌++◌, length, map, take, get_or, sym, ap, ap₂, ◌∙◌, arith}
use Rattle.std.proofs.lemmas.List.{get_or-map, map-append, take_more}
use Rattle.std.proofs.lemmas.Bool.{false≢true}
use Rattle.cosem_data.specs.Tree.{Tree}
use Rattle.cosem_data.specs.Equal.{same_tree, same_tree-true, same_tree-refl, same_parts, same_parts-Decides}
use Rattle.std.specs.Bool.{IsTrue, one_answer}
use Rattle.cosem_data.specs.View.{tree}
use Rattle.cosem_data.specs.declared.data.Data.{Data}
use Rattle.cosem_data.specs.declared.cell.CellRef.{CellRef}
use Rattle.meter_theory.specs.Menus.{capture_object}

module _ (values : List Data) (cells : List CellRef) (i : ℕ) (value d' : Data) (x d : CellRef) (lt : i < length values) (len : length values ≡ length cells)
    (at_value : value ≡ get_or values i d') (at_cell : x ≡ get_or cells i d) (answer : Bool) (is : answer ≡ same_tree (capture_object x) (tree value)) where
  here : i < length cells
  here = omega arith

  -- an element that differs
  pub other_element : answer ≡ false → map tree values ≡ map capture_object cells → ⊥
  other_element differs e =
      let same : tree value ≡ capture_object x =
      ap tree at_value ∙ sym (get_or-map tree values i d' (tree d') lt) ∙ ap (λ ts. get_or ts i (tree d')) e
      ∙ get_or-map capture_object cells i d (tree d') here ∙ ap capture_object (sym at_cell) in
      absurd (false≢true (sym differs ∙ is ∙ ap (same_tree (capture_object x)) same ∙ same_tree-refl (capture_object x)))

  -- one more equal element
  pub one_more_element : answer ≡ true → map tree (take i values) ≡ map capture_object (take i cells) → map tree (take (i + 1) values) ≡ map capture_object (take (i + 1) cells)
  one_more_element equal e =
      let same : tree value ≡ capture_object x = sym (same_tree-true (capture_object x) (tree value) (sym is ∙ equal)) in
      ap (map tree) (take_more values i d' lt) ∙ map-append tree (take i values) (get_or values i d' ∷ [])
      ∙ ap₂ (λ ts t. ts ++ t ∷ []) e (ap tree (sym at_value) ∙ same ∙ ap capture_object at_cell)
      ∙ sym (map-append capture_object (take i cells) (get_or cells i d ∷ [])) ∙ ap (map capture_object) (sym (take_more cells i d here))

-- a list of parts that is one of two is the other
pub same_objects : (answer : Bool) (values objects : List Tree) → (IsTrue answer ↔ (values ≡ objects)) → answer ≡ same_parts objects values
same_objects answer values objects is = one_answer answer (same_parts objects values) (λ t. sym (is.0 t), λ e. is.1 (sym e)) (same_parts-Decides objects values)
