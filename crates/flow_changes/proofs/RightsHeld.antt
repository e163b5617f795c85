-- Attributes and methods that a right lists, one by one.
use Rattle.std.specs.Prelude.{◌≡◌, ℕ, suc, ◌==◌, ◌+◌, ◌-◌, ◌<◌, Bool, true, ◌&&◌, List, [], ◌∷◌, ◌++◌, Option, Some, filter, map}
use Rattle.std.specs.List.{range_with_len}
use Rattle.std.proofs.Common.{sym, ap, ◌∙◌, append_assoc, arith}
use Rattle.std.proofs.lemmas.List.{map-append}
use Rattle.std.proofs.lemmas.List.Elements.{filter-append}
use Rattle.cosem_data.specs.Cells.{cell}
use Rattle.cosem_data.specs.declared.cell.CellRef.{CellRef}
use Rattle.cosem_data.specs.declared.name.LogicalName.{LogicalName}
use Rattle.meter_theory.specs.Lists.{some_passes}
use Rattle.meter_theory.specs.Plan.{Plan, class_of, object_at}
use Rattle.flow_map.specs.Outline.{AtName}
use Rattle.meter_theory.specs.Rights as ways
use Rattle.meter_theory.specs.declared.flow.Access.{Access}
use Rattle.flow_changes.specs.Singles.{is_held}

-- a right of the client where an object of the class stands
pub held-is : (P : Plan) (o : Option ℕ) (c : ℕ) (access : Access) (x : CellRef) (i : AtName) (b r : Bool) → o ≡ Some c → i ≡ record { plan = P; name = x.name } →
    b ≡ some_passes (λ o. class_of o.part == x.class_id) (object_at i.plan i.name) → b ≡ true → r ≡ ways.is_granted i.plan c access i.name x.index → r ≡ is_held P o access x
held-is P o c access x i b r some at of_class stands granted =
    granted ∙ ap (λ j. ways.is_granted j.plan c access j.name x.index) at
    ∙ ap (λ z. z && ways.is_granted P c access x.name x.index) (sym (sym (of_class ∙ ap (λ j. some_passes (λ o. class_of o.part == x.class_id) (object_at j.plan j.name)) at) ∙ stands))
    ∙ ap (λ p. is_held P p access x) (sym some)

-- one index more
pub members-more : {A : Type 0} (f : CellRef → A) (t : CellRef → Bool) (class_id : ℕ) (name : LogicalName) (i h : ℕ) (before new all : List A) → i < h →
    before ++ map f (filter t (map (cell class_id name) (range_with_len (i + 1) (h - i)))) ≡ all →
    new ≡ before ++ map f (filter t (cell class_id name (i + 1) ∷ [])) →
    new ++ map f (filter t (map (cell class_id name) (range_with_len (i + 1 + 1) (h - (i + 1))))) ≡ all
members-more f t class_id name i h before new all less so_far put =
    let x : CellRef = cell class_id name (i + 1) in
    let rest : List CellRef = map (cell class_id name) (range_with_len (i + 1 + 1) (h - (i + 1))) in
    let step : h - i ≡ suc (h - (i + 1)) = omega arith in
    ap (λ z. z ++ map f (filter t rest)) put
    ∙ append_assoc before (map f (filter t (x ∷ []))) (map f (filter t rest))
    ∙ ap (λ z. before ++ z) (sym (map-append f (filter t (x ∷ [])) (filter t rest)) ∙ ap (map f) (sym (filter-append t (x ∷ []) rest)))
    ∙ ap (λ n. before ++ map f (filter t (map (cell class_id name) (range_with_len (i + 1) n)))) (sym step)
    ∙ so_far
