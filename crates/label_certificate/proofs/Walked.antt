-- The clients that a walk lets influence cells.
use Rattle.std.specs.Prelude.{◌≡◌, ℕ, Bool, true, false, ◌&&◌, ◌||◌, List, [], ◌∷◌, ◌++◌, length}
use Rattle.std.specs.List.{FoldsTo}
use Rattle.std.proofs.Common.{refl, sym, ap, subst, ◌∙◌}
use Rattle.std.proofs.lemmas.Fn.{chained_keeps}
use Rattle.std.proofs.lemmas.List.{flat_map_more}
use Rattle.std.proofs.lemmas.List.Folds.{list_any-append}
use Rattle.cosem_data.specs.Cells.{same_cell}
use Rattle.cosem_data.specs.declared.cell.CellRef.{CellRef}
use Rattle.cosem_data.specs.declared.clients.ClientSet.{ClientSet}
use Rattle.meter_theory.specs.Edges.{among}
use Rattle.meter_theory.specs.Labels.{has}
use Rattle.meter_theory.specs.Plan.{Plan, cells}
use Rattle.meter_theory.specs.Steps.{Effect, changed, changed_by}
use Rattle.label_certificate.specs.Granted.{AreJoined, by_clients}
use Rattle.label_certificate.specs.Joining.{JoinsMore}
use Rattle.label_certificate.specs.declared.joining.Joining.{Joining}
use Rattle.label_certificate.proofs.Joins.{joined-both, joined-nothing}

-- from there on the clients may influence the cells that these effects change
pub record AllJoined (P : Plan) (clients : ClientSet) (begun : Joining) (effects : List Effect) (done : Joining) : Type 0 where
  pub same_clients : done.clients ≡ clients
  pub same_reference : done.labels.ghost_name ≡ begun.labels.ghost_name
  pub size : length done.labels.now ≡ length begun.labels.now
  pub labels : AreJoined P (by_clients clients (changed effects)) begun.labels.now done.labels.now

at-none : (clients : ClientSet) (c : ℕ) (x : CellRef) → by_clients clients [] c x ≡ false
at-none clients c x = at (has clients c)
  where
    at : (b : Bool) → (b && false) ≡ false
    at true = refl
    at false = refl

at-both : (clients : ClientSet) (xs ys : List CellRef) (c : ℕ) (x : CellRef) → by_clients clients (xs ++ ys) c x ≡ (by_clients clients xs c x || by_clients clients ys c x)
at-both clients xs ys c x = ap (λ b. has clients c && b) (list_any-append (same_cell x) xs ys) ∙ at (has clients c) (among xs x) (among ys x)
  where
    at : (h a b : Bool) → (h && (a || b)) ≡ ((h && a) || (h && b))
    at true a b = refl
    at false a b = refl

joins-more : (P : Plan) (clients : ClientSet) (begun : Joining) → length begun.labels.now ≡ length (cells P) → (effects : List Effect) (now : Joining) (e : Effect) (next : Joining) →
    AllJoined P clients begun effects now → JoinsMore P now e next → AllJoined P clients begun (effects ++ e ∷ []) next
joins-more P clients begun each effects now e next so_far step = record {
  same_clients = step.clients ∙ so_far.same_clients;
  same_reference = step.same_reference ∙ so_far.same_reference;
  size = step.size ∙ so_far.size;
  labels =
      joined-both P (by_clients clients (changed effects)) (by_clients clients (changed_by e)) (by_clients clients (changed (effects ++ e ∷ [])))
      begun.labels.now now.labels.now next.labels.now
      (λ c x. ap (λ xs. by_clients clients xs c x) (sym (flat_map_more changed_by [] effects e)) ∙ at-both clients (changed effects) (changed_by e) c x)
      so_far.labels
      (subst (λ cs. AreJoined P (by_clients cs (changed_by e)) now.labels.now next.labels.now) so_far.same_clients (step.labels (so_far.size ∙ each)));
}

-- a walk lets its clients influence all that its effects change
pub walk-joins : (P : Plan) (clients : ClientSet) (effects : List Effect) (begun done : Joining) → length begun.labels.now ≡ length (cells P) → begun.clients ≡ clients →
    FoldsTo (JoinsMore P) begun effects done → AllJoined P clients begun effects done
walk-joins P clients effects begun done each own walk =
    chained_keeps (JoinsMore P) (AllJoined P clients begun) (joins-more P clients begun each) effects begun done
    (record { same_clients = own; same_reference = refl; size = refl; labels = joined-nothing P (by_clients clients []) begun.labels.now (at-none clients) })
    walk
