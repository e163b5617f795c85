-- The six clauses of admission as tests over lists, and which one fails first.
use Rattle.std.specs.Prelude.{◌≡◌, ℕ, ◌==◌, Bool, true, false, not, ◌&&◌, ◌||◌, List, ◌∷◌, ◌++◌, map, flat_map, is_some, length}
use Rattle.std.specs.List.{list_any, range_with_len}
use Rattle.meter_theory.specs.Lists.{IsIn}
use Rattle.cosem_data.specs.declared.cell.CellRef.{CellRef}
use Rattle.meter_theory.specs.Plan.{Plan, cells}
use Rattle.meter_theory.specs.Rights.{may_get, may_set}
use Rattle.meter_theory.specs.declared.flow.Edge.{Edge}
use Rattle.meter_theory.specs.declared.flow.Refusal.{Refusal}
use Rattle.meter_theory.specs.declared.flow.Refusal.TheVariants.{NotLabelled, PastPolicy, Changer, Reader, InfluenceEscapes, LearnEscapes}
use Rattle.meter_theory.specs.Steps.{changed_by_write}
use Rattle.meter_theory.specs.Edges.{edges, among}
use Rattle.meter_theory.specs.Labels.{Labels, Labelling, label_at, labelling_of, within, has, method_changes_of}

-- the client may set a cell whose write changes x
abbrev pub may_write : Plan → ℕ → CellRef → Bool
may_write P c x = list_any (λ y. may_set P c y && among (changed_by_write y) x) (cells P)

-- the client has a right that changes the cell
abbrev pub may_change : Plan → ℕ → CellRef → Bool
may_change P c x =
    may_write P c x
    || list_any (λ r. (r.client == c) && list_any (λ i. among (method_changes_of P (record { class_id = 0; name = r.object; index = i })) x) r.acts) P.rights

-- each client with each cell, clients first
abbrev pub clients_with_cells : Plan → List (ℕ × CellRef)
clients_with_cells P = flat_map (λ c. map (λ x. (c, x)) (cells P)) (range_with_len 0 (length P.clients))

abbrev pub is_labelled : Labels → CellRef → Bool
is_labelled labels x = is_some (label_at labels x)

abbrev pub keeps_policy : Labelling → Labels → CellRef → Bool
keeps_policy policy labels x =
    within (labelling_of labels x).influence (policy x).influence && within (labelling_of labels x).learn (policy x).learn

abbrev pub admits_changer : Plan → Labels → ℕ × CellRef → Bool
admits_changer P labels cx = not (may_change P cx.0 cx.1) || has (labelling_of labels cx.1).influence cx.0

abbrev pub admits_reader : Plan → Labels → ℕ × CellRef → Bool
admits_reader P labels cx = not (may_get P cx.0 cx.1) || has (labelling_of labels cx.1).learn cx.0

abbrev pub influence_flows : Labels → Edge → Bool
influence_flows labels e = within (labelling_of labels e.source).influence (labelling_of labels e.target).influence

abbrev pub learn_flows : Labels → Edge → Bool
learn_flows labels e = within (labelling_of labels e.target).learn (labelling_of labels e.source).learn

-- each element passes
abbrev pub Pass : {A : Type 0} → (A → Bool) → List A → Type 0
Pass {A} test xs = (x : A) → IsIn xs x → test x ≡ true

-- x is the first that doesn't pass
pub record FirstFailure {A : Type 0} (test : A → Bool) (xs : List A) (x : A) : Type 0 where
  pub before : List A
  pub after : List A
  pub whole : xs ≡ before ++ x ∷ after
  pub earlier : Pass test before
  pub fails : test x ≡ false

-- The refusal names the first failure of its clause, and the clauses before it hold.
abbrev pub Refuses : Plan → Labelling → Labels → Refusal → Type 0
Refuses P policy labels (NotLabelled x) = FirstFailure (is_labelled labels) (cells P) x
Refuses P policy labels (PastPolicy x) =
    Pass (is_labelled labels) (cells P)
    × FirstFailure (keeps_policy policy labels) (cells P) x
Refuses P policy labels (Changer c x) =
    Pass (is_labelled labels) (cells P)
    × Pass (keeps_policy policy labels) (cells P)
    × FirstFailure (admits_changer P labels) (clients_with_cells P) (c, x)
Refuses P policy labels (Reader c x) =
    Pass (is_labelled labels) (cells P)
    × Pass (keeps_policy policy labels) (cells P)
    × Pass (admits_changer P labels) (clients_with_cells P)
    × FirstFailure (admits_reader P labels) (clients_with_cells P) (c, x)
Refuses P policy labels (InfluenceEscapes e) =
    Pass (is_labelled labels) (cells P)
    × Pass (keeps_policy policy labels) (cells P)
    × Pass (admits_changer P labels) (clients_with_cells P)
    × Pass (admits_reader P labels) (clients_with_cells P)
    × FirstFailure (influence_flows labels) (edges P) e
Refuses P policy labels (LearnEscapes e) =
    Pass (is_labelled labels) (cells P)
    × Pass (keeps_policy policy labels) (cells P)
    × Pass (admits_changer P labels) (clients_with_cells P)
    × Pass (admits_reader P labels) (clients_with_cells P)
    × Pass (influence_flows labels) (edges P)
    × FirstFailure (learn_flows labels) (edges P) e

-- All six clauses pass.
pub record AllPass (P : Plan) (policy : Labelling) (labels : Labels) : Type 0 where
  pub labelled : Pass (is_labelled labels) (cells P)
  pub policy_kept : Pass (keeps_policy policy labels) (cells P)
  pub changers : Pass (admits_changer P labels) (clients_with_cells P)
  pub readers : Pass (admits_reader P labels) (clients_with_cells P)
  pub influence : Pass (influence_flows labels) (edges P)
  pub learn : Pass (learn_flows labels) (edges P)
