-- Labels of cells, and what makes a plan and its labels admissible.
use Rattle.std.specs.Prelude.{◌≡◌, ◌⊎◌, ℕ, ◌^◌, ◌%◌, ◌==◌, Bool, true, not, ◌&&◌, ◌||◌, cond, List, [], ◌∷◌, Option, Some, None, flat_map}
use Rattle.std.specs.List.{list_all, range_with_len}
use Rattle.std.specs.Int.Bits.{bit_or}
use Rattle.std.proofs.Common.{lit<}
use Rattle.std.proofs.Math.Nat.{mod-lt}
use Rattle.std.proofs.lemmas.Nat.{or_lt}
use Rattle.cosem_data.specs.declared.clients.ClientSet.{ClientSet}
use Rattle.cosem_data.specs.Clients.{has_client}
use Rattle.meter_theory.specs.Lists.{IsIn, for_some}
use Rattle.meter_theory.specs.declared.limits.TheConstants as limits
use Rattle.cosem_data.specs.declared.cell.CellRef.{CellRef}
use Rattle.cosem_data.specs.Cells.{same_cell}
use Rattle.meter_theory.specs.Plan.{Plan, Object, Script, Part, ScriptTable, RegisterMonitor, object_at, cells, inner_clock}
use Rattle.cosem_data.specs.declared.cell.MethodRef.{MethodRef}
use Rattle.meter_theory.specs.Rights.{may_get, may_set, may_act}
use Rattle.meter_theory.specs.Steps.{changed_by_write, changed, actions_effects, plain_method, Effect}
use Rattle.meter_theory.specs.declared.flow.Edge.{Edge}
use Rattle.meter_theory.specs.declared.flow.Label.{Label}
use Rattle.meter_theory.specs.Edges.{IsEdge}

-- the client is in the set
abbrev pub has : ClientSet → ℕ → Bool
has cs c = has_client cs c

-- each client of the one set is in the other
unfoldable pub within : ClientSet → ClientSet → Bool
within cs ds = list_all (λ c. not (has cs c) || has ds c) (range_with_len 0 limits.CLIENTS)

abbrev pub nobody : ClientSet
nobody = record { mask = 0; in_range = lit< tt }

-- the set with the client at this place; no set has clients from 16 on (own profile)
abbrev pub with_client : ClientSet → ℕ → ClientSet
with_client set client =
    record { mask = bit_or set.mask (2 ^ client % 2 ^ 16); in_range = or_lt 16 set.mask (2 ^ client % 2 ^ 16) set.in_range (mod-lt (2 ^ client) (lit< tt)) }

-- a certificate: a label for each cell of a list of cells, in its order
abbrev pub Labels : Type 0
Labels = List (CellRef × Label)

abbrev pub label_at : Labels → CellRef → Option Label
label_at [] x = None
label_at (l ∷ ls) x = cond (same_cell l.0 x) (Some l.1) (label_at ls x)

-- a label for every cell there is
abbrev pub Labelling : Type 0
Labelling = CellRef → Label

abbrev pub or_else : Label → Option Label → Label
or_else default None = default
or_else default (Some l) = l

-- a policy: a table of labels, and the one of all other cells
pub record Policy : Type 0 where
  pub table : Labels
  pub default : Label

abbrev pub monitored_or : CellRef → Part → CellRef
monitored_or x (RegisterMonitor monitored th actions) = monitored
monitored_or x _ = x

abbrev pub monitored_of : CellRef → Option Object → CellRef
monitored_of x None = x
monitored_of x (Some o) = monitored_or x o.part

-- the cell whose label the policy takes for x: for seen that is the monitored cell
abbrev pub policy_source : Plan → CellRef → CellRef
policy_source P x = cond (x.index == 0) (monitored_of x (object_at P x.name)) x

abbrev pub labelling_of_policy : Plan → Policy → Labelling
labelling_of_policy P policy x = or_else policy.default (label_at policy.table (policy_source P x))

-- a cell that the labels lack is influenced and learned by nobody
abbrev pub labelling_of : Labels → Labelling
labelling_of labels x = or_else (record { influence = nobody; learn = nobody }) (label_at labels x)

-- Who may influence and who may learn a cell, by a labelling. Of the inner clock no labelling says it: nobody may influence
-- it, and everybody may learn it (own profile).
abbrev pub may_influence : Labelling → ℕ → CellRef → Bool
may_influence Q c x = not (same_cell inner_clock x) && has (Q x).influence c

abbrev pub may_learn : Labelling → ℕ → CellRef → Bool
may_learn Q c x = same_cell inner_clock x || has (Q x).learn c

-- the effects of each script of a table
abbrev pub all_scripts : Plan → List Script → List Effect
all_scripts P scripts = flat_map (λ s. actions_effects P s.actions) scripts

-- the effects that calls of a method have, whatever they are given: of execute those of each script of its table
abbrev pub calls_in : Plan → MethodRef → Part → List Effect
calls_in P m (ScriptTable scripts) = all_scripts P scripts
calls_in P m part = plain_method m.name part m.index

abbrev pub calls_effects : Plan → MethodRef → List Effect
calls_effects P m = for_some (object_at P m.name) (λ o. calls_in P m o.part)

-- the cells that a method changes; execute changes all that a script of its table changes
abbrev pub method_changes_of : Plan → MethodRef → List CellRef
method_changes_of P m = changed (calls_effects P m)

-- The client has a right that changes the cell.
abbrev pub MayChange : Plan → ℕ → CellRef → Type 0
MayChange P c x =
    ((y : CellRef) × IsIn (cells P) y × (may_set P c y ≡ true) × IsIn (changed_by_write y) x)
    ⊎ ((m : MethodRef) × (may_act P c m ≡ true) × IsIn (method_changes_of P m) x)

-- What a plan asks of labels: every cell has one, who has a right that changes a cell may influence it, who may read it may
-- learn it, and no client is lost along an edge.
pub record Covers (P : Plan) (labels : Labels) : Type 0 where
  pub labelled : (x : CellRef) → IsIn (cells P) x → (l : Label) × (label_at labels x ≡ Some l)
  pub changers : (c : ℕ) (x : CellRef) → MayChange P c x → has (labelling_of labels x).influence c ≡ true
  pub readers : (c : ℕ) (x : CellRef) → IsIn (cells P) x → may_get P c x ≡ true → has (labelling_of labels x).learn c ≡ true
  pub influence_flows : (e : Edge) → IsEdge P e → within (labelling_of labels e.source).influence (labelling_of labels e.target).influence ≡ true
  pub learn_flows : (e : Edge) → IsEdge P e → within (labelling_of labels e.target).learn (labelling_of labels e.source).learn ≡ true

-- An admissible labelling of a plan: what the plan asks for, within a policy.
pub record Admits (P : Plan) (policy : Labelling) (labels : Labels) : Type 0 where
  pub covers : Covers P labels
  pub influence_within : (x : CellRef) → IsIn (cells P) x → within (labelling_of labels x).influence (policy x).influence ≡ true
  pub learn_within : (x : CellRef) → IsIn (cells P) x → within (labelling_of labels x).learn (policy x).learn ≡ true

-- each set of the one labelling of the plan's cells lies within that of the other
abbrev pub LieWithin : Plan → Labels → Labels → Type 0
LieWithin P labels others = (x : CellRef) → IsIn (cells P) x →
    (within (labelling_of labels x).influence (labelling_of others x).influence ≡ true)
    × (within (labelling_of labels x).learn (labelling_of others x).learn ≡ true)

-- The least labels: they cover the plan, and lie within all that do.
pub record AreLeast (P : Plan) (labels : Labels) : Type 0 where
  pub covers : Covers P labels
  pub least : (others : Labels) → Covers P others → LieWithin P labels others
