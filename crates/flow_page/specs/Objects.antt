-- The objects of a plan, and the rights on them.
use Rattle.std.specs.Prelude.{ℕ, ◌+◌, Bool, false, cond, nat_le, List, [], ◌∷◌, count_by, flat_map, get_or, length, map}
use Rattle.std.specs.List.{range_with_len}
use Rattle.cosem_data.specs.declared.name.LogicalName.{LogicalName}
use Rattle.meter_theory.specs.Edges.{same_cause}
use Rattle.meter_theory.specs.Plan.{Object, Plan, ScriptTable, interface_of}
use Rattle.meter_theory.specs.Rights.{in_view}
use Rattle.meter_theory.specs.declared.flow.Cause.{Cause}
use Rattle.meter_theory.specs.declared.flow.Cause.TheVariants as cause
use Rattle.meter_theory.specs.declared.flow.Edge.{Edge}
use Rattle.meter_theory.specs.Rights.{highest_for, is_granted}
use Rattle.meter_theory.specs.declared.flow.Access.{Access}
use Rattle.meter_theory.specs.declared.flow.Access.TheVariants.{Get, Set, Act}
use Rattle.flow_page.specs.declared.objects.Held.{Held}
use Rattle.flow_page.specs.declared.objects.ObjectRow.{ObjectRow}
use Rattle.flow_page.specs.declared.page.CauseCount.{CauseCount}
use Rattle.flow_page.specs.Rows.{AreAlike}
use Rattle.flow_page.specs.declared.view.keys.ObjectKey.{ObjectKey}
use Rattle.flow_page.specs.declared.view.limits.TheConstants.{EDGES}

-- the object at a place
abbrev pub object_at : Plan → ℕ → Object
object_at P k = get_or P.objects k (record { name = record { 0 = [] }; fed = false; part = ScriptTable [] })

-- What clients may do

-- this index, if rights allow it: own profile
abbrev pub index_if : (ℕ → Bool) → ℕ → List ℕ
index_if test k = cond (test (k + 1)) ((k + 1) ∷ []) []

-- those that rights allow, joined, from the least on: own profile
abbrev pub indexes : Plan → Object → ℕ → Access → List ℕ
indexes P o c access = flat_map (index_if (is_granted P c access o.name)) (range_with_len 0 (highest_for access (interface_of o.part)))

-- what a client may do with an object: own profile
pub record HeldShown : Type 0 where
  pub sees : Bool
  pub gets : List ℕ
  pub sets : List ℕ
  pub acts : List ℕ

abbrev pub held_shown : Held → HeldShown
held_shown held = record { sees = held.sees; gets = held.gets.items; sets = held.sets.items; acts = held.acts.items }

abbrev pub held_of : Plan → Object → ℕ → HeldShown
held_of P o c = record { sees = in_view P c o.name; gets = indexes P o c Get; sets = indexes P o c Set; acts = indexes P o c Act }

-- Rows

-- what the objects of a row have alike: their class, whether inputs from outside go to them, and what each client may do with them
-- (own profile)
pub record ObjectFacts : Type 0 where
  pub class_id : ℕ
  pub is_fed : Bool
  pub held : List HeldShown

abbrev pub object_facts : ObjectKey → ObjectFacts
object_facts key = record { class_id = key.class_id; is_fed = key.is_fed; held = map held_shown key.held.items }

abbrev pub object_key : Plan → ℕ → ObjectFacts
object_key P k =
    let o = object_at P k in
    record { class_id = (interface_of o.part).class_id; is_fed = o.fed; held = map (held_of P o) (range_with_len 0 (length P.clients)) }

-- the numbers of the objects of each row: those that are alike share one, where there are many
abbrev pub AreObjectRows : Plan → List (List ℕ) → Type 0
AreObjectRows P rows = AreAlike (object_key P) (length P.objects) rows

-- what is told of the objects of a row: own profile
pub record ObjectShown : Type 0 where
  pub names : List LogicalName
  pub alike : ObjectFacts

abbrev pub object_shown : ObjectRow → ObjectShown
object_shown row = record { names = row.names.items; alike = record { class_id = row.class_id; is_fed = row.is_fed; held = map held_shown row.held.items } }

-- their names, and what they have alike, by the first: own profile
abbrev pub object_row : Plan → List ℕ → ObjectShown
object_row P row = record { names = map (λ k. (object_at P k).name) row; alike = object_key P (get_or row 0 0) }

-- Edges

-- in this order causes are told: own profile
abbrev pub causes : List Cause
causes = cause.Monitored ∷ cause.Monitor ∷ cause.Captured ∷ cause.Menu ∷ cause.Period ∷ cause.Schedule ∷ cause.Clock ∷ []

abbrev pub cause_count : List Edge → Cause → CauseCount
cause_count es cause = record { cause = cause; edges = count_by (λ e. same_cause e.cause cause) es }

-- the edges, if there are 500 at most: own profile
abbrev pub listed_edges : List Edge → List Edge
listed_edges es = cond (nat_le (length es) EDGES) es []
