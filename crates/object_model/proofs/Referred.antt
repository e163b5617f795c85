-- That to which the objects of a sound plan refer.
use Rattle.std.proofs.Common.{◌≡◌, ◌∙◌, ℕ, Bool, true, refl, sym, ap, ap₂, subst, inl, inr, map, List, Option, Some, None}
use Rattle.std.specs.List.{position_from}
use Rattle.std.specs.Prelude.{option_map, option_and_then, slice_get}
use Rattle.std.proofs.lemmas.Bool.{false≢true}
use Rattle.std.proofs.lemmas.Option.{slice_get-map}
use Rattle.cosem_data.proofs.Same.{same_cell-refl}
use Rattle.cosem_data.specs.Cells.{cell, same_cell, same_name}
use Rattle.cosem_data.specs.Kinds.{kind_of}
use Rattle.cosem_data.specs.declared.cell.CellRef.{CellRef}
use Rattle.cosem_data.specs.declared.name.LogicalName.{LogicalName}
use Rattle.meter_theory.specs.Edges.{captured_by, scripts_named}
use Rattle.meter_theory.specs.Lists.{IsIn, for_some, some_passes}
use Rattle.meter_theory.specs.Plan.{Plan, Object, Action, Script, Write, Invoke, Part, Data1, Register, ProfileGeneric, Clock, ScriptTable, RegisterMonitor, SingleActionSchedule, cells, object_at, start_values}
use Rattle.meter_theory.specs.State.{value}
use Rattle.meter_theory.specs.Sound.{IsSound, IsSoundPart, scripts_run_by}
use Rattle.meter_theory.specs.Steps.{scripts_of, captures_in}
use Rattle.meter_theory.specs.Menus.{alternatives}
use Rattle.meter_theory.proofs.Lists.{from_map, from_flat_map, in_any}
use Rattle.object_model.specs.Grants.{place_in}
use Rattle.object_model.specs.InstanceView.{AtName}
use Rattle.object_model.specs.PartView.{monitored_in, monitored_kind}
use Rattle.cosem_class.specs.Parts.{references, target}
use Rattle.object_model.specs.Tables.{references_at, AreReferences}
use Rattle.object_model.proofs.ByObject.{cell-none, position-map}
use Rattle.object_model.proofs.Positions.{first, first-none, placed}

abbrev pub IsHeld : Plan → LogicalName → Type 0
IsHeld P n = (o : Object) × (object_at P n ≡ Some o)

cell-held : (P : Plan) (x : CellRef) → IsIn (cells P) x → IsHeld P x.name
cell-held P x i = at (object_at P x.name) refl
  where
    at : (f : Option Object) → object_at P x.name ≡ f → IsHeld P x.name
    at None is = absurd (false≢true (sym (cell-none P x is) ∙ in_any (same_cell x) (cells P) x i (same_cell-refl x)))
    at (Some o) is = (o, is)

pub passing-held : (P : Plan) (test : Object → Bool) (n : LogicalName) → some_passes test (object_at P n) ≡ true → IsHeld P n
passing-held P test n h = at (object_at P n) refl h
  where
    at : (f : Option Object) → object_at P n ≡ f → some_passes test f ≡ true → IsHeld P n
    at None is g = cc
    at (Some o) is g = (o, is)

reference-held : (P : Plan) → IsSound P → (o : Object) → IsIn P.objects o → (n : LogicalName) (p : Part) → o.part ≡ p → IsIn (references p) n → IsHeld P n
reference-held P sound o there n (Data1 start) is i = absurd i
reference-held P sound o there n (Register start default scaler_unit) is i = absurd i
reference-held P sound o there n (ProfileGeneric captured period entries) is i =
    let x = from_map (λ x. x.name) (captured_by captured) n i in
    subst (IsHeld P) (sym x.2) (cell-held P x.0 (sound.captures o there _ (ap captures_in is) x.0 x.1).0)
reference-held P sound o there n (Clock first) is i = absurd i
reference-held P sound o there n (ScriptTable scripts) is i =
    let s = from_flat_map (λ s. map target s.actions) scripts n i in
    let a = from_map target s.0.actions n s.2 in
    subst (IsHeld P) (sym a.2) (target-held s.0 (subst (λ p. IsIn (scripts_of p) s.0) (sym is) s.1) a.0 a.1)
  where
    target-held : (s : Script) → IsIn (scripts_of o.part) s → (a : Action) → IsIn s.actions a → IsHeld P (target a)
    target-held s j (Write x v) k = cell-held P x (sound.writes o there s j x v k).cell
    target-held s j (Invoke m parameter) k = passing-held P _ m.name (sound.calls o there s j m parameter k)
reference-held P sound o there n (RegisterMonitor monitored thresholds actions) is (inl same) =
    subst (IsHeld P) (sym same) (cell-held P monitored (subst (IsSoundPart P) is (sound.parts o there)).0)
reference-held P sound o there n (RegisterMonitor monitored thresholds actions) is (inr i) =
    let r = from_map (λ r. r.table) (scripts_named actions) n i in
    subst (IsHeld P) (sym r.2) (passing-held P _ r.0.table (sound.references o there r.0 (subst (λ p. IsIn (scripts_run_by p) r.0) (sym is) r.1)))
reference-held P sound o there n (SingleActionSchedule script type times) is i =
    let r = from_map (λ r. r.table) (alternatives script) n i in
    subst (IsHeld P) (sym r.2) (passing-held P _ r.0.table (sound.references o there r.0 (subst (λ p. IsIn (scripts_run_by p) r.0) (sym is) r.1)))

-- each reference of a sound plan has a number
pub reference-placed : (P : Plan) → IsSound P → (o : Object) → IsIn P.objects o → (n : LogicalName) → IsIn (references o.part) n → (k : ℕ) × (place_in (map (λ o. o.name) P.objects) n ≡ Some k)
reference-placed P sound o there n i =
    let held = reference-held P sound o there n o.part refl i in
    let at = placed (λ o. same_name o.name n) P.objects held.0 held.1 in
    (at.0, position-map P.objects n 0 ∙ at.1)

-- what stands in the table of references
pub reference-at : (P : Plan) (names : List LogicalName) (numbers : List (List ℕ)) (number place : ℕ) → names ≡ map (λ o. o.name) P.objects → AreReferences names P.objects numbers →
    option_map (λ k. Some k) (option_and_then (λ l. slice_get l place) (slice_get numbers number))
    ≡ option_map (λ n. position_from (λ o. same_name o.name n) 0 P.objects) (option_and_then (λ o. slice_get (references o.part) place) (slice_get P.objects number))
reference-at P names numbers number place named is =
    at (slice_get numbers number) (slice_get P.objects number)
    (sym (slice_get-map (map Some) numbers number) ∙ ap (λ t. slice_get t number) is ∙ slice_get-map (λ o. map (place_in names) (references o.part)) P.objects number)
  where
    by_object : (n : Option LogicalName) → option_map (place_in names) n ≡ option_map (λ n. position_from (λ o. same_name o.name n) 0 P.objects) n
    by_object None = refl
    by_object (Some n) = ap Some (ap (λ ns. place_in ns n) named ∙ position-map P.objects n 0)

    at : (l : Option (List ℕ)) (o : Option Object) → option_map (map Some) l ≡ option_map (λ o. map (place_in names) (references o.part)) o →
        option_map (λ k. Some k) (option_and_then (λ l. slice_get l place) l)
        ≡ option_map (λ n. position_from (λ o. same_name o.name n) 0 P.objects) (option_and_then (λ o. slice_get (references o.part) place) o)
    at None None h = refl
    at None (Some o) h = cc
    at (Some l) None h = cc
    at (Some l) (Some o) h =
        let same : map Some l ≡ map (place_in names) (references o.part) = cc in
        sym (slice_get-map Some l place) ∙ ap (λ t. slice_get t place) same ∙ slice_get-map (place_in names) (references o.part) place ∙ by_object (slice_get (references o.part) place)

-- the same for the object that has this number and name
reference-of : (P : Plan) (n : LogicalName) (k place : ℕ) → Some k ≡ position_from (λ o. same_name o.name n) 0 P.objects →
    option_and_then (λ o. slice_get (references o.part) place) (slice_get P.objects k) ≡ slice_get (references_at P n) place
reference-of P n k place is =
    ap (option_and_then (λ o. slice_get (references o.part) place)) (sym (first (λ o. same_name o.name n) P.objects k (sym is)).found) ∙ of (object_at P n)
  where
    of : (f : Option Object) → option_and_then (λ o. slice_get (references o.part) place) f ≡ slice_get (for_some f (λ o. references o.part)) place
    of None = refl
    of (Some o) = refl

-- what has no number refers to nothing
pub reference-none : (P : Plan) (n : LogicalName) (place : ℕ) → None ≡ position_from (λ o. same_name o.name n) 0 P.objects → slice_get (references_at P n) place ≡ None
reference-none P n place is = ap (λ f. slice_get (for_some f (λ o. references o.part)) place) (first-none (λ o. same_name o.name n) P.objects (sym is))

-- nor what has no reference at a place
pub unreferred : (P : Plan) (n : LogicalName) (number place : ℕ) → Some number ≡ position_from (λ o. same_name o.name n) 0 P.objects →
    None ≡ option_map (λ m. position_from (λ o. same_name o.name m) 0 P.objects) (option_and_then (λ o. slice_get (references o.part) place) (slice_get P.objects number)) →
    slice_get (references_at P n) place ≡ None
unreferred P n number place is h = sym (reference-of P n number place is) ∙ at (option_and_then (λ o. slice_get (references o.part) place) (slice_get P.objects number)) h
  where
    at : (r : Option LogicalName) → None ≡ option_map (λ m. position_from (λ o. same_name o.name m) 0 P.objects) r → r ≡ None
    at None g = refl
    at (Some m) g = cc

-- a name to which an object refers, and what has it
pub record IsReference (P : Plan) (n : LogicalName) (place k : ℕ) : Type 0 where
  pub name : LogicalName
  pub there : slice_get (references_at P n) place ≡ Some name
  pub number : Some k ≡ position_from (λ o. same_name o.name name) 0 P.objects

pub is_reference : (P : Plan) (n : LogicalName) (number place k : ℕ) → Some number ≡ position_from (λ o. same_name o.name n) 0 P.objects →
    Some (Some k) ≡ option_map (λ m. position_from (λ o. same_name o.name m) 0 P.objects) (option_and_then (λ o. slice_get (references o.part) place) (slice_get P.objects number)) →
    IsReference P n place k
is_reference P n number place k from h = at (option_and_then (λ o. slice_get (references o.part) place) (slice_get P.objects number)) (sym (reference-of P n number place from)) h
  where
    at : (r : Option LogicalName) → slice_get (references_at P n) place ≡ r → Some (Some k) ≡ option_map (λ m. position_from (λ o. same_name o.name m) 0 P.objects) r → IsReference P n place k
    at None is g = cc
    at (Some m) is g =
        let number : Some k ≡ position_from (λ o. same_name o.name m) 0 P.objects = cc in
        record { name = m; there = is; number = number }

-- what a register monitor refers to first is what it watches
pub watched : (P : Plan) (n : LogicalName) (part : Part) (m : CellRef) (source : AtName) → option_map (λ o. o.part) (object_at P n) ≡ Some part → Some m ≡ monitored_in part →
    Some source ≡ option_map (λ name. record { plan = P; name = name }) (slice_get (references_at P n) 0) → kind_of (value (start_values source.plan) (cell m.class_id source.name m.index)) ≡ monitored_kind P part
watched P n part m source is watches there = at (object_at P n) is there
  where
    of : (p : Part) → Some m ≡ monitored_in p → Some source ≡ option_map (λ name. record { plan = P; name = name }) (slice_get (references p) 0) →
        kind_of (value (start_values source.plan) (cell m.class_id source.name m.index)) ≡ monitored_kind P p
    of (RegisterMonitor monitored thresholds actions) e h =
        let same : m ≡ monitored = cc in
        let here : source ≡ record { plan = P; name = monitored.name } = cc in
        ap₂ (λ (x : CellRef) (i : AtName). kind_of (value (start_values i.plan) (cell x.class_id i.name x.index))) same here
    of p e h = cc

    at : (f : Option Object) → option_map (λ o. o.part) f ≡ Some part → Some source ≡ option_map (λ name. record { plan = P; name = name }) (slice_get (for_some f (λ o. references o.part)) 0) →
        kind_of (value (start_values source.plan) (cell m.class_id source.name m.index)) ≡ monitored_kind P part
    at None e h = cc
    at (Some o) e h =
        let same : o.part ≡ part = cc in
        of part watches (h ∙ ap (λ p. option_map (λ name. record { plan = P; name = name }) (slice_get (references p) 0)) same)
