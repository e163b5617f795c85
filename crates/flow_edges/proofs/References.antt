-- The numbers of that to which an object refers.
use Rattle.std.proofs.Common.{◌≡◌, ◌∙◌, ◌<◌, ℕ, zero, suc, Bool, true, false, List, [], ◌∷◌, length, map, get_or, find, Some, refl, sym, ap, subst, arith, inl, inr}
use Rattle.std.specs.Prelude.{slice_get, IfSome}
use Rattle.std.proofs.lemmas.Bool.{cond-true, cond-false}
use Rattle.cosem_data.specs.Cells.{same_name}
use Rattle.cosem_data.specs.declared.name.LogicalName.{LogicalName}
use Rattle.cosem_data.proofs.Same.{same_name-true, same_name-from}
use Rattle.cosem_class.specs.Parts.{references}
use Rattle.meter_theory.specs.Lists.{IsIn, AreDistinct, for_some}
use Rattle.meter_theory.specs.Plan.{Plan, Object, Part, ProfileGeneric, RegisterMonitor, object_at}
use Rattle.meter_theory.specs.declared.refs.UpDown.{UpDown}
use Rattle.cosem_data.specs.Tree.{Tree}
use Rattle.meter_theory.specs.Menus.{Choice}
use Rattle.meter_theory.specs.Steps.{captures_in, captures_of}
use Rattle.cosem_data.specs.declared.cell.CellRef.{CellRef}
use Rattle.meter_theory.specs.Sound.{IsSound, scripts_run_by}
use Rattle.meter_theory.proofs.Lists.{in_map}
use Rattle.object_model.specs.Grants.{place_in}
use Rattle.object_model.specs.Tables.{AreNumbers, AreScriptPlaces, number_at, references_at, scripts_run_at}
use Rattle.object_model.specs.declared.script_places.ScriptPlace.{ScriptPlace}
use Rattle.meter_theory.specs.Edges.{edges_in}
use Rattle.object_model.specs.InstanceView.{AtName}
use Rattle.object_model.proofs.ByObject.{position-map}
use Rattle.object_model.proofs.Numbered.{placed_under}
use Rattle.object_model.proofs.Numbers.{in-get}
use Rattle.flow_edges.specs.Sources.{HasPart}

-- an object is found by its name
pub found_own : (os : List Object) (o : Object) → AreDistinct (map (λ p. p.name) os) → IsIn os o → find (λ p. same_name p.name o.name) os ≡ Some o
found_own [] o apart none = absurd none
found_own (p ∷ os) o apart (inl same) =
    cond-true (same_name p.name o.name) (Some p) (find (λ q. same_name q.name o.name) os) (same_name-from p.name o.name (ap (λ q. q.name) (sym same))) ∙ ap Some (sym same)
found_own (p ∷ os) o apart (inr i) =
    cond-false (same_name p.name o.name) (Some p) (find (λ q. same_name q.name o.name) os) (other (same_name p.name o.name) refl) ∙ found_own os o apart.1 i
  where
    other : (b : Bool) → same_name p.name o.name ≡ b → same_name p.name o.name ≡ false
    other true is = absurd (apart.0 (subst (IsIn (map (λ q. q.name) os)) (sym (same_name-true p.name o.name is)) (in_map (λ q. q.name) os o i)))
    other false is = is

pub part_at : (P : Plan) (n : LogicalName) (part : Part) → IsSound P → (h : HasPart P n part) → object_at P n ≡ Some h.0
part_at P n part sound h = ap (object_at P) (sym h.2) ∙ found_own P.objects h.0 sound.names h.1

-- what stands under an object's number has its part
pub part-under : (P : Plan) (k : ℕ) (o : Object) (i : AtName) (part : Part) → slice_get P.objects k ≡ Some o → IfSome (slice_get P.objects k) (λ p. i ≡ record { plan = P; name = p.name }) → o.part ≡ part →
    HasPart i.plan i.name part
part-under P k o i part here under is =
    subst (λ j. HasPart j.plan j.name part) (sym (placed_under P k o i here under)) (o, in-get P.objects k o here, refl, is)

-- and makes its edges
pub edges-under : (P : Plan) (k : ℕ) (o : Object) (i : AtName) (part : Part) → slice_get P.objects k ≡ Some o → IfSome (slice_get P.objects k) (λ p. i ≡ record { plan = P; name = p.name }) → o.part ≡ part →
    edges_in i.plan i.name part ≡ edges_in P o.name o.part
edges-under P k o i part here under is = ap (λ j. edges_in j.plan j.name part) (placed_under P k o i here under) ∙ ap (edges_in P o.name) (sym is)

-- what an object refers to is what its part does
pub refers : (P : Plan) (n : LogicalName) (part : Part) → IsSound P → HasPart P n part → references_at P n ≡ references part
refers P n part sound h = ap (λ f. for_some f (λ o. references o.part)) (part_at P n part sound h) ∙ ap references h.3

-- the scripts that an object may have run are those of its part
pub runs : (P : Plan) (n : LogicalName) (part : Part) → IsSound P → HasPart P n part → scripts_run_at P n ≡ scripts_run_by part
runs P n part sound h = ap (λ f. for_some f (λ o. scripts_run_by o.part)) (part_at P n part sound h) ∙ ap scripts_run_by h.3

pub has_captures : (P : Plan) (n : LogicalName) (captured : Choice (List CellRef)) (period entries : ℕ) → IsSound P → HasPart P n (ProfileGeneric captured period entries) →
    captures_of (object_at P n) ≡ Some (record { captured = captured; entries = entries })
has_captures P n captured period entries sound h = ap captures_of (part_at P n (ProfileGeneric captured period entries) sound h) ∙ ap captures_in h.3

-- the number at a place
pub number-in : (P : Plan) (names : List LogicalName) (numbers : List ℕ) (i : ℕ) (d : LogicalName) (k : ℕ) → AreNumbers P names numbers → i < length names →
    (i < length numbers) × (number_at P.objects (get_or names i d) ≡ Some (get_or numbers i k))
number-in P [] numbers i d k are h = absurd (omega arith)
number-in P (n ∷ names) [] i d k are h = cc
number-in P (n ∷ names) (m ∷ ns) zero d k are h =
    let here : Some m ≡ place_in (map (λ o. o.name) P.objects) n = cc in
    (omega arith, sym (position-map P.objects n 0) ∙ sym here)
number-in P (n ∷ names) (m ∷ ns) (suc i) d k are h =
    let rest : AreNumbers P names ns = cc in
    let at = number-in P names ns i d k rest (omega arith) in
    (omega (arith, at.0), at.1)

-- what a monitor refers to first is what it watches
pub watched-first : (P : Plan) (n : LogicalName) (monitored : CellRef) (th : Tree) (actions : List UpDown) (numbers : List ℕ) (k : ℕ) → IsSound P → HasPart P n (RegisterMonitor monitored th actions) →
    AreNumbers P (references_at P n) numbers → (0 < length numbers) × (number_at P.objects monitored.name ≡ Some (get_or numbers 0 k))
watched-first P n monitored th actions numbers k sound h are =
    let part = RegisterMonitor monitored th actions in
    number-in P (references part) numbers 0 monitored.name k (subst (λ names. AreNumbers P names numbers) (refers P n part sound h) are) (omega arith)

-- where the scripts stand that an object may have run, by the plan or one that is it
pub places-of : (P Q : Plan) (n : LogicalName) (part : Part) (places : List ScriptPlace) → IsSound P → HasPart P n part → Q ≡ P → AreScriptPlaces P (scripts_run_at P n) places →
    AreScriptPlaces Q (scripts_run_by part) places
places-of P Q n part places sound h same are =
    subst (λ R. AreScriptPlaces R (scripts_run_by part) places) (sym same) (subst (λ rs. AreScriptPlaces P rs places) (runs P n part sound h) are)
