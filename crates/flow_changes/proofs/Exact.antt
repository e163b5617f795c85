-- Facts are told apart by what they say, and a fact is gained exactly where the one configuration has it and the other hasn't.
use Rattle.std.specs.Prelude.{◌≡◌, ◌↔◌, ℕ, ◌==◌, Bool, true, false, not, ◌&&◌, List, filter}
use Rattle.std.specs.Str.{bytes_eq}
use Rattle.std.proofs.Common.{refl, sym, ap, ap₂, subst}
use Rattle.std.proofs.lemmas.Bool.{and_parts, and_from, eqb-true, eq-eqb}
use Rattle.std.proofs.lemmas.Slice.Eq.{bytes_eq-Decides}
use Rattle.cosem_data.specs.Cells.{same_cell, same_name}
use Rattle.cosem_data.proofs.Same.{same_cell-refl, same_cell-true, same_name-from, same_name-true}
use Rattle.meter_theory.specs.Edges.{same_cause, same_edge}
use Rattle.meter_theory.specs.Lists.{IsIn}
use Rattle.meter_theory.specs.declared.flow.Cause.{Cause}
use Rattle.meter_theory.specs.declared.flow.Cause.TheVariants as causes
use Rattle.meter_theory.specs.declared.flow.Edge.{Edge}
use Rattle.meter_theory.proofs.Lists.{any_in, from_filter, in_any, in_filter}
use Rattle.flow_changes.specs.Changes.{gained, lacks}
use Rattle.flow_changes.specs.Facts.{Fact, HasCell, HasEdge, HasSap, Holds, IsOpen, Reaches, Views, among, facts, same_access, same_fact, same_reach}
use Rattle.flow_map.specs.Map.{Configuration}
use Rattle.meter_theory.specs.declared.flow.Access.{Access}
use Rattle.meter_theory.specs.declared.flow.Access.TheVariants as accesses
use Rattle.flow_map.specs.declared.kind.Kind.{Kind}
use Rattle.meter_theory.specs.declared.flow.Reach.{Reach}
use Rattle.meter_theory.specs.declared.flow.Reach.TheVariants as reaches

same_cause-true : (a b : Cause) → same_cause a b ≡ true → a ≡ b
same_cause-true causes.Monitored causes.Monitored e = refl
same_cause-true causes.Monitor causes.Monitor e = refl
same_cause-true causes.Captured causes.Captured e = refl
same_cause-true causes.Menu causes.Menu e = refl
same_cause-true causes.Period causes.Period e = refl
same_cause-true causes.Schedule causes.Schedule e = refl
same_cause-true causes.Clock causes.Clock e = refl
same_cause-true _ _ e = cc

same_cause-refl : (a : Cause) → same_cause a a ≡ true
same_cause-refl causes.Monitored = refl
same_cause-refl causes.Monitor = refl
same_cause-refl causes.Captured = refl
same_cause-refl causes.Menu = refl
same_cause-refl causes.Period = refl
same_cause-refl causes.Schedule = refl
same_cause-refl causes.Clock = refl

same_reach-true : (a b : Reach) → same_reach a b ≡ true → a ≡ b
same_reach-true reaches.Influence reaches.Influence e = refl
same_reach-true reaches.Learn reaches.Learn e = refl
same_reach-true _ _ e = cc

same_access-true : (a b : Access) → same_access a b ≡ true → a ≡ b
same_access-true accesses.Get accesses.Get e = refl
same_access-true accesses.Set accesses.Set e = refl
same_access-true accesses.Act accesses.Act e = refl
same_access-true _ _ e = cc

pub same_edge-true : (e f : Edge) → same_edge e f ≡ true → e ≡ f
same_edge-true e f h =
    let a = and_parts (same_cause e.cause f.cause) (same_cell e.source f.source && same_cell e.target f.target) h in
    let b = and_parts (same_cell e.source f.source) (same_cell e.target f.target) a.1 in
    made (same_cause-true e.cause f.cause a.0) (same_cell-true e.source f.source b.0) (same_cell-true e.target f.target b.1)
  where
    made : e.cause ≡ f.cause → e.source ≡ f.source → e.target ≡ f.target → e ≡ f
    made c s t = λ i. record { source = s i; target = t i; cause = c i }

pub same_edge-refl : (e : Edge) → same_edge e e ≡ true
same_edge-refl e = and_from _ _ (same_cause-refl e.cause) (and_from _ _ (same_cell-refl e.source) (same_cell-refl e.target))

-- facts that are told to be the same are
pub same_fact-true : (f g : Fact) → same_fact f g ≡ true → f ≡ g
same_fact-true (Reaches n reach x) (Reaches m other y) e =
    let a = and_parts (bytes_eq n m) (same_reach reach other && same_cell x y) e in
    let b = and_parts (same_reach reach other) (same_cell x y) a.1 in
    let p = (bytes_eq-Decides n m).0 a.0 in
    let q = same_reach-true reach other b.0 in
    let r = same_cell-true x y b.1 in λ i. Reaches (p i) (q i) (r i)
same_fact-true (Views n class_id x) (Views m other y) e =
    let a = and_parts (bytes_eq n m) ((class_id == other) && same_name x y) e in
    let b = and_parts (class_id == other) (same_name x y) a.1 in
    let p = (bytes_eq-Decides n m).0 a.0 in
    let q = eqb-true class_id other b.0 in
    let r = same_name-true x y b.1 in λ i. Views (p i) (q i) (r i)
same_fact-true (Holds n access x) (Holds m other y) e =
    let a = and_parts (bytes_eq n m) (same_access access other && same_cell x y) e in
    let b = and_parts (same_access access other) (same_cell x y) a.1 in
    let p = (bytes_eq-Decides n m).0 a.0 in
    let q = same_access-true access other b.0 in
    let r = same_cell-true x y b.1 in λ i. Holds (p i) (q i) (r i)
same_fact-true (HasSap n sap) (HasSap m other) e =
    let a = and_parts (bytes_eq n m) (sap == other) e in
    ap₂ HasSap ((bytes_eq-Decides n m).0 a.0) (eqb-true sap other a.1)
same_fact-true (IsOpen n) (IsOpen m) e = ap IsOpen ((bytes_eq-Decides n m).0 e)
same_fact-true (HasCell x) (HasCell y) e = ap HasCell (same_cell-true x y e)
same_fact-true (HasEdge x) (HasEdge y) e = ap HasEdge (same_edge-true x y e)
same_fact-true _ _ e = cc

same-bytes : (n : List ℕ) → bytes_eq n n ≡ true
same-bytes n = (bytes_eq-Decides n n).1 refl

pub same_fact-refl : (f : Fact) → same_fact f f ≡ true
same_fact-refl (Reaches n reaches.Influence x) = and_from _ _ (same-bytes n) (same_cell-refl x)
same_fact-refl (Reaches n reaches.Learn x) = and_from _ _ (same-bytes n) (same_cell-refl x)
same_fact-refl (Views n class_id x) = and_from _ _ (same-bytes n) (and_from _ _ (eq-eqb class_id class_id refl) (same_name-from x x refl))
same_fact-refl (Holds n accesses.Get x) = and_from _ _ (same-bytes n) (same_cell-refl x)
same_fact-refl (Holds n accesses.Set x) = and_from _ _ (same-bytes n) (same_cell-refl x)
same_fact-refl (Holds n accesses.Act x) = and_from _ _ (same-bytes n) (same_cell-refl x)
same_fact-refl (HasSap n sap) = and_from _ _ (same-bytes n) (eq-eqb sap sap refl)
same_fact-refl (IsOpen n) = same-bytes n
same_fact-refl (HasCell x) = same_cell-refl x
same_fact-refl (HasEdge e) = same_edge-refl e

-- the test of facts tells which are in a list
pub among-in : (fs : List Fact) (f : Fact) → among fs f ≡ true → IsIn fs f
among-in fs f e = let g = any_in (same_fact f) fs e in subst (IsIn fs) (sym (same_fact-true f g.0 g.2)) g.1

pub in-among : (fs : List Fact) (f : Fact) → IsIn fs f → among fs f ≡ true
in-among fs f i = in_any (same_fact f) fs f i (same_fact-refl f)

-- a fact is gained exactly where the new configuration has it and the old one hasn't
pub gained-is : (old new : Configuration) (kind : Kind) (f : Fact) → IsIn (gained old new kind) f ↔ (IsIn (facts new old kind) f × (IsIn (facts old new kind) f → ⊥))
unfolding gained
gained-is old new kind f = (there, back)
  where
    lacked : among (facts old new kind) f ≡ true → not (among (facts old new kind) f) ≡ true → ⊥
    lacked a b = cc

    there : IsIn (filter (lacks old new kind) (facts new old kind)) f → IsIn (facts new old kind) f × (IsIn (facts old new kind) f → ⊥)
    there i = let h = from_filter (lacks old new kind) (facts new old kind) f i in (h.0, λ j. lacked (in-among (facts old new kind) f j) h.1)

    at : (b : Bool) → among (facts old new kind) f ≡ b → (IsIn (facts old new kind) f → ⊥) → not (among (facts old new kind) f) ≡ true
    at true e hasn = absurd (hasn (among-in (facts old new kind) f e))
    at false e hasn = ap not e

    back : (IsIn (facts new old kind) f × (IsIn (facts old new kind) f → ⊥)) → IsIn (filter (lacks old new kind) (facts new old kind)) f
    back h = in_filter (lacks old new kind) (facts new old kind) f h.0 (at (among (facts old new kind) f) refl h.1)
