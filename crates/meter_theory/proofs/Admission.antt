-- The six tests over lists decide admission, where the plan is sound.
use Rattle.cosem_data.specs.Cells.{same_name}
use Rattle.cosem_data.proofs.Same.{same_name-true, same_name-from}
use Rattle.std.proofs.Common.{[], ◌++◌, ◌∙◌, ◌≡◌, ◌==◌, ◌<◌, ℕ, Bool, true, false, not, ◌&&◌, ◌||◌, List, ◌∷◌, map, refl, sym, ap, subst, inl, inr, Option, Some, None, is_some, eqb-true, eq-eqb, ltb-true, nat_lt, length, arith}
use Rattle.std.specs.List.{list_any, range_with_len}
use Rattle.std.proofs.lemmas.Bool.{and_parts, and_from, or_cases, or_left, or_right}
use Rattle.meter_theory.specs.Lists.{IsIn}
use Rattle.cosem_data.specs.declared.name.LogicalName.{LogicalName}
use Rattle.cosem_data.specs.declared.cell.CellRef.{CellRef}
use Rattle.meter_theory.specs.Plan.{Plan, Right, cells}
use Rattle.cosem_data.specs.declared.cell.MethodRef.{MethodRef}
use Rattle.meter_theory.specs.Rights.{has_right, lists, may_get, may_set}
use Rattle.meter_theory.specs.Steps.{changed_by_write}
use Rattle.meter_theory.specs.Edges.{among, edges}
use Rattle.meter_theory.specs.declared.flow.Label.{Label}
use Rattle.meter_theory.specs.Labels.{Labels, Labelling, label_at, labelling_of, has, within, MayChange, method_changes_of, Admits, AreLeast}
use Rattle.meter_theory.specs.Sound.{IsSound}
use Rattle.meter_theory.specs.Check.{may_write, may_change, clients_with_cells, is_labelled, keeps_policy, admits_changer, admits_reader, influence_flows, learn_flows, Pass, FirstFailure, Refuses, AllPass}
use Rattle.meter_theory.specs.declared.flow.Refusal.{Refusal}
use Rattle.meter_theory.specs.declared.flow.Refusal.TheVariants.{NotLabelled, PastPolicy, Changer, Reader, InfluenceEscapes, LearnEscapes}
use Rattle.meter_theory.proofs.Lists.{any_in, in_any, in_append_right, in_flat_map, from_flat_map, in_map, from_map, in_range}
use Rattle.meter_theory.proofs.Agreement.{not_both}
use Rattle.meter_theory.proofs.Writes.{write-cells}
use Rattle.meter_theory.proofs.Theorem.{within_trans}
use Rattle.meter_theory.proofs.Check.{among_in, in_among, method_cells, edge-listed, listed-edge}

-- not a, or b
implies-true : (a b : Bool) → (not a || b) ≡ true → a ≡ true → b ≡ true
implies-true true b h p = h
implies-true false b h p = cc

true-implies : (a b : Bool) → (a ≡ true → b ≡ true) → (not a || b) ≡ true
true-implies true b h = h refl
true-implies false b h = refl

in_pairs : (P : Plan) (c : ℕ) (x : CellRef) → c < length P.clients → IsIn (cells P) x → IsIn (clients_with_cells P) (c, x)
in_pairs P c x h i =
    in_flat_map (λ d. map (λ y. (d, y)) (cells P)) (range_with_len 0 (length P.clients)) c (c, x) (in_range 0 (length P.clients) c (omega arith) (omega arith)) (in_map (λ y. (c, y)) (cells P) x i)

from_pairs : (P : Plan) (cx : ℕ × CellRef) → IsIn (clients_with_cells P) cx → IsIn (cells P) cx.1
from_pairs P cx i =
    let c = from_flat_map (λ d. map (λ y. (d, y)) (cells P)) (range_with_len 0 (length P.clients)) cx i in
    let x = from_map (λ y. (c.0, y)) (cells P) cx c.2 in
    subst (IsIn (cells P)) (sym (ap (λ z. z.1) x.2)) x.1

-- a right is a client's
pub known_client : (P : Plan) → IsSound P → (c : ℕ) (name : LogicalName) (test : Right → Bool) → has_right P c name test ≡ true → c < length P.clients
known_client P sound c name test h =
    let r = any_in (λ z. ((z.client == c) && same_name z.object name) && test z) P.rights h in
    let a = and_parts ((r.0.client == c) && same_name r.0.object name) (test r.0) r.2 in
    let b = and_parts (r.0.client == c) (same_name r.0.object name) a.0 in
    subst (λ d. d < length P.clients) (eqb-true r.0.client c b.0) (ltb-true r.0.client (length P.clients) (and_parts (nat_lt r.0.client (length P.clients)) _ (sound.rights r.0 r.1)).0)

pub changer_from : (P : Plan) (c : ℕ) (x : CellRef) → IsIn (cells P) x → may_change P c x ≡ true → MayChange P c x
changer_from P c x there h =
    elim (or_cases (may_write P c x) (list_any (λ r. (r.client == c) && list_any (λ i. among (method_changes_of P (record { class_id = 0; name = r.object; index = i })) x) r.acts) P.rights) h) [
      | inl e ↦
          let y = any_in (λ y. may_set P c y && among (changed_by_write y) x) (cells P) e in
          let a = and_parts (may_set P c y.0) (among (changed_by_write y.0) x) y.2 in
          inl (y.0, y.1, a.0, among_in (changed_by_write y.0) x a.1)
      | inr e ↦
          let r = any_in (λ r. (r.client == c) && list_any (λ i. among (method_changes_of P (record { class_id = 0; name = r.object; index = i })) x) r.acts) P.rights e in
          let a = and_parts (r.0.client == c) (list_any (λ i. among (method_changes_of P (record { class_id = 0; name = r.0.object; index = i })) x) r.0.acts) r.2 in
          let i = any_in (λ i. among (method_changes_of P (record { class_id = 0; name = r.0.object; index = i })) x) r.0.acts a.1 in
          let m : MethodRef = record { class_id = 0; name = r.0.object; index = i.0 } in
          inr (
            m,
            in_any (λ z. ((z.client == c) && same_name z.object m.name) && lists z.acts m.index) P.rights r.0 r.1
                (and_from ((r.0.client == c) && same_name r.0.object m.name) (lists r.0.acts m.index) (and_from (r.0.client == c) (same_name r.0.object m.name) a.0 (same_name-from m.name m.name refl))
                (in_any (λ z. z == m.index) r.0.acts i.0 i.1 (eq-eqb m.index m.index refl))),
            among_in (method_changes_of P m) x i.2,
          )
    ]

pub changer_found : (P : Plan) (c : ℕ) (x : CellRef) → MayChange P c x → may_change P c x ≡ true
changer_found P c x (inl h) =
    or_left (may_write P c x) (list_any (λ r. (r.client == c) && list_any (λ i. among (method_changes_of P (record { class_id = 0; name = r.object; index = i })) x) r.acts) P.rights)
    (in_any (λ y. may_set P c y && among (changed_by_write y) x) (cells P) h.0 h.1 (and_from (may_set P c h.0) (among (changed_by_write h.0) x) h.2 (in_among (changed_by_write h.0) x h.3)))
changer_found P c x (inr h) =
    let m = h.0 in
    let r = any_in (λ z. ((z.client == c) && same_name z.object m.name) && lists z.acts m.index) P.rights h.1 in
    let a = and_parts ((r.0.client == c) && same_name r.0.object m.name) (lists r.0.acts m.index) r.2 in
    let b = and_parts (r.0.client == c) (same_name r.0.object m.name) a.0 in
    let i = any_in (λ z. z == m.index) r.0.acts a.1 in
    let name : r.0.object ≡ m.name = same_name-true r.0.object m.name b.1 in
    let index : i.0 ≡ m.index = eqb-true i.0 m.index i.2 in
    let there : IsIn (method_changes_of P (record { class_id = 0; name = r.0.object; index = i.0 })) x =
    subst (λ n. IsIn (method_changes_of P (record { class_id = 0; name = n; index = i.0 })) x) (sym name)
    (subst (λ k. IsIn (method_changes_of P (record { class_id = 0; name = m.name; index = k })) x) (sym index) h.2) in
    or_right (may_write P c x) (list_any (λ z. (z.client == c) && list_any (λ k. among (method_changes_of P (record { class_id = 0; name = z.object; index = k })) x) z.acts) P.rights)
    (in_any (λ z. (z.client == c) && list_any (λ k. among (method_changes_of P (record { class_id = 0; name = z.object; index = k })) x) z.acts) P.rights r.0 r.1
    (and_from (r.0.client == c) (list_any (λ k. among (method_changes_of P (record { class_id = 0; name = r.0.object; index = k })) x) r.0.acts) b.0
    (in_any (λ k. among (method_changes_of P (record { class_id = 0; name = r.0.object; index = k })) x) r.0.acts i.0 i.1
    (in_among (method_changes_of P (record { class_id = 0; name = r.0.object; index = i.0 })) x there))))

some_label : (o : Option Label) → is_some o ≡ true → (l : Label) × (o ≡ Some l)
some_label None h = cc
some_label (Some l) h = (l, refl)

pub passes-admits : (P : Plan) (policy : Labelling) (labels : Labels) → IsSound P → AllPass P policy labels → Admits P policy labels
passes-admits P policy labels sound a = record {
  covers = record {
    labelled = λ x i. some_label (label_at labels x) (a.labelled x i);
    changers = λ c x may. implies-true (may_change P c x) (has (labelling_of labels x).influence c)
        (a.changers (c, x) (in_pairs P c x (changer_known c x may) (changed_cell c x may))) (changer_found P c x may);
    readers = λ c x i may. implies-true (may_get P c x) (has (labelling_of labels x).learn c)
        (a.readers (c, x) (in_pairs P c x (known_client P sound c x.name (λ r. lists r.gets x.index) may) i)) may;
    influence_flows = λ e is. a.influence e (edge-listed P sound e is);
    learn_flows = λ e is. a.learn e (edge-listed P sound e is);
  };
  influence_within = λ x i. (and_parts (within (labelling_of labels x).influence (policy x).influence) (within (labelling_of labels x).learn (policy x).learn) (a.policy_kept x i)).0;
  learn_within = λ x i. (and_parts (within (labelling_of labels x).influence (policy x).influence) (within (labelling_of labels x).learn (policy x).learn) (a.policy_kept x i)).1;
}
  where
    changer_known : (c : ℕ) (x : CellRef) → MayChange P c x → c < length P.clients
    changer_known c x (inl h) = known_client P sound c h.0.name (λ r. lists r.sets h.0.index) h.2
    changer_known c x (inr h) = known_client P sound c h.0.name (λ r. lists r.acts h.0.index) h.1

    changed_cell : (c : ℕ) (x : CellRef) → MayChange P c x → IsIn (cells P) x
    changed_cell c x (inl h) = write-cells P h.0 h.1 x h.3
    changed_cell c x (inr h) = method_cells P sound h.0 x h.2

pub admits-passes : (P : Plan) (policy : Labelling) (labels : Labels) → IsSound P → Admits P policy labels → AllPass P policy labels
admits-passes P policy labels sound a = record {
  labelled = λ x i. let l = a.covers.labelled x i in subst (λ o. is_some o ≡ true) (sym l.1) refl;
  policy_kept = λ x i. and_from (within (labelling_of labels x).influence (policy x).influence) (within (labelling_of labels x).learn (policy x).learn) (a.influence_within x i) (a.learn_within x i);
  changers = λ cx i. true-implies (may_change P cx.0 cx.1) (has (labelling_of labels cx.1).influence cx.0) (λ may. a.covers.changers cx.0 cx.1 (changer_from P cx.0 cx.1 (from_pairs P cx i) may));
  readers = λ cx i. true-implies (may_get P cx.0 cx.1) (has (labelling_of labels cx.1).learn cx.0) (λ may. a.covers.readers cx.0 cx.1 (from_pairs P cx i) may);
  influence = λ e i. a.covers.influence_flows e (listed-edge P sound e i);
  learn = λ e i. a.covers.learn_flows e (listed-edge P sound e i);
}

-- where some labels are admitted for a policy, the least are
pub least-admits : (P : Plan) (policy : Labelling) (least labels : Labels) → AreLeast P least → Admits P policy labels → Admits P policy least
least-admits P policy least labels l a = record {
  covers = l.covers;
  influence_within = λ x i. within_trans (labelling_of least x).influence (labelling_of labels x).influence (policy x).influence (l.least labels a.covers x i).0 (a.influence_within x i);
  learn_within = λ x i. within_trans (labelling_of least x).learn (labelling_of labels x).learn (policy x).learn (l.least labels a.covers x i).1 (a.learn_within x i);
}

-- what fails first does fail
pub not_all : {A : Type 0} (test : A → Bool) (xs : List A) (x : A) → FirstFailure test xs x → Pass test xs → ⊥
not_all test xs x f all =
    not_both (test x) (all x (subst (λ ys. IsIn ys x) (sym f.whole) (in_append_right f.before (x ∷ f.after) x (inl refl)))) f.fails

pub refusal-right : (P : Plan) (policy : Labelling) (labels : Labels) (r : Refusal) → Refuses P policy labels r → AllPass P policy labels → ⊥
refusal-right P policy labels (NotLabelled x) h a = not_all (is_labelled labels) (cells P) x h a.labelled
refusal-right P policy labels (PastPolicy x) h a = not_all (keeps_policy policy labels) (cells P) x h.1 a.policy_kept
refusal-right P policy labels (Changer c x) h a = not_all (admits_changer P labels) (clients_with_cells P) (c, x) h.2 a.changers
refusal-right P policy labels (Reader c x) h a = not_all (admits_reader P labels) (clients_with_cells P) (c, x) h.3 a.readers
refusal-right P policy labels (InfluenceEscapes e) h a = not_all (influence_flows labels) (edges P) e h.4 a.influence
refusal-right P policy labels (LearnEscapes e) h a = not_all (learn_flows labels) (edges P) e h.5 a.learn

same_first : {A : Type 0} (test : A → Bool) (b c : List A) (x y : A) (a d : List A) → b ++ x ∷ a ≡ c ++ y ∷ d → Pass test b → Pass test c → test x ≡ false → test y ≡ false → x ≡ y
same_first test [] [] x y a d e p q f g = cc
same_first test [] (z ∷ c) x y a d e p q f g = let same : x ≡ z = cc in not_both (test x) (subst (λ w. test w ≡ true) (sym same) (q z (inl refl))) f
same_first test (z ∷ b) [] x y a d e p q f g = let same : z ≡ y = cc in not_both (test y) (subst (λ w. test w ≡ true) same (p z (inl refl))) g
same_first test (z ∷ b) (w ∷ c) x y a d e p q f g = let rest : b ++ x ∷ a ≡ c ++ y ∷ d = cc in same_first test b c x y a d rest (λ v i. p v (inr i)) (λ v i. q v (inr i)) f g

-- There is one first failure.
pub first_once : {A : Type 0} (test : A → Bool) (xs : List A) (x y : A) → FirstFailure test xs x → FirstFailure test xs y → x ≡ y
first_once test xs x y f g = same_first test f.before g.before x y f.after g.after (sym f.whole ∙ g.whole) f.earlier g.earlier f.fails g.fails
