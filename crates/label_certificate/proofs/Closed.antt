-- Labels from sets that are closed along the edges cover a plan, and are the least that do.
use Rattle.std.specs.Prelude.{◌≡◌, ℕ, zero, suc, ◌+◌, ◌<◌, ◌⊎◌, Bool, true, false, cond, List, [], ◌∷◌, ◌++◌, map, take, length, get_or, Some, Result, Ok, Err, IfOk}
use Rattle.std.proofs.Common.{refl, sym, ap, ap₂, subst, ◌∙◌, arith, inl, inr}
use Rattle.std.proofs.lemmas.List.{length-map, get_or-map}
use Rattle.std.proofs.Math.Seq.{take-append_seam}
use Rattle.cosem_data.specs.Cells.{same_cell}
use Rattle.cosem_data.specs.Clients.{has_client}
use Rattle.cosem_data.specs.declared.cell.CellRef.{CellRef}
use Rattle.cosem_data.specs.declared.clients.ClientSet.{ClientSet}
use Rattle.cosem_data.proofs.Same.{same_cell-refl}
use Rattle.meter_theory.specs.Lists.{IsIn}
use Rattle.meter_theory.specs.Edges.{IsEdge, edges}
use Rattle.meter_theory.specs.Labels.{Labels, MayChange, Covers, AreLeast, has, label_at, labelling_of, nobody, or_else, within}
use Rattle.meter_theory.specs.Plan.{Plan, cells}
use Rattle.meter_theory.specs.Rights.{may_get}
use Rattle.meter_theory.specs.Sound.{IsSound}
use Rattle.meter_theory.specs.declared.flow.Edge.{Edge}
use Rattle.meter_theory.specs.declared.flow.Label.{Label}
use Rattle.meter_theory.proofs.Check.{edge-listed, listed-edge, method_cells}
use Rattle.meter_theory.proofs.Lists.{from_map, in_map}
use Rattle.meter_theory.proofs.Theorem.{within_from, within_has}
use Rattle.meter_theory.proofs.Writes.{write-cells}
use Rattle.flow_edges.specs.declared.table.Link.{Link}
use Rattle.flow_edges.specs.Table.{AreCells, AreWithin, IsLink, cell_at, edge_at}
use Rattle.label_certificate.specs.Closing.{Below, IsClosedBy, set_at}
use Rattle.meter_theory.proofs.ClientSets.{nobody_in}
use Rattle.std.proofs.lemmas.Bool.{false≢true}
use Rattle.label_certificate.specs.declared.arrows.Arrow.{Arrow}
use Rattle.meter_theory.specs.Ways.{set_for}
use Rattle.meter_theory.specs.declared.flow.Reach.{Reach}
use Rattle.meter_theory.specs.declared.flow.Reach.TheVariants.{Influence, Learn}
use Rattle.label_certificate.specs.Granted.{AreGranted, label_in}
use Rattle.label_certificate.specs.Least.{AreClosed, AreLinks, arrow_of, labels_of_sets}

-- the place of an element
pub place_in : (xs : List CellRef) (x : CellRef) → IsIn xs x → (k : ℕ) × (k < length xs) × (cell_at xs k ≡ x)
place_in [] x i = absurd i
place_in (y ∷ xs) x (inl e) = (0, omega arith, sym e)
place_in (y ∷ xs) x (inr i) = let p = place_in xs x i in (suc p.0, omega (arith, p.1), p.2)

pub item_at : (xs : List CellRef) (k : ℕ) → k < length xs → IsIn xs (cell_at xs k)
item_at [] k h = absurd (omega arith)
item_at (x ∷ xs) zero h = inl refl
item_at (x ∷ xs) (suc k) h = inr (item_at xs k (omega arith))

pub link_in : (cs : List CellRef) (links : List Link) (l : Link) → AreWithin cs links → IsIn links l → IsLink cs l
link_in cs [] l w i = absurd i
link_in cs (m ∷ links) l w (inl e) = subst (IsLink cs) (sym e) w.0
link_in cs (m ∷ links) l w (inr i) = link_in cs links l w.1 i

-- no cell stands at two places
abbrev AreApart : List CellRef → Type 0
AreApart xs = (i j : ℕ) → i < length xs → j < length xs → same_cell (cell_at xs i) (cell_at xs j) ≡ true → i ≡ j

-- the label of a cell has the sets with its number
labelled-at : (xs : List CellRef) (is ls : List ClientSet) (k : ℕ) → AreApart xs → k < length xs → length is ≡ length xs → length ls ≡ length xs →
    label_at (labels_of_sets xs is ls) (cell_at xs k) ≡ Some (record { influence = set_at is k; learn = set_at ls k })
labelled-at [] is ls k apart h m n = absurd (omega arith)
labelled-at (x ∷ xs) [] ls k apart h m n = cc
labelled-at (x ∷ xs) (i ∷ is) [] k apart h m n = cc
labelled-at (x ∷ xs) (i ∷ is) (l ∷ ls) zero apart h m n =
    ap (λ b. cond b (Some (record { influence = i; learn = l })) (label_at (labels_of_sets xs is ls) x)) (same_cell-refl x)
labelled-at (x ∷ xs) (i ∷ is) (l ∷ ls) (suc k) apart h m n =
    ap (λ b. cond b (Some (record { influence = i; learn = l })) (label_at (labels_of_sets xs is ls) (cell_at xs k))) (other (same_cell x (cell_at xs k)) refl)
    ∙ labelled-at xs is ls k (λ a b p q s. let e : suc a ≡ suc b = apart (suc a) (suc b) (omega (arith, p)) (omega (arith, q)) s in omega (arith, e)) (omega arith) (omega arith) (omega arith)
  where
    other : (b : Bool) → same_cell x (cell_at xs k) ≡ b → b ≡ false
    other false e = refl
    other true e = let z : 0 ≡ suc k = apart 0 (suc k) (omega arith) h e in absurd (omega (arith, z))

less_or_not : (k n : ℕ) → (k < n) ⊎ (n < suc k)
less_or_not k n = grind arith

past-nobody : (sets : List ClientSet) (k : ℕ) → length sets < suc k → set_at sets k ≡ nobody
past-nobody [] k h = refl
past-nobody (s ∷ sets) zero h = absurd (omega arith)
past-nobody (s ∷ sets) (suc k) h = past-nobody sets k (omega arith)

has-nobody : (c : ℕ) → has_client nobody c ≡ true → ⊥
has-nobody c h = absurd (false≢true (sym (nobody_in c) ∙ h))

module _ (P : Plan) (sound : IsSound P) (are : AreCells (cells P)) (links : List Link) (granted : List Label) (influence learn : List ClientSet)
    (linked : map (edge_at (cells P)) links ≡ edges P) (inside : AreWithin (cells P) links) (g : AreGranted P granted)
    (i : AreClosed (map (arrow_of Influence) links) (map (set_for Influence) granted) influence)
    (l : AreClosed (map (arrow_of Learn) links) (map (set_for Learn) granted) learn) where
  abbrev pub labels : Labels
  labels = labels_of_sets (cells P) influence learn

  influence_size : length influence ≡ length (cells P)
  influence_size = i.size ∙ (length-map granted (set_for Influence) ∙ g.size)

  learn_size : length learn ≡ length (cells P)
  learn_size = l.size ∙ (length-map granted (set_for Learn) ∙ g.size)

  sets_of : (k : ℕ) → k < length (cells P) → label_at labels (cell_at (cells P) k) ≡ Some (record { influence = set_at influence k; learn = set_at learn k })
  sets_of k h = labelled-at (cells P) influence learn k are.apart h influence_size learn_size

  label_is : (k : ℕ) → k < length (cells P) → labelling_of labels (cell_at (cells P) k) ≡ record { influence = set_at influence k; learn = set_at learn k }
  label_is k h = ap (or_else (record { influence = nobody; learn = nobody })) (sets_of k h)

  begun_influence : (k : ℕ) → k < length (cells P) → set_at (map (set_for Influence) granted) k ≡ (label_in granted k).influence
  begun_influence k h = get_or-map (set_for Influence) granted k (record { influence = nobody; learn = nobody }) nobody (subst (λ n. k < n) (sym g.size) h)

  begun_learn : (k : ℕ) → k < length (cells P) → set_at (map (set_for Learn) granted) k ≡ (label_in granted k).learn
  begun_learn k h = get_or-map (set_for Learn) granted k (record { influence = nobody; learn = nobody }) nobody (subst (λ n. k < n) (sym g.size) h)

  -- an edge is a link between numbers
  link_of : (e : Edge) → IsEdge P e → (k : Link) × IsIn links k × IsLink (cells P) k × (e ≡ edge_at (cells P) k)
  link_of e is =
      let k = from_map (edge_at (cells P)) links e (subst (λ es. IsIn es e) (sym linked) (edge-listed P sound e is)) in
      (k.0, k.1, link_in (cells P) links k.0 inside k.1, k.2)

  edge_of : (k : Link) → IsIn links k → IsEdge P (edge_at (cells P) k)
  edge_of k there = listed-edge P sound (edge_at (cells P) k) (subst (λ es. IsIn es (edge_at (cells P) k)) linked (in_map (edge_at (cells P)) links k there))

  changed_cell : (c : ℕ) (x : CellRef) → MayChange P c x → IsIn (cells P) x
  changed_cell c x (inl h) = write-cells P h.0 h.1 x h.3
  changed_cell c x (inr h) = method_cells P sound h.0 x h.2

  covers : Covers P labels
  covers = record {
    labelled = λ x there. let k = place_in (cells P) x there in
        (record { influence = set_at influence k.0; learn = set_at learn k.0 }, subst (λ z. label_at labels z ≡ Some (record { influence = set_at influence k.0; learn = set_at learn k.0 })) k.2 (sets_of k.0 k.1));
    changers = λ c x may. let k = place_in (cells P) x (changed_cell c x may) in
        subst (λ z. has (labelling_of labels z).influence c ≡ true) k.2
        (subst (λ z. has z.influence c ≡ true) (sym (label_is k.0 k.1))
        (i.above k.0 c (subst (λ s. has_client s c ≡ true) (sym (begun_influence k.0 k.1)) (((g.each k.0 k.1).influence c).1 (subst (MayChange P c) (sym k.2) may)))));
    readers = λ c x there may. let k = place_in (cells P) x there in
        subst (λ z. has (labelling_of labels z).learn c ≡ true) k.2
        (subst (λ z. has z.learn c ≡ true) (sym (label_is k.0 k.1))
        (l.above k.0 c (subst (λ s. has_client s c ≡ true) (sym (begun_learn k.0 k.1)) ((g.each k.0 k.1).learn c ∙ subst (λ z. may_get P c z ≡ true) (sym k.2) may))));
    influence_flows = λ e is. let k = link_of e is in
        subst (λ z. within (labelling_of labels z.source).influence (labelling_of labels z.target).influence ≡ true) (sym k.3)
        (subst (λ z. within z.influence (labelling_of labels (cell_at (cells P) k.0.target)).influence ≡ true) (sym (label_is k.0.source k.2.0))
        (subst (λ z. within (set_at influence k.0.source) z.influence ≡ true) (sym (label_is k.0.target k.2.1))
        (within_from (set_at influence k.0.source) (set_at influence k.0.target) (i.closed (arrow_of Influence k.0) (in_map (arrow_of Influence) links k.0 k.1)))));
    learn_flows = λ e is. let k = link_of e is in
        subst (λ z. within (labelling_of labels z.target).learn (labelling_of labels z.source).learn ≡ true) (sym k.3)
        (subst (λ z. within z.learn (labelling_of labels (cell_at (cells P) k.0.source)).learn ≡ true) (sym (label_is k.0.target k.2.1))
        (subst (λ z. within (set_at learn k.0.target) z.learn ≡ true) (sym (label_is k.0.source k.2.0))
        (within_from (set_at learn k.0.target) (set_at learn k.0.source) (l.closed (arrow_of Learn k.0) (in_map (arrow_of Learn) links k.0 k.1)))));
  }

  module _ (others : Labels) (o : Covers P others) where
    abbrev other_influence : List ClientSet
    other_influence = map (λ x. (labelling_of others x).influence) (cells P)

    abbrev other_learn : List ClientSet
    other_learn = map (λ x. (labelling_of others x).learn) (cells P)

    influence_is : (k : ℕ) → k < length (cells P) → set_at other_influence k ≡ (labelling_of others (cell_at (cells P) k)).influence
    influence_is k h = get_or-map (λ x. (labelling_of others x).influence) (cells P) k (cell_at [] 0) nobody h

    learn_is : (k : ℕ) → k < length (cells P) → set_at other_learn k ≡ (labelling_of others (cell_at (cells P) k)).learn
    learn_is k h = get_or-map (λ x. (labelling_of others x).learn) (cells P) k (cell_at [] 0) nobody h

    influence_closed : IsClosedBy (map (arrow_of Influence) links) other_influence
    influence_closed a there c h =
        let k = from_map (arrow_of Influence) links a there in
        let w = link_in (cells P) links k.0 inside k.1 in
        subst (λ z. has_client (set_at other_influence z.to) c ≡ true) (sym k.2)
        (subst (λ s. has_client s c ≡ true) (sym (influence_is k.0.target w.1))
        (within_has (labelling_of others (cell_at (cells P) k.0.source)).influence (labelling_of others (cell_at (cells P) k.0.target)).influence (o.influence_flows (edge_at (cells P) k.0) (edge_of k.0 k.1)) c
        (subst (λ s. has_client s c ≡ true) (influence_is k.0.source w.0) (subst (λ z. has_client (set_at other_influence z.from) c ≡ true) k.2 h))))

    learn_closed : IsClosedBy (map (arrow_of Learn) links) other_learn
    learn_closed a there c h =
        let k = from_map (arrow_of Learn) links a there in
        let w = link_in (cells P) links k.0 inside k.1 in
        subst (λ z. has_client (set_at other_learn z.to) c ≡ true) (sym k.2)
        (subst (λ s. has_client s c ≡ true) (sym (learn_is k.0.source w.0))
        (within_has (labelling_of others (cell_at (cells P) k.0.target)).learn (labelling_of others (cell_at (cells P) k.0.source)).learn (o.learn_flows (edge_at (cells P) k.0) (edge_of k.0 k.1)) c
        (subst (λ s. has_client s c ≡ true) (learn_is k.0.target w.1) (subst (λ z. has_client (set_at other_learn z.from) c ≡ true) k.2 h))))

    influence_above : Below (map (set_for Influence) granted) other_influence
    influence_above k c h = at (less_or_not k (length (cells P)))
      where
        at : (k < length (cells P)) ⊎ (length (cells P) < suc k) → has_client (set_at other_influence k) c ≡ true
        at (inl less) =
            subst (λ s. has_client s c ≡ true) (sym (influence_is k less))
            (o.changers c (cell_at (cells P) k) (((g.each k less).influence c).0 (subst (λ s. has_client s c ≡ true) (begun_influence k less) h)))
        at (inr past) = absurd (has-nobody c (subst (λ s. has_client s c ≡ true)
            (past-nobody (map (set_for Influence) granted) k (subst (λ n. n < suc k) (sym (length-map granted (set_for Influence) ∙ g.size)) past)) h))

    learn_above : Below (map (set_for Learn) granted) other_learn
    learn_above k c h = at (less_or_not k (length (cells P)))
      where
        at : (k < length (cells P)) ⊎ (length (cells P) < suc k) → has_client (set_at other_learn k) c ≡ true
        at (inl less) =
            subst (λ s. has_client s c ≡ true) (sym (learn_is k less))
            (o.readers c (cell_at (cells P) k) (item_at (cells P) k less) (sym ((g.each k less).learn c) ∙ subst (λ s. has_client s c ≡ true) (begun_learn k less) h))
        at (inr past) = absurd (has-nobody c (subst (λ s. has_client s c ≡ true)
            (past-nobody (map (set_for Learn) granted) k (subst (λ n. n < suc k) (sym (length-map granted (set_for Learn) ∙ g.size)) past)) h))

    least_influence : (k : ℕ) → k < length (cells P) → within (set_at influence k) (labelling_of others (cell_at (cells P) k)).influence ≡ true
    least_influence k h = within_from (set_at influence k) (labelling_of others (cell_at (cells P) k)).influence
        (λ c e. subst (λ s. has_client s c ≡ true) (influence_is k h) (i.least other_influence influence_closed influence_above k c e))

    least_learn : (k : ℕ) → k < length (cells P) → within (set_at learn k) (labelling_of others (cell_at (cells P) k)).learn ≡ true
    least_learn k h = within_from (set_at learn k) (labelling_of others (cell_at (cells P) k)).learn
        (λ c e. subst (λ s. has_client s c ≡ true) (learn_is k h) (l.least other_learn learn_closed learn_above k c e))

  pub are-least : AreLeast P labels
  are-least = record {
    covers = covers;
    least = λ others o x there. let k = place_in (cells P) x there in (
      subst (λ z. within (labelling_of labels z).influence (labelling_of others z).influence ≡ true) k.2
          (subst (λ z. within z.influence (labelling_of others (cell_at (cells P) k.0)).influence ≡ true) (sym (label_is k.0 k.1)) (least_influence others o k.0 k.1)),
      subst (λ z. within (labelling_of labels z).learn (labelling_of others z).learn ≡ true) k.2
          (subst (λ z. within z.learn (labelling_of others (cell_at (cells P) k.0)).learn ≡ true) (sym (label_is k.0 k.1)) (least_learn others o k.0 k.1)),
    );
  }

pub labels-cells : (xs : List CellRef) (is ls : List ClientSet) → length is ≡ length xs → length ls ≡ length xs → map (λ e. e.0) (labels_of_sets xs is ls) ≡ xs
labels-cells [] is ls m n = refl
labels-cells (x ∷ xs) [] ls m n = cc
labels-cells (x ∷ xs) (i ∷ is) [] m n = cc
labels-cells (x ∷ xs) (i ∷ is) (l ∷ ls) m n = ap (λ ys. x ∷ ys) (labels-cells xs is ls (omega arith) (omega arith))

-- one label more
pub labels-more : (xs : List CellRef) (is ls : List ClientSet) (k : ℕ) (x : CellRef) (i l : ClientSet) → k < length xs → length is ≡ length xs → length ls ≡ length xs →
    x ≡ get_or xs k x → i ≡ get_or is k i → l ≡ get_or ls k l →
    labels_of_sets (take k xs) (take k is) (take k ls) ++ (x, record { influence = i; learn = l }) ∷ [] ≡ labels_of_sets (take (suc k) xs) (take (suc k) is) (take (suc k) ls)
labels-more [] is ls k x i l h m n p q r = absurd (omega arith)
labels-more (y ∷ xs) [] ls k x i l h m n p q r = cc
labels-more (y ∷ xs) (j ∷ is) [] k x i l h m n p q r = cc
labels-more (y ∷ xs) (j ∷ is) (o ∷ ls) zero x i l h m n p q r =
    ap (λ z. (z, record { influence = i; learn = l }) ∷ []) p ∙ ap₂ (λ a b. (y, record { influence = a; learn = b }) ∷ []) q r
labels-more (y ∷ xs) (j ∷ is) (o ∷ ls) (suc k) x i l h m n p q r =
    ap (λ z. (y, record { influence = j; learn = o }) ∷ z) (labels-more xs is ls k x i l (omega arith) (omega arith) (omega arith) p q r)

-- a link in the list of links is between numbers of cells
pub links-within : (cs : List CellRef) (links : List Link) (n : ℕ) → AreWithin cs links → n ≡ length cs → (l : Link) → IsIn links l → (l.source < n) × (l.target < n)
links-within cs links n w e l there = let k = link_in cs links l w there in (subst (λ m. l.source < m) (sym e) k.0, subst (λ m. l.target < m) (sym e) k.1)

-- an arrow of such links is between the same numbers
pub arrows-within : (reach : Reach) (links : List Link) (n : ℕ) → AreLinks n links → (a : Arrow) → IsIn (map (arrow_of reach) links) a → (a.from < n) × (a.to < n)
arrows-within Influence links n h a there = let k = from_map (arrow_of Influence) links a there in subst (λ z. (z.from < n) × (z.to < n)) (sym k.2) (h k.0 k.1)
arrows-within Learn links n h a there = let k = from_map (arrow_of Learn) links a there in let ends = h k.0 k.1 in subst (λ z. (z.from < n) × (z.to < n)) (sym k.2) (ends.1, ends.0)

-- the same of a list to which the label was pushed
pub pushed-more : (xs : List CellRef) (is ls : List ClientSet) (k : ℕ) (e : CellRef × Label) (old new : Labels) → k < length xs → length is ≡ length xs → length ls ≡ length xs →
    new ≡ old ++ e ∷ [] → old ≡ labels_of_sets (take k xs) (take k is) (take k ls) → e.0 ≡ get_or xs k e.0 → e.1.influence ≡ get_or is k e.1.influence → e.1.learn ≡ get_or ls k e.1.learn →
    new ≡ labels_of_sets (take (k + 1) xs) (take (k + 1) is) (take (k + 1) ls)
pushed-more xs is ls k e old new h m n pushed before p q r =
    let next : suc k ≡ k + 1 = omega arith in
    subst (λ j. new ≡ labels_of_sets (take j xs) (take j is) (take j ls)) next
    (pushed ∙ (ap (λ z. z ++ e ∷ []) before ∙ labels-more xs is ls k e.0 e.1.influence e.1.learn h m n p q r))

-- what was written through a slice of a whole list
pub written-back : {A : Type 0} (new rest : List A) (n : ℕ) → n ≡ length new → take n (new ++ rest) ≡ new
written-back new rest n e = ap (λ k. take k (new ++ rest)) e ∙ take-append_seam new rest

pub if-ok-then : {A E : Type 0} {F G : A → Type 0} (r : Result A E) → ((x : A) → F x → G x) → IfOk r F → IfOk r G
if-ok-then (Ok x) f h = f x h
if-ok-then (Err e) f h = tt
