-- Each fact of a configuration with a sound plan stands once.
use Rattle.std.specs.Prelude.{◌≡◌, ℕ, zero, suc, ◌+◌, ◌<◌, ◌≤◌, Bool, true, false, ◌||◌, cond, List, [], ◌∷◌, ◌++◌, filter, flat_map, is_some, length, map}
use Rattle.std.specs.List.{enumerate_from, list_any, range_with_len}
use Rattle.std.proofs.Common.{◌⊎◌, refl, sym, ap, subst, ◌∙◌, arith, inl, inr}
use Rattle.std.proofs.lemmas.List.{append-nil}
use Rattle.cosem_data.specs.Cells.{cell, same_cell}
use Rattle.cosem_data.specs.declared.cell.CellRef.{CellRef}
use Rattle.cosem_data.specs.declared.name.LogicalName.{LogicalName}
use Rattle.cosem_data.proofs.Same.{same_cell-refl}
use Rattle.meter_theory.specs.Edges.{edges, edges_in, first_of_each, same_edge}
use Rattle.meter_theory.specs.Labels.{Labelling, labelling_of}
use Rattle.meter_theory.specs.Lists.{AreDistinct, IsIn}
use Rattle.meter_theory.specs.Plan.{Client, Object, Plan, cells, class_of, interface_of}
use Rattle.meter_theory.specs.Rights.{has_right}
use Rattle.meter_theory.specs.Sound.{IsSound}
use Rattle.meter_theory.specs.declared.flow.Edge.{Edge}
use Rattle.meter_theory.proofs.Lists.{from_filter, from_flat_map, from_map, in_append_cases, in_map}
use Rattle.flow_edges.specs.Table.{AreCells, cell_at}
use Rattle.flow_changes.specs.Changes.{gained, lacks}
use Rattle.meter_theory.specs.Rights.{highest_for}
use Rattle.flow_changes.specs.Facts.{Fact, HasCell, HasEdge, HasSap, Holds, IsOpen, Numbered, Reaches, Views, common_facts, facts, is_granted, is_reached, members_for, numbered, own_facts, reached, rights_on, shared_policy}
use Rattle.flow_map.specs.Map.{Configuration}
use Rattle.flow_changes.proofs.Exact.{same_edge-refl}
use Rattle.meter_theory.specs.declared.flow.Access.{Access}
use Rattle.meter_theory.specs.declared.flow.Access.TheVariants as accesses
use Rattle.flow_map.specs.declared.kind.Kind.{Kind}
use Rattle.flow_map.specs.declared.kind.Kind.TheVariants as kinds
use Rattle.meter_theory.specs.declared.flow.Reach.{Reach}
use Rattle.meter_theory.specs.declared.flow.Reach.TheVariants as reaches

-- Lists

distinct-append : {A : Type 0} (xs ys : List A) → AreDistinct xs → AreDistinct ys → ((x : A) → IsIn xs x → IsIn ys x → ⊥) → AreDistinct (xs ++ ys)
distinct-append [] ys d e apart = e
distinct-append (x ∷ xs) ys d e apart =
    (λ i. elim (in_append_cases xs ys x i) [ inl j ↦ d.0 j | inr j ↦ apart x (inl refl) j ], distinct-append xs ys d.1 e (λ y j. apart y (inr j)))

distinct-filter : {A : Type 0} (p : A → Bool) (xs : List A) → AreDistinct xs → AreDistinct (filter p xs)
distinct-filter p [] d = tt
distinct-filter p (x ∷ xs) d = at (p x) (distinct-filter p xs d.1)
  where
    at : (b : Bool) → AreDistinct (filter p xs) → AreDistinct (cond b (x ∷ filter p xs) (filter p xs))
    at true rest = (λ i. d.0 (from_filter p xs x i).0, rest)
    at false rest = rest

distinct-map : {A B : Type 0} (f : A → B) (xs : List A) → ((x y : A) → f x ≡ f y → x ≡ y) → AreDistinct xs → AreDistinct (map f xs)
distinct-map f [] one d = tt
distinct-map f (x ∷ xs) one d =
    (λ i. let y = from_map f xs (f x) i in d.0 (subst (IsIn xs) (sym (one x y.0 y.2)) y.1), distinct-map f xs one d.1)

-- lists that are told apart by a key, one behind the other
distinct-flat_map : {A B K : Type 0} (f : A → List B) (mark : A → K) (key : B → K) (xs : List A) → AreDistinct (map mark xs) → ((x : A) → AreDistinct (f x)) → ((x : A) (y : B) → IsIn (f x) y → key y ≡ mark x) → AreDistinct (flat_map f xs)
distinct-flat_map f mark key [] d each keyed = tt
distinct-flat_map f mark key (x ∷ xs) d each keyed =
    distinct-append (f x) (flat_map f xs) (each x) (distinct-flat_map f mark key xs d.1 each keyed)
    (λ y i j. let z = from_flat_map f xs y j in
    d.0 (subst (IsIn (map mark xs)) (sym (keyed z.0 y z.2) ∙ keyed x y i) (in_map mark xs z.0 z.1)))

from-range : (a n x : ℕ) → IsIn (range_with_len a n) x → a ≤ x
from-range a zero x i = absurd i
from-range a (suc n) x (inl e) = omega (arith, e)
from-range a (suc n) x (inr i) = omega (arith, from-range (a + 1) n x i)

range-distinct : (a n : ℕ) → AreDistinct (range_with_len a n)
range-distinct a zero = tt
range-distinct a (suc n) = (λ i. let above = from-range (a + 1) n a i in absurd (omega (arith, above)), range-distinct (a + 1) n)

-- names of clients with their numbers
numbered-names : (k : ℕ) (clients : List Client) → map (λ n. n.1.name) (enumerate_from k clients) ≡ map (λ client. client.name) clients
numbered-names k [] = refl
numbered-names k (c ∷ clients) = ap (λ ns. c.name ∷ ns) (numbered-names (k + 1) clients)

-- Cells and edges

cells-distinct : (cs : List CellRef) → ((i j : ℕ) → i < length cs → j < length cs → same_cell (cell_at cs i) (cell_at cs j) ≡ true → i ≡ j) → AreDistinct cs
cells-distinct [] apart = tt
cells-distinct (x ∷ cs) apart = (
  λ i. let k = place cs x i in
      let z : 0 ≡ suc k.0 = apart 0 (suc k.0) (omega arith) (omega (arith, k.1)) (subst (λ y. same_cell x y ≡ true) (sym k.2) (same_cell-refl x)) in absurd (omega (arith, z)),
  cells-distinct cs (λ i j p q s. let z : suc i ≡ suc j = apart (suc i) (suc j) (omega (arith, p)) (omega (arith, q)) s in omega (arith, z)),
)
  where
    place : (ys : List CellRef) (y : CellRef) → IsIn ys y → (k : ℕ) × (k < length ys) × (cell_at ys k ≡ y)
    place [] y i = absurd i
    place (z ∷ ys) y (inl e) = (0, omega arith, sym e)
    place (z ∷ ys) y (inr i) = let p = place ys y i in (suc p.0, omega (arith, p.1), p.2)

-- the first of each differ, and none is among the earlier ones
first-apart : (earlier es : List Edge) (e : Edge) → IsIn (first_of_each earlier es) e → list_any (same_edge e) earlier ≡ false
first-apart earlier [] e i = absurd i
first-apart earlier (f ∷ es) e i = at (list_any (same_edge f) earlier) refl i (first-apart earlier es e) (first-apart (f ∷ earlier) es e)
  where
    later : (b : Bool) → (same_edge e f || b) ≡ false → b ≡ false
    later true h = at-true (same_edge e f) h
      where
        at-true : (c : Bool) → (c || true) ≡ false → true ≡ false
        at-true true h = h
        at-true false h = h
    later false h = refl

    at : (b : Bool) → list_any (same_edge f) earlier ≡ b → IsIn (cond b (first_of_each earlier es) (f ∷ first_of_each (f ∷ earlier) es)) e →
        (IsIn (first_of_each earlier es) e → list_any (same_edge e) earlier ≡ false) → (IsIn (first_of_each (f ∷ earlier) es) e → (same_edge e f || list_any (same_edge e) earlier) ≡ false) → list_any (same_edge e) earlier ≡ false
    at true h j one two = one j
    at false h (inl same) one two = subst (λ z. list_any (same_edge z) earlier ≡ false) (sym same) h
    at false h (inr j) one two = later (list_any (same_edge e) earlier) (two j)

first-distinct : (earlier es : List Edge) → AreDistinct (first_of_each earlier es)
first-distinct earlier [] = tt
first-distinct earlier (f ∷ es) = at (list_any (same_edge f) earlier) (first-distinct earlier es) (first-distinct (f ∷ earlier) es)
  where
    wrong : (b : Bool) → same_edge f f ≡ true → (same_edge f f || b) ≡ false → ⊥
    wrong b e h = cc

    at : (b : Bool) → AreDistinct (first_of_each earlier es) → AreDistinct (first_of_each (f ∷ earlier) es) → AreDistinct (cond b (first_of_each earlier es) (f ∷ first_of_each (f ∷ earlier) es))
    at true one two = one
    at false one two = (λ i. wrong (list_any (same_edge f) earlier) (same_edge-refl f) (first-apart (f ∷ earlier) es f i), two)

edges-distinct : (P : Plan) → AreDistinct (edges P)
edges-distinct P = first-distinct [] (flat_map (λ o. edges_in P o.name o.part) P.objects)

-- Facts of one client

-- the name of the client whose the fact is
abbrev owner : Fact → List ℕ
owner (Reaches n reach x) = n
owner (Views n class_id object) = n
owner (Holds n access x) = n
owner (HasSap n sap) = n
owner (IsOpen n) = n
owner (HasCell x) = []
owner (HasEdge e) = []

abbrev reach_of : Fact → Reach
reach_of (Reaches n reach x) = reach
reach_of _ = reaches.Learn

abbrev access_of : Fact → Access
access_of (Holds n access x) = access
access_of _ = accesses.Act

abbrev object_of : Fact → LogicalName
object_of (Views n class_id object) = object
object_of (Holds n access x) = x.name
object_of _ = record { 0 = [] }

reaches-distinct : AreDistinct (map (λ (r : Reach). r) (reaches.Influence ∷ reaches.Learn ∷ []))
reaches-distinct = (λ i. elim i [ inl e ↦ wrong e | inr j ↦ j ], (λ i. i, tt))
  where
    wrong : reaches.Influence ≡ reaches.Learn → ⊥
    wrong e = cc

accesses-distinct : AreDistinct (map (λ (a : Access). a) (accesses.Get ∷ accesses.Set ∷ accesses.Act ∷ []))
accesses-distinct = (λ i. elim i [ inl e ↦ one e | inr j ↦ elim j [ inl e ↦ two e | inr k ↦ k ] ], (λ i. elim i [ inl e ↦ three e | inr j ↦ j ], (λ i. i, tt)))
  where
    one : accesses.Get ≡ accesses.Set → ⊥
    one e = cc

    two : accesses.Get ≡ accesses.Act → ⊥
    two e = cc

    three : accesses.Set ≡ accesses.Act → ⊥
    three e = cc

reach-cell : (n : List ℕ) (r : Reach) (x y : CellRef) → Reaches n r x ≡ Reaches n r y → x ≡ y
reach-cell n r x y e = ap cell_of_fact e
  where
    cell_of_fact : Fact → CellRef
    cell_of_fact (Reaches n r z) = z
    cell_of_fact _ = x

held-cell : (n : List ℕ) (a : Access) (x y : CellRef) → Holds n a x ≡ Holds n a y → x ≡ y
held-cell n a x y e = ap cell_of_fact e
  where
    cell_of_fact : Fact → CellRef
    cell_of_fact (Holds n a z) = z
    cell_of_fact _ = x

reached-once : (P : Plan) → AreDistinct (cells P) → (Q : Labelling) (n : Numbered) → AreDistinct (reached P Q n)
reached-once P d Q n =
    distinct-flat_map (λ r. map (Reaches n.1.name r) (filter (is_reached Q n.0 r) (cells P))) (λ r. r) reach_of (reaches.Influence ∷ reaches.Learn ∷ []) reaches-distinct
    (λ r. distinct-map (Reaches n.1.name r) (filter (is_reached Q n.0 r) (cells P)) (reach-cell n.1.name r) (distinct-filter (is_reached Q n.0 r) (cells P) d))
    (λ r f i. let x = from_map (Reaches n.1.name r) (filter (is_reached Q n.0 r) (cells P)) f i in ap reach_of x.2)

reached-own : (P : Plan) (Q : Labelling) (n : Numbered) (f : Fact) → IsIn (reached P Q n) f → owner f ≡ n.1.name
reached-own P Q n f i =
    let r = from_flat_map (λ r. map (Reaches n.1.name r) (filter (is_reached Q n.0 r) (cells P))) (reaches.Influence ∷ reaches.Learn ∷ []) f i in
    let x = from_map (Reaches n.1.name r.0) (filter (is_reached Q n.0 r.0) (cells P)) f r.2 in
    ap owner x.2

members-once : (access : Access) (o : Object) → AreDistinct (members_for access o)
members-once access o =
    distinct-map (cell (class_of o.part) o.name) (range_with_len 1 (highest_for access (interface_of o.part))) (λ i j e. ap (λ x. x.index) e) (range-distinct 1 (highest_for access (interface_of o.part)))

-- what is held on an object, access by access
abbrev held_on : Plan → Numbered → Object → List Fact
held_on P n o = flat_map (λ a. map (Holds n.1.name a) (filter (is_granted P n.0 a) (members_for a o))) (accesses.Get ∷ accesses.Set ∷ accesses.Act ∷ [])

held-is : (P : Plan) (n : Numbered) (o : Object) (f : Fact) → IsIn (held_on P n o) f → (a : Access) × (x : CellRef) × (f ≡ Holds n.1.name a x) × (x.name ≡ o.name)
held-is P n o f i =
    let a = from_flat_map (λ a. map (Holds n.1.name a) (filter (is_granted P n.0 a) (members_for a o))) (accesses.Get ∷ accesses.Set ∷ accesses.Act ∷ []) f i in
    let x = from_map (Holds n.1.name a.0) (filter (is_granted P n.0 a.0) (members_for a.0 o)) f a.2 in
    let k = from_map (cell (class_of o.part) o.name) (range_with_len 1 (highest_for a.0 (interface_of o.part))) x.0 (from_filter (is_granted P n.0 a.0) (members_for a.0 o) x.0 x.1).0 in
    (a.0, x.0, x.2, ap (λ y. y.name) k.2)

view-is : (n : Numbered) (o : Object) (b : Bool) (f : Fact) → IsIn (cond b (Views n.1.name (class_of o.part) o.name ∷ []) []) f → f ≡ Views n.1.name (class_of o.part) o.name
view-is n o true f (inl e) = e
view-is n o true f (inr i) = absurd i
view-is n o false f i = absurd i

view-once : (n : Numbered) (o : Object) (b : Bool) → AreDistinct (cond b (Views n.1.name (class_of o.part) o.name ∷ []) [])
view-once n o true = (λ i. i, tt)
view-once n o false = tt

rights-once : (P : Plan) (n : Numbered) (o : Object) → AreDistinct (rights_on P n o)
rights-once P n o =
    distinct-append (cond (has_right P n.0 o.name (λ r. true)) (Views n.1.name (class_of o.part) o.name ∷ []) []) (held_on P n o) (view-once n o (has_right P n.0 o.name (λ r. true)))
    (distinct-flat_map (λ a. map (Holds n.1.name a) (filter (is_granted P n.0 a) (members_for a o))) (λ a. a) access_of (accesses.Get ∷ accesses.Set ∷ accesses.Act ∷ []) accesses-distinct
    (λ a. distinct-map (Holds n.1.name a) (filter (is_granted P n.0 a) (members_for a o)) (held-cell n.1.name a) (distinct-filter (is_granted P n.0 a) (members_for a o) (members-once a o)))
    (λ a f i. let x = from_map (Holds n.1.name a) (filter (is_granted P n.0 a) (members_for a o)) f i in ap access_of x.2))
    (λ f i j. let h = held-is P n o f j in wrong h.0 h.1 (sym (view-is n o (has_right P n.0 o.name (λ r. true)) f i) ∙ h.2))
  where
    wrong : (a : Access) (x : CellRef) → Views n.1.name (class_of o.part) o.name ≡ Holds n.1.name a x → ⊥
    wrong a x e = cc

rights-own : (P : Plan) (n : Numbered) (o : Object) (f : Fact) → IsIn (rights_on P n o) f → (owner f ≡ n.1.name) × (object_of f ≡ o.name)
rights-own P n o f i = at (in_append_cases (cond (has_right P n.0 o.name (λ r. true)) (Views n.1.name (class_of o.part) o.name ∷ []) []) (held_on P n o) f i)
  where
    at : IsIn (cond (has_right P n.0 o.name (λ r. true)) (Views n.1.name (class_of o.part) o.name ∷ []) []) f ⊎ IsIn (held_on P n o) f → (owner f ≡ n.1.name) × (object_of f ≡ o.name)
    at (inl j) = let e = view-is n o (has_right P n.0 o.name (λ r. true)) f j in (ap owner e, ap object_of e)
    at (inr j) = let h = held-is P n o f j in (ap owner h.2, ap object_of h.2 ∙ h.3)

-- Facts of a kind

own-once : (C other : Configuration) → IsSound C.plan → AreDistinct (cells C.plan) → (kind : Kind) (n : Numbered) → AreDistinct (own_facts C other kind n)
own-once C other sound d kinds.May n = reached-once C.plan d (labelling_of C.labels) n
own-once C other sound d kinds.Allowed n = reached-once C.plan d (shared_policy C other) n
own-once C other sound d kinds.Right n = distinct-flat_map (rights_on C.plan n) (λ o. o.name) object_of C.plan.objects sound.names (rights-once C.plan n) (λ o f i. (rights-own C.plan n o f i).1)
own-once C other sound d kinds.Client n = at (is_some n.1.password)
  where
    wrong : HasSap n.1.name n.1.sap ≡ IsOpen n.1.name → ⊥
    wrong e = cc

    at : (b : Bool) → AreDistinct (HasSap n.1.name n.1.sap ∷ cond b [] (IsOpen n.1.name ∷ []))
    at true = (λ i. i, tt)
    at false = (λ i. elim i [ inl e ↦ wrong e | inr j ↦ j ], (λ i. i, tt))
own-once C other sound d kinds.Cell n = tt
own-once C other sound d kinds.Edge n = tt

own-owner : (C other : Configuration) (kind : Kind) (n : Numbered) (f : Fact) → IsIn (own_facts C other kind n) f → owner f ≡ n.1.name
own-owner C other kinds.May n f i = reached-own C.plan (labelling_of C.labels) n f i
own-owner C other kinds.Allowed n f i = reached-own C.plan (shared_policy C other) n f i
own-owner C other kinds.Right n f i = let o = from_flat_map (rights_on C.plan n) C.plan.objects f i in (rights-own C.plan n o.0 f o.2).0
own-owner C other kinds.Client n f i = at (is_some n.1.password) i
  where
    at : (b : Bool) → IsIn (HasSap n.1.name n.1.sap ∷ cond b [] (IsOpen n.1.name ∷ [])) f → owner f ≡ n.1.name
    at b (inl e) = ap owner e
    at true (inr j) = absurd j
    at false (inr (inl e)) = ap owner e
    at false (inr (inr j)) = absurd j
own-owner C other kinds.Cell n f i = absurd i
own-owner C other kinds.Edge n f i = absurd i

all-own-once : (C other : Configuration) → IsSound C.plan → AreDistinct (cells C.plan) → (kind : Kind) → AreDistinct (flat_map (own_facts C other kind) (numbered C.plan))
all-own-once C other sound d kind =
    distinct-flat_map (own_facts C other kind) (λ n. n.1.name) owner (numbered C.plan) (subst AreDistinct (sym (numbered-names 0 C.plan.clients)) sound.clients_apart) (own-once C other sound d kind) (own-owner C other kind)

none-own : {A B : Type 0} (xs : List A) → flat_map {A = B} (λ x. []) xs ≡ []
none-own [] = refl
none-own (x ∷ xs) = none-own xs

facts-once : (C other : Configuration) → IsSound C.plan → AreDistinct (cells C.plan) → (kind : Kind) → AreDistinct (flat_map (own_facts C other kind) (numbered C.plan) ++ common_facts C kind)
facts-once C other sound d kinds.May = subst AreDistinct (sym (append-nil (flat_map (own_facts C other kinds.May) (numbered C.plan)))) (all-own-once C other sound d kinds.May)
facts-once C other sound d kinds.Allowed = subst AreDistinct (sym (append-nil (flat_map (own_facts C other kinds.Allowed) (numbered C.plan)))) (all-own-once C other sound d kinds.Allowed)
facts-once C other sound d kinds.Right = subst AreDistinct (sym (append-nil (flat_map (own_facts C other kinds.Right) (numbered C.plan)))) (all-own-once C other sound d kinds.Right)
facts-once C other sound d kinds.Client = subst AreDistinct (sym (append-nil (flat_map (own_facts C other kinds.Client) (numbered C.plan)))) (all-own-once C other sound d kinds.Client)
facts-once C other sound d kinds.Cell = subst (λ fs. AreDistinct (fs ++ map HasCell (cells C.plan))) (sym (none-own (numbered C.plan))) (distinct-map HasCell (cells C.plan) one d)
  where
    one : (x y : CellRef) → HasCell x ≡ HasCell y → x ≡ y
    one x y e = cc
facts-once C other sound d kinds.Edge = subst (λ fs. AreDistinct (fs ++ map HasEdge (edges C.plan))) (sym (none-own (numbered C.plan))) (distinct-map HasEdge (edges C.plan) one (edges-distinct C.plan))
  where
    one : (x y : Edge) → HasEdge x ≡ HasEdge y → x ≡ y
    one x y e = cc

-- each fact that is gained stands once
pub gained-once : (old new : Configuration) (kind : Kind) → IsSound new.plan → AreCells (cells new.plan) → AreDistinct (gained old new kind)
unfolding gained facts
gained-once old new kind sound are =
    distinct-filter (lacks old new kind) (flat_map (own_facts new old kind) (numbered new.plan) ++ common_facts new kind) (facts-once new old sound (cells-distinct (cells new.plan) are.apart) kind)
