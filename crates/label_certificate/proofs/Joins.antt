-- The clients that rights let influence cells, method by method.
use Rattle.std.specs.Prelude.{◌≡◌, ◌≢◌, ℕ, zero, suc, ◌+◌, ◌<◌, ◌≤◌, ◌==◌, nat_lt, nat_le, Bool, true, false, ◌&&◌, ◌||◌, cond, ◌⊎◌, List, [], ◌∷◌, ◌++◌, map, flat_map, take, length, get_or, set, Option, Some, None}
use Rattle.std.specs.List.{position_from, range_with_len}
use Rattle.std.proofs.Common.{refl, sym, ap, ap₂, subst, ◌∙◌, arith, inl, inr, leb-true, eqb-true}
use Rattle.std.proofs.lemmas.Bool.{ltb-false, and_parts, and_from, or_cases, or_left, or_right}
use Rattle.std.proofs.lemmas.List.{length-set, get_or-set_same, get_or-set_other, get_or_append_left, take_more}
use Rattle.std.proofs.Math.Seq.{get_or-append_seam}
use Rattle.std.proofs.lemmas.List.Folds.{list_any-append}
use Rattle.std.proofs.lemmas.List.FromFn.{map-range_with_len_more}
use Rattle.cosem_data.specs.Cells.{same_cell, same_name}
use Rattle.cosem_data.specs.declared.cell.CellRef.{CellRef}
use Rattle.cosem_data.specs.declared.cell.MethodRef.{MethodRef}
use Rattle.cosem_data.specs.declared.clients.ClientSet.{ClientSet}
use Rattle.cosem_data.proofs.Same.{same_cell-true, same_cell-refl, same_name-true}
use Rattle.meter_theory.specs.Lists.{IsIn, some_passes}
use Rattle.meter_theory.specs.Edges.{among}
use Rattle.meter_theory.specs.Labels.{MayChange, has, method_changes_of}
use Rattle.meter_theory.specs.Plan.{Plan, Object, Part, Data1, Right, buffer, cells, entries_in_use, interface_of, object_at}
use Rattle.meter_theory.specs.Rights.{has_right, lists, may_act, may_get, may_set}
use Rattle.meter_theory.specs.Sound.{IsSound, are_indexes, highest_method}
use Rattle.meter_theory.specs.Steps.{empties}
use Rattle.meter_theory.specs.declared.flow.Label.{Label}
use Rattle.meter_theory.specs.declared.limits.TheConstants.{CLIENTS}
use Rattle.cosem_data.specs.declared.name.LogicalName.{LogicalName}
use Rattle.meter_theory.proofs.Admission.{known_client}
use Rattle.meter_theory.proofs.Agreement.{object-found}
use Rattle.meter_theory.proofs.Check.{among_in, in_among}
use Rattle.meter_theory.proofs.Lists.{any_in, in_any, in_flat_map, in_map, in_range}
use Rattle.meter_theory.proofs.Theorem.{all_at}
use Rattle.flow_edges.specs.Table.{cell_at, AreCells}
use Rattle.flow_edges.proofs.Sources.{numbered, unnumbered}
use Rattle.label_certificate.specs.Granted.{AreGranted, AreOwn, AreJoined, by_clients, emptied_by, label_in, may_call_for, may_empty, methods_of}

-- the labels of the first cells have the clients that may set, and those that may read them
abbrev pub IsOwnTo : Plan → ℕ → List Label → Type 0
IsOwnTo P k labels = (i : ℕ) → i < k → (c : ℕ) →
    (has (label_in labels i).influence c ≡ may_set P c (cell_at (cells P) i)) × (has (label_in labels i).learn c ≡ may_get P c (cell_at (cells P) i))

or-assoc : (a b c : Bool) → ((a || b) || c) ≡ (a || (b || c))
or-assoc true b c = refl
or-assoc false b c = refl

or-none : (a : Bool) → a ≡ (a || false)
or-none true = refl
or-none false = refl

-- nothing was joined
pub joined-nothing : (P : Plan) (more : ℕ → CellRef → Bool) (labels : List Label) → ((c : ℕ) (x : CellRef) → more c x ≡ false) → AreJoined P more labels labels
joined-nothing P more labels none = record {
  size = refl;
  influence = λ i h c. or-none (has (label_in labels i).influence c) ∙ ap (λ b. has (label_in labels i).influence c || b) (sym (none c (cell_at (cells P) i)));
  learn = λ i. refl;
}

-- one after another
pub joined-both : (P : Plan) (f g h : ℕ → CellRef → Bool) (old now new : List Label) → ((c : ℕ) (x : CellRef) → h c x ≡ (f c x || g c x)) →
    AreJoined P f old now → AreJoined P g now new → AreJoined P h old new
joined-both P f g h old now new both first next = record {
  size = next.size ∙ first.size;
  influence = λ i k c. let x = cell_at (cells P) i in
      next.influence i k c
      ∙ (ap (λ b. b || g c x) (first.influence i k c)
      ∙ (or-assoc (has (label_in old i).influence c) (f c x) (g c x)
      ∙ ap (λ b. has (label_in old i).influence c || b) (sym (both c x))));
  learn = λ i. next.learn i ∙ first.learn i;
}

pub joined-same : (P : Plan) (f g : ℕ → CellRef → Bool) (old new : List Label) → ((c : ℕ) (x : CellRef) → g c x ≡ f c x) → AreJoined P f old new → AreJoined P g old new
joined-same P f g old new same joined = record {
  size = joined.size;
  influence = λ i k c. joined.influence i k c ∙ ap (λ b. has (label_in old i).influence c || b) (sym (same c (cell_at (cells P) i)));
  learn = joined.learn;
}

-- the methods of two lists
pub calls-both : (P : Plan) (ms ns : List MethodRef) (c : ℕ) (x : CellRef) → may_call_for P (ms ++ ns) c x ≡ (may_call_for P ms c x || may_call_for P ns c x)
calls-both P ms ns c x = list_any-append (λ m. may_act P c m && among (method_changes_of P m) x) ms ns

-- one more cell
among-more : (clients : ClientSet) (before : List CellRef) (y : CellRef) (c : ℕ) (x : CellRef) →
    by_clients clients (before ++ y ∷ []) c x ≡ (by_clients clients before c x || (has clients c && same_cell x y))
among-more clients before y c x = ap (λ b. has clients c && b) (list_any-append (same_cell x) before (y ∷ [])) ∙ at (has clients c) (among before x) (same_cell x y)
  where
    at : (h a s : Bool) → (h && (a || (s || false))) ≡ ((h && a) || (h && s))
    at true true s = refl
    at true false true = refl
    at true false false = refl
    at false a s = refl

same_or_not : (m n : ℕ) → (m ≡ n) ⊎ (m ≢ n)
same_or_not m n = grind arith

-- these clients were let influence the cell with this number
pub joined-at : (P : Plan) (clients : ClientSet) (y : CellRef) (n : ℕ) (old : List Label) (l : Label) → AreCells (cells P) → position_from (same_cell y) 0 (cells P) ≡ Some n →
    length old ≡ length (cells P) → ((c : ℕ) → has l.influence c ≡ (has (label_in old n).influence c || has clients c)) → l.learn ≡ (label_in old n).learn →
    AreJoined P (λ c x. has clients c && same_cell x y) old (set old n l)
joined-at P clients y n old l are is size influence learn = record {
  size = length-set old n l;
  influence = λ i h c. at i h c (same_or_not i n);
  learn = λ i. learned i (same_or_not i n);
}
  where
    here : (n < length (cells P)) × (cell_at (cells P) n ≡ y)
    here = numbered (cells P) y n is

    both : (b : Bool) → (b && true) ≡ b
    both true = refl
    both false = refl

    neither : (a b : Bool) → a ≡ (a || (b && false))
    neither true b = refl
    neither false true = refl
    neither false false = refl

    apart : (i : ℕ) → i < length (cells P) → i ≢ n → (b : Bool) → same_cell (cell_at (cells P) i) y ≡ b → b ≡ false
    apart i h other false e = refl
    apart i h other true e = absurd (other (are.apart i n h here.0 (subst (λ z. same_cell (cell_at (cells P) i) z ≡ true) (sym here.1) e)))

    at : (i : ℕ) → i < length (cells P) → (c : ℕ) → (i ≡ n) ⊎ (i ≢ n) →
        has (label_in (set old n l) i).influence c ≡ (has (label_in old i).influence c || (has clients c && same_cell (cell_at (cells P) i) y))
    at i h c (inl same) =
        ap (λ z. has z.influence c) (ap (label_in (set old n l)) same ∙ get_or-set_same old n l _ (subst (λ z. n < z) (sym size) here.0))
        ∙ (influence c
        ∙ (ap (λ z. has (label_in old z).influence c || has clients c) (sym same)
        ∙ ap (λ b. has (label_in old i).influence c || b)
        (sym (ap (λ b. has clients c && b) (subst (λ z. same_cell z y ≡ true) (sym (ap (cell_at (cells P)) same ∙ here.1)) (same_cell-refl y)) ∙ both (has clients c)))))
    at i h c (inr other) =
        ap (λ z. has z.influence c) (get_or-set_other old n i l _ other)
        ∙ (neither (has (label_in old i).influence c) (has clients c)
        ∙ ap (λ b. has (label_in old i).influence c || (has clients c && b)) (sym (apart i h other (same_cell (cell_at (cells P) i) y) refl)))

    learned : (i : ℕ) → (i ≡ n) ⊎ (i ≢ n) → (label_in (set old n l) i).learn ≡ (label_in old i).learn
    learned i (inl same) =
        ap (λ z. z.learn) (ap (label_in (set old n l)) same ∙ get_or-set_same old n l _ (subst (λ z. n < z) (sym size) here.0))
        ∙ (learn ∙ ap (λ z. (label_in old z).learn) (sym same))
    learned i (inr other) = ap (λ z. z.learn) (get_or-set_other old n i l _ other)

-- what is no cell of the plan joins nothing
pub joined-nowhere : (P : Plan) (clients : ClientSet) (y : CellRef) (labels : List Label) → position_from (same_cell y) 0 (cells P) ≡ None →
    AreJoined P (λ c x. has clients c && same_cell x y) labels labels
joined-nowhere P clients y labels is = record {
  size = refl;
  influence = λ i h c. at c (same_cell (cell_at (cells P) i) y) (other i h (same_cell (cell_at (cells P) i) y) refl) (has (label_in labels i).influence c) (has clients c);
  learn = λ i. refl;
}
  where
    other : (i : ℕ) → i < length (cells P) → (b : Bool) → same_cell (cell_at (cells P) i) y ≡ b → b ≡ false
    other i h false e = refl
    other i h true e = absurd (unnumbered (cells P) y is (subst (IsIn (cells P)) (same_cell-true (cell_at (cells P) i) y e) (item_at (cells P) i h)))
      where
        item_at : (xs : List CellRef) (i : ℕ) → i < length xs → IsIn xs (cell_at xs i)
        item_at [] i h = absurd (omega arith)
        item_at (x ∷ xs) zero h = inl refl
        item_at (x ∷ xs) (suc i) h = inr (item_at xs i (omega arith))

    at : (c : ℕ) (s : Bool) → s ≡ false → (a b : Bool) → a ≡ (a || (b && s))
    at c true e a b = cc
    at c false e true b = refl
    at c false e false true = refl
    at c false e false false = refl

pub joined-more : (P : Plan) (clients : ClientSet) (before : List CellRef) (y : CellRef) (old now new : List Label) →
    AreJoined P (by_clients clients before) old now → AreJoined P (λ c x. has clients c && same_cell x y) now new → AreJoined P (by_clients clients (before ++ y ∷ [])) old new
joined-more P clients before y old now new first next =
    joined-both P (by_clients clients before) (λ c x. has clients c && same_cell x y) (by_clients clients (before ++ y ∷ [])) old now new (among-more clients before y) first next

-- Whose rights they are

-- a method that may be granted is one of its class
highest-method : (part : Part) → highest_method part ≤ (interface_of part).methods
highest-method (Data1 first) = omega arith
highest-method _ = omega arith

-- a right to a method is a right to one of an object of the plan
right-method : (P : Plan) → IsSound P → (c : ℕ) (m : MethodRef) → may_act P c m ≡ true →
    (o : Object) × IsIn P.objects o × (o.name ≡ m.name) × (1 ≤ m.index) × (m.index ≤ (interface_of o.part).methods)
right-method P sound c m h =
    let r = any_in (λ z. ((z.client == c) && same_name z.object m.name) && lists z.acts m.index) P.rights h in
    let a = and_parts ((r.0.client == c) && same_name r.0.object m.name) (lists r.0.acts m.index) r.2 in
    let name : r.0.object ≡ m.name = same_name-true r.0.object m.name (and_parts (r.0.client == c) (same_name r.0.object m.name) a.0).1 in
    at r.0 name a.1 (object_at P r.0.object) refl (and_parts (nat_lt r.0.client (length P.clients)) _ (sound.rights r.0 r.1)).1
  where
    at : (r : Right) → r.object ≡ m.name → lists r.acts m.index ≡ true → (o : Option Object) → object_at P r.object ≡ o →
        some_passes (λ o. are_indexes (interface_of o.part).attributes r.gets && (are_indexes (interface_of o.part).attributes r.sets && are_indexes (highest_method o.part) r.acts)) o ≡ true →
        (o : Object) × IsIn P.objects o × (o.name ≡ m.name) × (1 ≤ m.index) × (m.index ≤ (interface_of o.part).methods)
    at r name listed None is e = cc
    at r name listed (Some o) is e =
        let acts = (and_parts (are_indexes (interface_of o.part).attributes r.sets) (are_indexes (highest_method o.part) r.acts)
        (and_parts (are_indexes (interface_of o.part).attributes r.gets) _ e).1).1 in
        let i = any_in (λ z. z == m.index) r.acts listed in
        let one = and_parts (nat_le 1 i.0) (nat_le i.0 (highest_method o.part)) (all_at (λ z. nat_le 1 z && nat_le z (highest_method o.part)) r.acts i.0 acts i.1) in
        let index : i.0 ≡ m.index = eqb-true i.0 m.index i.2 in
        let found = object-found P r.object o is in
        let low = leb-true i.0 (highest_method o.part) one.1 in
        let least = highest-method o.part in
        (o, found.0, found.1 ∙ name, subst (λ z. 1 ≤ z) index (leb-true 1 i.0 one.0), subst (λ z. z ≤ (interface_of o.part).methods) index (omega (arith, low, least)))

-- the methods of all objects are all that rights are of
pub calls-found : (P : Plan) → IsSound P → (c : ℕ) (x : CellRef) (m : MethodRef) → may_act P c m ≡ true → IsIn (method_changes_of P m) x →
    may_call_for P (flat_map methods_of P.objects) c x ≡ true
calls-found P sound c x m may changes =
    let o = right-method P sound c m may in
    let same : MethodRef = record { class_id = (interface_of o.0.part).class_id; name = o.0.name; index = m.index } in
    in_any (λ n. may_act P c n && among (method_changes_of P n) x) (flat_map methods_of P.objects) same
    (in_flat_map methods_of P.objects o.0 same o.1
    (in_map (λ i. record { class_id = (interface_of o.0.part).class_id; name = o.0.name; index = i }) (range_with_len 1 (interface_of o.0.part).methods) m.index
    (in_range 1 (interface_of o.0.part).methods m.index o.3 (omega (arith, o.4)))))
    (and_from (may_act P c same) (among (method_changes_of P same) x)
    (subst (λ n. may_act P c (record { class_id = (interface_of o.0.part).class_id; name = n; index = m.index }) ≡ true) (sym o.2) may)
    (subst (λ n. among (method_changes_of P (record { class_id = (interface_of o.0.part).class_id; name = n; index = m.index })) x ≡ true) (sym o.2) (in_among (method_changes_of P m) x changes)))

-- one more cell that may be set
pub emptied-more : (P : Plan) (xs : List CellRef) (k : ℕ) (x : CellRef) (old now new : List Label) → k < length xs → x ≡ get_or xs k x →
    AreJoined P (may_empty P (take k xs)) old now → AreJoined P (may_empty P (x ∷ [])) now new → AreJoined P (may_empty P (take (k + 1) xs)) old new
emptied-more P xs k x old now new less is first next =
    joined-both P (may_empty P (take k xs)) (may_empty P (x ∷ [])) (may_empty P (take (k + 1) xs)) old now new
    (λ c y. ap (λ zs. may_empty P zs c y) (take_more xs k x less ∙ ap (λ z. take k xs ++ z ∷ []) (sym is))
    ∙ list_any-append (λ z. may_set P c z && among (emptied_by z) y) (take k xs) (x ∷ []))
    first next

-- the entries of a profile are its own
pub entries-named : (n : LogicalName) (x : CellRef) → IsIn (buffer n ∷ entries_in_use n ∷ []) x → x.name ≡ n
entries-named n x (inl same) = ap (λ y. y.name) same
entries-named n x (inr (inl same)) = ap (λ y. y.name) same
entries-named n x (inr (inr none)) = absurd none

-- a cell whose write empties nothing
pub empties-nothing : (P : Plan) (y : CellRef) → empties y ≡ false → (c : ℕ) (x : CellRef) → may_empty P (y ∷ []) c x ≡ false
empties-nothing P y none c x =
    ap (λ b. (may_set P c y && among (cond b (buffer y.name ∷ entries_in_use y.name ∷ []) []) x) || false) none ∙ at (may_set P c y)
  where
    at : (b : Bool) → ((b && false) || false) ≡ false
    at true = refl
    at false = refl

-- and one whose write empties a profile
pub empties-both : (P : Plan) (y : CellRef) (clients : ClientSet) → empties y ≡ true → ((c : ℕ) → has clients c ≡ may_set P c y) →
    (c : ℕ) (x : CellRef) → may_empty P (y ∷ []) c x ≡ by_clients clients (buffer y.name ∷ entries_in_use y.name ∷ []) c x
empties-both P y clients all asked c x =
    sym (or-none (may_set P c y && among (emptied_by y) x))
    ∙ (ap (λ b. may_set P c y && among (cond b (buffer y.name ∷ entries_in_use y.name ∷ []) []) x) all
    ∙ ap (λ b. b && among (buffer y.name ∷ entries_in_use y.name ∷ []) x) (sym (asked c)))

pub all-granted : (P : Plan) (own written labels : List Label) → IsSound P → AreOwn P own → AreJoined P (may_empty P (cells P)) own written →
    AreJoined P (may_call_for P (flat_map methods_of P.objects)) written labels → AreGranted P labels
all-granted P own written labels sound first emptied called = record {
  size = joined.size ∙ first.size;
  each = λ i h. record {
    influence = λ c. let x = cell_at (cells P) i in let is = joined.influence i h c ∙ ap (λ b. b || more c x) (first.influence i h c) in (
      λ e. given c x (item_at (cells P) i h) (sym is ∙ e),
      λ may. is ∙ may_from c x may,
    );
    learn = λ c. ap (λ z. has z c) (joined.learn i) ∙ first.learn i h c;
  };
}
  where
    more : ℕ → CellRef → Bool
    more c x = may_empty P (cells P) c x || may_call_for P (flat_map methods_of P.objects) c x

    joined : AreJoined P more own labels
    joined = joined-both P (may_empty P (cells P)) (may_call_for P (flat_map methods_of P.objects)) more own written labels (λ c x. refl) emptied called

    may_from : (c : ℕ) (x : CellRef) → MayChange P c x → (may_set P c x || more c x) ≡ true
    may_from c x (inl (y, there, sets, inl same)) = or_left (may_set P c x) (more c x) (subst (λ z. may_set P c z ≡ true) (sym same) sets)
    may_from c x (inl (y, there, sets, inr changes)) =
        or_right (may_set P c x) (more c x)
        (or_left (may_empty P (cells P) c x) (may_call_for P (flat_map methods_of P.objects) c x)
        (in_any (λ z. may_set P c z && among (emptied_by z) x) (cells P) y there (and_from (may_set P c y) (among (emptied_by y) x) sets (in_among (emptied_by y) x changes))))
    may_from c x (inr h) =
        or_right (may_set P c x) (more c x)
        (or_right (may_empty P (cells P) c x) (may_call_for P (flat_map methods_of P.objects) c x) (calls-found P sound c x h.0 h.1 h.2))

    item_at : (xs : List CellRef) (i : ℕ) → i < length xs → IsIn xs (cell_at xs i)
    item_at [] i h = absurd (omega arith)
    item_at (x ∷ xs) zero h = inl refl
    item_at (x ∷ xs) (suc i) h = inr (item_at xs i (omega arith))

    given : (c : ℕ) (x : CellRef) → IsIn (cells P) x → (may_set P c x || more c x) ≡ true → MayChange P c x
    given c x there e =
        elim (or_cases (may_set P c x) (more c x) e) [
          | inl s ↦ inl (x, there, s, inl refl)
          | inr s ↦ elim (or_cases (may_empty P (cells P) c x) (may_call_for P (flat_map methods_of P.objects) c x) s) [
            | inl w ↦
                let y = any_in (λ z. may_set P c z && among (emptied_by z) x) (cells P) w in
                let p = and_parts (may_set P c y.0) (among (emptied_by y.0) x) y.2 in
                inl (y.0, y.1, p.0, inr (among_in (emptied_by y.0) x p.1))
            | inr w ↦
                let m = any_in (λ m. may_act P c m && among (method_changes_of P m) x) (flat_map methods_of P.objects) w in
                let p = and_parts (may_act P c m.0) (among (method_changes_of P m.0) x) m.2 in
                inr (m.0, p.0, among_in (method_changes_of P m.0) x p.1)
          ]
        ]

-- all clients that there are were asked
pub asked-all : (P : Plan) → IsSound P → (name : LogicalName) (test : Right → Bool) (set : ClientSet) (n : ℕ) → CLIENTS ≤ n →
    ((c : ℕ) → has set c ≡ (nat_lt c n && has_right P c name test)) → (c : ℕ) → has set c ≡ has_right P c name test
asked-all P sound name test set n all is c = at (nat_lt c n) refl (has_right P c name test) refl
  where
    at : (b : Bool) → nat_lt c n ≡ b → (h : Bool) → has_right P c name test ≡ h → has set c ≡ has_right P c name test
    at true e h k = is c ∙ ap (λ z. z && has_right P c name test) e
    at false e false k = is c ∙ (ap (λ z. z && has_right P c name test) e ∙ sym k)
    at false e true k = absurd (omega (arith, all, ltb-false c n e, known_client P sound c name test k, sound.few_clients))

-- one label more
pub owned-more : (P : Plan) (labels : List Label) (k : ℕ) (x : CellRef) (l : Label) → length labels ≡ k → x ≡ cell_at (cells P) k →
    ((c : ℕ) → has l.influence c ≡ may_set P c x) → ((c : ℕ) → has l.learn c ≡ may_get P c x) → IsOwnTo P k labels → IsOwnTo P (k + 1) (labels ++ l ∷ [])
owned-more P labels k x l size is influence learn own i less c = at (same_or_not i k)
  where
    at : (i ≡ k) ⊎ (i ≢ k) → (has (label_in (labels ++ l ∷ []) i).influence c ≡ may_set P c (cell_at (cells P) i)) × (has (label_in (labels ++ l ∷ []) i).learn c ≡ may_get P c (cell_at (cells P) i))
    at (inl same) =
        let here : label_in (labels ++ l ∷ []) i ≡ l = ap (label_in (labels ++ l ∷ [])) (same ∙ sym size) ∙ get_or-append_seam labels l [] _ in
        let there : x ≡ cell_at (cells P) i = is ∙ ap (cell_at (cells P)) (sym same) in
        (ap (λ z. has z.influence c) here ∙ (influence c ∙ ap (may_set P c) there), ap (λ z. has z.learn c) here ∙ (learn c ∙ ap (may_get P c) there))
    at (inr other) =
        let within : i < length labels = omega (arith, less, other, size) in
        let here : label_in (labels ++ l ∷ []) i ≡ label_in labels i = get_or_append_left labels (l ∷ []) _ i within in
        let old = own i (omega (arith, less, other)) c in
        (ap (λ z. has z.influence c) here ∙ old.0, ap (λ z. has z.learn c) here ∙ old.1)

-- the method with an index of an object with this name
abbrev pub method_at : (class_id : ℕ) → LogicalName → ℕ → MethodRef
method_at class_id n i = record { class_id = class_id; name = n; index = i }

-- one method more
pub joined-method : (P : Plan) (class_id k : ℕ) (n : LogicalName) (m : MethodRef) (clients : ClientSet) (old now new : List Label) → m.name ≡ n → m.index ≡ k + 1 →
    ((c : ℕ) → has clients c ≡ may_act P c m) → AreJoined P (may_call_for P (map (method_at class_id n) (range_with_len 1 k))) old now →
    AreJoined P (by_clients clients (method_changes_of P m)) now new → AreJoined P (may_call_for P (map (method_at class_id n) (range_with_len 1 (k + 1)))) old new
joined-method P class_id k n m clients old now new name index called first next =
    joined-both P (may_call_for P (map (method_at class_id n) (range_with_len 1 k))) (by_clients clients (method_changes_of P m)) (may_call_for P (map (method_at class_id n) (range_with_len 1 (k + 1)))) old now new both first next
  where
    or-nothing : (a : Bool) → (a || false) ≡ a
    or-nothing true = refl
    or-nothing false = refl

    one : (c : ℕ) (x : CellRef) → may_call_for P (method_at class_id n (k + 1) ∷ []) c x ≡ by_clients clients (method_changes_of P m) c x
    one c x =
        or-nothing (may_act P c (method_at class_id n (k + 1)) && among (method_changes_of P (method_at class_id n (k + 1))) x)
        ∙ (ap₂ (λ o i. may_act P c (method_at class_id o i) && among (method_changes_of P (method_at class_id o i)) x) (sym name) (sym index)
        ∙ ap (λ b. b && among (method_changes_of P m) x) (sym (called c)))

    both : (c : ℕ) (x : CellRef) → may_call_for P (map (method_at class_id n) (range_with_len 1 (k + 1))) c x
        ≡ (may_call_for P (map (method_at class_id n) (range_with_len 1 k)) c x || by_clients clients (method_changes_of P m) c x)
    both c x =
        ap (λ ms. may_call_for P ms c x) (map-range_with_len_more (method_at class_id n) 1 k (k + 1) (omega arith))
        ∙ (calls-both P (map (method_at class_id n) (range_with_len 1 k)) (method_at class_id n (k + 1) ∷ []) c x
        ∙ ap (λ b. may_call_for P (map (method_at class_id n) (range_with_len 1 k)) c x || b) (one c x))

pub none-else : {A : Type 0} (o : Option A) → ((a : A) → o ≡ Some a → ⊥) → o ≡ None
none-else None h = refl
none-else (Some a) h = absurd (h a refl)
