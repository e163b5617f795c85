-- Which rights are among those of a plan.
use Rattle.std.specs.Prelude.{◌≡◌, ℕ, ◌==◌, ◌≤◌, Bool, true, false, ◌&&◌, ◌||◌, nat_le, cond, List, [], ◌∷◌, Some, filter, find, flat_map, map}
use Rattle.std.specs.List.{list_any, range_with_len}
use Rattle.std.specs.Str.{bytes_eq}
use Rattle.std.proofs.Common.{refl, sym, ap, ap₂, subst, ◌∙◌, arith, inl, inr}
use Rattle.std.proofs.lemmas.Bool.{and_parts, eqb-true, eq-eqb, leb-true}
use Rattle.std.proofs.lemmas.List.Folds.{list_any-append}
use Rattle.cosem_data.specs.Cells.{cell, same_cell, same_name}
use Rattle.cosem_data.specs.declared.cell.CellRef.{CellRef}
use Rattle.cosem_data.specs.declared.name.LogicalName.{LogicalName}
use Rattle.cosem_data.proofs.Same.{same_name-true, same_name-from}
use Rattle.meter_theory.specs.Lists.{AreDistinct, IsIn, some_passes}
use Rattle.meter_theory.specs.Plan.{Object, Part, Plan, Right, Data1, Register, ProfileGeneric, Clock, ScriptTable, RegisterMonitor, SingleActionSchedule, class_of, interface_of, object_at}
use Rattle.meter_theory.specs.Rights.{has_right, lists}
use Rattle.meter_theory.specs.Sound.{IsSound, are_indexes, highest_method}
use Rattle.meter_theory.proofs.Lists.{any_in, in_any, in_map, in_range}
use Rattle.meter_theory.specs.Rights.{highest_for, listed}
use Rattle.flow_changes.specs.Facts.{Holds, Numbered, Views, is_granted, members_for, rights_on, same_access, same_fact}
use Rattle.meter_theory.specs.declared.flow.Access.{Access}
use Rattle.meter_theory.specs.declared.flow.Access.TheVariants as accesses
use Rattle.flow_changes.proofs.Lists.{list_any-agree, list_any-and, list_any-filter, list_any-flat_map, list_any-map}
use Rattle.flow_changes.proofs.Once.{any-once, objects-once}
use Rattle.flow_changes.proofs.Told.{any-cell}

same_name-swap : (a b : LogicalName) → same_name a b ≡ same_name b a
same_name-swap a b = at (same_name a b) (same_name b a) refl refl
  where
    at : (x y : Bool) → same_name a b ≡ x → same_name b a ≡ y → x ≡ y
    at true true e f = refl
    at false false e f = refl
    at true false e f = let g : same_name b a ≡ true = same_name-from b a (sym (same_name-true a b e)) in cc
    at false true e f = let g : same_name a b ≡ true = same_name-from a b (sym (same_name-true b a f)) in cc

-- an attribute or a method of an object
in-members : (access : Access) (o : Object) (x : CellRef) → 1 ≤ x.index → x.index ≤ highest_for access (interface_of o.part) →
    list_any (same_cell x) (members_for access o) ≡ (same_name o.name x.name && (class_of o.part == x.class_id))
in-members access o x low high =
    list_any-map (same_cell x) (cell (class_of o.part) o.name) (range_with_len 1 (highest_for access (interface_of o.part)))
    ∙ list_any-and (x.class_id == class_of o.part) (λ i. same_name x.name o.name && (x.index == i)) (range_with_len 1 (highest_for access (interface_of o.part)))
    ∙ ap (λ b. (x.class_id == class_of o.part) && b)
    (list_any-and (same_name x.name o.name) (λ i. x.index == i) (range_with_len 1 (highest_for access (interface_of o.part)))
    ∙ ap (λ b. same_name x.name o.name && b) (in_any (λ i. x.index == i) (range_with_len 1 (highest_for access (interface_of o.part))) x.index (in_range 1 (highest_for access (interface_of o.part)) x.index low (omega (arith, high))) (eq-eqb x.index x.index refl)))
    ∙ turned (x.class_id == class_of o.part) (class_of o.part == x.class_id) (same_name x.name o.name) (same_name o.name x.name) (swapped x.class_id (class_of o.part)) (same_name-swap x.name o.name)
  where
    swapped : (m n : ℕ) → (m == n) ≡ (n == m)
    swapped m n = at (m == n) (n == m) refl refl
      where
        at : (x y : Bool) → (m == n) ≡ x → (n == m) ≡ y → x ≡ y
        at true true e f = refl
        at false false e f = refl
        at true false e f = let g : (n == m) ≡ true = eq-eqb n m (sym (eqb-true m n e)) in cc
        at false true e f = let g : (m == n) ≡ true = eq-eqb m n (sym (eqb-true n m f)) in cc

    turned : (a b c d : Bool) → a ≡ b → c ≡ d → (a && (c && true)) ≡ (d && b)
    turned true b true d e f = ap₂ (λ x y. y && x) e f
    turned true b false d e f = ap₂ (λ x y. y && x) e f
    turned false b true d e f = ap₂ (λ x y. y && x) e f
    turned false b false d e f = ap₂ (λ x y. y && x) e f

-- what the client of a right may do with what is granted it

abbrev allows : Right → Object → Bool
allows r o = are_indexes (interface_of o.part).attributes r.gets && (are_indexes (interface_of o.part).attributes r.sets && are_indexes (highest_method o.part) r.acts)

listed-within : (highest : ℕ) (indexes : List ℕ) (i : ℕ) → are_indexes highest indexes ≡ true → lists indexes i ≡ true → (1 ≤ i) × (i ≤ highest)
listed-within highest [] i ok listed = cc
listed-within highest (k ∷ indexes) i ok listed = here (k == i) refl listed (and_parts (nat_le 1 k && nat_le k highest) (are_indexes highest indexes) ok) (listed-within highest indexes i)
  where
    here : (b : Bool) → (k == i) ≡ b → (b || lists indexes i) ≡ true → ((nat_le 1 k && nat_le k highest) ≡ true) × (are_indexes highest indexes ≡ true) →
        (are_indexes highest indexes ≡ true → lists indexes i ≡ true → (1 ≤ i) × (i ≤ highest)) → (1 ≤ i) × (i ≤ highest)
    here false e l both rest = rest both.1 l
    here true e l both rest =
        let same : k ≡ i = eqb-true k i e in
        let p = and_parts (nat_le 1 k) (nat_le k highest) both.0 in
        (omega (arith, leb-true 1 k p.0, same), omega (arith, leb-true k highest p.1, same))

fewer-methods : (part : Part) → highest_method part ≤ (interface_of part).methods
fewer-methods (Data1 start) = omega arith
fewer-methods (Register start default scaler_unit) = omega arith
fewer-methods (ProfileGeneric captured period entries) = omega arith
fewer-methods (Clock start) = omega arith
fewer-methods (ScriptTable scripts) = omega arith
fewer-methods (RegisterMonitor monitored thresholds actions) = omega arith
fewer-methods (SingleActionSchedule script type times) = omega arith

granted-within : (access : Access) (o : Object) (r : Right) (i : ℕ) → allows r o ≡ true → lists (listed access r) i ≡ true → (1 ≤ i) × (i ≤ highest_for access (interface_of o.part))
granted-within access o r i ok has = at access (and_parts (are_indexes (interface_of o.part).attributes r.gets) (are_indexes (interface_of o.part).attributes r.sets && are_indexes (highest_method o.part) r.acts) ok) has
  where
    at : (access : Access) → (are_indexes (interface_of o.part).attributes r.gets ≡ true) × ((are_indexes (interface_of o.part).attributes r.sets && are_indexes (highest_method o.part) r.acts) ≡ true) →
        lists (listed access r) i ≡ true → (1 ≤ i) × (i ≤ highest_for access (interface_of o.part))
    at accesses.Get parts l = listed-within (interface_of o.part).attributes r.gets i parts.0 l
    at accesses.Set parts l = listed-within (interface_of o.part).attributes r.sets i (and_parts (are_indexes (interface_of o.part).attributes r.sets) (are_indexes (highest_method o.part) r.acts) parts.1).0 l
    at accesses.Act parts l =
        let h = listed-within (highest_method o.part) r.acts i (and_parts (are_indexes (interface_of o.part).attributes r.sets) (are_indexes (highest_method o.part) r.acts) parts.1).1 l in
        (h.0, omega (arith, h.1, fewer-methods o.part))

-- what is granted is an attribute or a method of the object with its name
granted-member : (P : Plan) → IsSound P → (c : ℕ) (access : Access) (x : CellRef) → is_granted P c access x ≡ true →
    (o : Object) → object_at P x.name ≡ Some o → (1 ≤ x.index) × (x.index ≤ highest_for access (interface_of o.part))
granted-member P sound c access x granted o there =
    let r = any_in (λ r. ((r.client == c) && same_name r.object x.name) && lists (listed access r) x.index) P.rights granted in
    let a = and_parts ((r.0.client == c) && same_name r.0.object x.name) (lists (listed access r.0) x.index) r.2 in
    let named = (and_parts (r.0.client == c) (same_name r.0.object x.name) a.0).1 in
    let same : r.0.object ≡ x.name = same_name-true r.0.object x.name named in
    let sound_right = (and_parts _ (some_passes (allows r.0) (object_at P r.0.object)) (sound.rights r.0 r.1)).1 in
    let here : allows r.0 o ≡ true = ap (some_passes (allows r.0)) (sym (ap (object_at P) same ∙ there)) ∙ sound_right in
    granted-within access o r.0 x.index here a.1

-- one object's rights, and whether one of them is this
held-by : (P : Plan) (name : List ℕ) (access : Access) (x : CellRef) (n : Numbered) (o : Object) (other : Access) →
    list_any (same_fact (Holds name access x)) (map (Holds n.1.name other) (filter (is_granted P n.0 other) (members_for other o)))
    ≡ ((bytes_eq name n.1.name && (same_access access other && is_granted P n.0 other x)) && list_any (same_cell x) (members_for other o))
held-by P name access x n o other =
    list_any-map (same_fact (Holds name access x)) (Holds n.1.name other) (filter (is_granted P n.0 other) (members_for other o))
    ∙ list_any-filter (λ y. same_fact (Holds name access x) (Holds n.1.name other y)) (is_granted P n.0 other) (members_for other o)
    ∙ any-cell (is_granted P n.0 other) (bytes_eq name n.1.name) (same_access access other) x (members_for other o)

-- the view of an object is no such right
no-view : (P : Plan) (name : List ℕ) (access : Access) (x : CellRef) (n : Numbered) (o : Object) (b : Bool) →
    list_any (same_fact (Holds name access x)) (cond b (Views n.1.name (class_of o.part) o.name ∷ []) []) ≡ false
no-view P name access x n o true = refl
no-view P name access x n o false = refl

among-on : (P : Plan) (name : List ℕ) (access : Access) (x : CellRef) (n : Numbered) (o : Object) →
    list_any (same_fact (Holds name access x)) (rights_on P n o) ≡ ((bytes_eq name n.1.name && is_granted P n.0 access x) && list_any (same_cell x) (members_for access o))
among-on P name access x n o =
    list_any-append (same_fact (Holds name access x)) (cond (has_right P n.0 o.name (λ r. true)) (Views n.1.name (class_of o.part) o.name ∷ []) []) (flat_map (λ other. map (Holds n.1.name other) (filter (is_granted P n.0 other) (members_for other o))) (accesses.Get ∷ accesses.Set ∷ accesses.Act ∷ []))
    ∙ ap₂ (λ a b. a || b) (no-view P name access x n o (has_right P n.0 o.name (λ r. true)))
    (list_any-flat_map (same_fact (Holds name access x)) (λ other. map (Holds n.1.name other) (filter (is_granted P n.0 other) (members_for other o))) (accesses.Get ∷ accesses.Set ∷ accesses.Act ∷ [])
    ∙ joined (held-by P name access x n o accesses.Get) (held-by P name access x n o accesses.Set) (held-by P name access x n o accesses.Act))
    ∙ at access (bytes_eq name n.1.name)
  where
    joined : {a b c d e f : Bool} → a ≡ d → b ≡ e → c ≡ f → (a || (b || (c || false))) ≡ (d || (e || (f || false)))
    joined p q r = cc

    first : (b g m p q : Bool) → (((b && g) && m) || (((b && false) && p) || (((b && false) && q) || false))) ≡ ((b && g) && m)
    first true true true p q = refl
    first true true false p q = refl
    first true false m p q = refl
    first false g m p q = refl

    second : (b g m p q : Bool) → (((b && false) && p) || (((b && g) && m) || (((b && false) && q) || false))) ≡ ((b && g) && m)
    second true true true p q = refl
    second true true false p q = refl
    second true false m p q = refl
    second false g m p q = refl

    third : (b g m p q : Bool) → (((b && false) && p) || (((b && false) && q) || (((b && g) && m) || false))) ≡ ((b && g) && m)
    third true true true p q = refl
    third true true false p q = refl
    third true false m p q = refl
    third false g m p q = refl

    at : (access : Access) (b : Bool) →
        (false || (((b && (same_access access accesses.Get && is_granted P n.0 accesses.Get x)) && list_any (same_cell x) (members_for accesses.Get o))
        || (((b && (same_access access accesses.Set && is_granted P n.0 accesses.Set x)) && list_any (same_cell x) (members_for accesses.Set o))
        || (((b && (same_access access accesses.Act && is_granted P n.0 accesses.Act x)) && list_any (same_cell x) (members_for accesses.Act o)) || false))))
        ≡ ((b && is_granted P n.0 access x) && list_any (same_cell x) (members_for access o))
    at accesses.Get b = first b (is_granted P n.0 accesses.Get x) (list_any (same_cell x) (members_for accesses.Get o)) (list_any (same_cell x) (members_for accesses.Set o)) (list_any (same_cell x) (members_for accesses.Act o))
    at accesses.Set b = second b (is_granted P n.0 accesses.Set x) (list_any (same_cell x) (members_for accesses.Set o)) (list_any (same_cell x) (members_for accesses.Get o)) (list_any (same_cell x) (members_for accesses.Act o))
    at accesses.Act b = third b (is_granted P n.0 accesses.Act x) (list_any (same_cell x) (members_for accesses.Act o)) (list_any (same_cell x) (members_for accesses.Get o)) (list_any (same_cell x) (members_for accesses.Set o))

-- an object is found by its name
by-name : (P : Plan) → IsSound P → (o : Object) → IsIn P.objects o → (name : LogicalName) → same_name o.name name ≡ true → object_at P name ≡ Some o
by-name P sound o i name e = first P.objects sound.names i
  where
    first : (objects : List Object) → AreDistinct (map (λ o. o.name) objects) → IsIn objects o → find (λ o. same_name o.name name) objects ≡ Some o
    first [] d j = absurd j
    first (p ∷ objects) d (inl same) = ap (λ b. cond b (Some p) (find (λ o. same_name o.name name) objects)) (subst (λ q. same_name q.name name ≡ true) same e) ∙ ap Some (sym same)
    first (p ∷ objects) d (inr j) = at (same_name p.name name) refl (first objects d.1 j)
      where
        at : (b : Bool) → same_name p.name name ≡ b → find (λ o. same_name o.name name) objects ≡ Some o → cond b (Some p) (find (λ o. same_name o.name name) objects) ≡ Some o
        at true f rest = absurd (d.0 (subst (IsIn (map (λ o. o.name) objects)) (same_name-true o.name name e ∙ sym (same_name-true p.name name f)) (in_map (λ o. o.name) objects o j)))
        at false f rest = rest

-- of a right that is granted, some object has the attribute or the method exactly where the object with its name is of its class
members-found : (P : Plan) → IsSound P → (c : ℕ) (access : Access) (x : CellRef) → is_granted P c access x ≡ true →
    list_any (λ o. list_any (same_cell x) (members_for access o)) P.objects ≡ some_passes (λ o. class_of o.part == x.class_id) (object_at P x.name)
members-found P sound c access x granted =
    list_any-agree (λ o. list_any (same_cell x) (members_for access o)) (λ o. same_name o.name x.name && (class_of o.part == x.class_id)) P.objects (λ o i. at o i (same_name o.name x.name) refl)
    ∙ any-once (λ o. same_name o.name x.name) (λ o. class_of o.part == x.class_id) P.objects (objects-once x.name P.objects sound.names)
  where
    at : (o : Object) → IsIn P.objects o → (b : Bool) → same_name o.name x.name ≡ b → list_any (same_cell x) (members_for access o) ≡ (same_name o.name x.name && (class_of o.part == x.class_id))
    at o i true e =
        let there = granted-member P sound c access x granted o (by-name P sound o i x.name e) in
        in-members access o x there.0 there.1
    at o i false e =
        list_any-map (same_cell x) (cell (class_of o.part) o.name) (range_with_len 1 (highest_for access (interface_of o.part)))
        ∙ list_any-agree (λ k. same_cell x (cell (class_of o.part) o.name k)) (λ k. false && true) (range_with_len 1 (highest_for access (interface_of o.part))) (λ k j. no k (x.class_id == class_of o.part) (same_name-swap x.name o.name ∙ e))
        ∙ list_any-and false (λ k. true) (range_with_len 1 (highest_for access (interface_of o.part)))
        ∙ ap (λ b. b && (class_of o.part == x.class_id)) (sym e)
      where
        no : (k : ℕ) (b : Bool) → same_name x.name o.name ≡ false → (b && (same_name x.name o.name && (x.index == k))) ≡ false
        no k true f = ap (λ z. z && (x.index == k)) f
        no k false f = refl

-- a client holds a right
pub among-held : (P : Plan) → IsSound P → (name : List ℕ) (access : Access) (x : CellRef) (n : Numbered) →
    list_any (same_fact (Holds name access x)) (flat_map (rights_on P n) P.objects)
    ≡ (bytes_eq name n.1.name && (some_passes (λ o. class_of o.part == x.class_id) (object_at P x.name) && is_granted P n.0 access x))
among-held P sound name access x n =
    list_any-flat_map (same_fact (Holds name access x)) (rights_on P n) P.objects
    ∙ list_any-agree (λ o. list_any (same_fact (Holds name access x)) (rights_on P n o)) (λ o. (bytes_eq name n.1.name && is_granted P n.0 access x) && list_any (same_cell x) (members_for access o)) P.objects (λ o i. among-on P name access x n o)
    ∙ list_any-and (bytes_eq name n.1.name && is_granted P n.0 access x) (λ o. list_any (same_cell x) (members_for access o)) P.objects
    ∙ at (bytes_eq name n.1.name) (is_granted P n.0 access x) (members-found P sound n.0 access x)
  where
    at : (b g : Bool) → (g ≡ true → list_any (λ o. list_any (same_cell x) (members_for access o)) P.objects ≡ some_passes (λ o. class_of o.part == x.class_id) (object_at P x.name)) →
        ((b && g) && list_any (λ o. list_any (same_cell x) (members_for access o)) P.objects) ≡ (b && (some_passes (λ o. class_of o.part == x.class_id) (object_at P x.name) && g))
    at false g h = refl
    at true true h = h refl ∙ last (some_passes (λ o. class_of o.part == x.class_id) (object_at P x.name))
      where
        last : (s : Bool) → s ≡ (s && true)
        last true = refl
        last false = refl
    at true false h = none (some_passes (λ o. class_of o.part == x.class_id) (object_at P x.name))
      where
        none : (s : Bool) → false ≡ (s && false)
        none true = refl
        none false = refl

-- Views

seen-on : (P : Plan) (name : List ℕ) (class_id : ℕ) (object : LogicalName) (n : Numbered) (o : Object) →
    list_any (same_fact (Views name class_id object)) (rights_on P n o)
    ≡ (bytes_eq name n.1.name && (((class_id == class_of o.part) && same_name object o.name) && has_right P n.0 o.name (λ r. true)))
seen-on P name class_id object n o =
    list_any-append (same_fact (Views name class_id object)) (cond (has_right P n.0 o.name (λ r. true)) (Views n.1.name (class_of o.part) o.name ∷ []) []) (flat_map (λ other. map (Holds n.1.name other) (filter (is_granted P n.0 other) (members_for other o))) (accesses.Get ∷ accesses.Set ∷ accesses.Act ∷ []))
    ∙ ap (λ b. list_any (same_fact (Views name class_id object)) (cond (has_right P n.0 o.name (λ r. true)) (Views n.1.name (class_of o.part) o.name ∷ []) []) || b)
    (list_any-flat_map (same_fact (Views name class_id object)) (λ other. map (Holds n.1.name other) (filter (is_granted P n.0 other) (members_for other o))) (accesses.Get ∷ accesses.Set ∷ accesses.Act ∷ [])
    ∙ nothing (none accesses.Get) (none accesses.Set) (none accesses.Act))
    ∙ at (has_right P n.0 o.name (λ r. true)) (bytes_eq name n.1.name) ((class_id == class_of o.part) && same_name object o.name)
  where
    none : (other : Access) → list_any (same_fact (Views name class_id object)) (map (Holds n.1.name other) (filter (is_granted P n.0 other) (members_for other o))) ≡ false
    none other =
        list_any-map (same_fact (Views name class_id object)) (Holds n.1.name other) (filter (is_granted P n.0 other) (members_for other o))
        ∙ list_any-and false (λ y. true) (filter (is_granted P n.0 other) (members_for other o))

    nothing : {a b c : Bool} → a ≡ false → b ≡ false → c ≡ false → (a || (b || (c || false))) ≡ false
    nothing p q r = cc

    at : (h b s : Bool) → (list_any (same_fact (Views name class_id object)) (cond h (Views n.1.name (class_of o.part) o.name ∷ []) []) || false) ≡ (bytes_eq name n.1.name && (((class_id == class_of o.part) && same_name object o.name) && h))
    at true b s = all (bytes_eq name n.1.name) ((class_id == class_of o.part) && same_name object o.name)
      where
        all : (b s : Bool) → (((b && s) || false) || false) ≡ (b && (s && true))
        all true true = refl
        all true false = refl
        all false s = refl
    at false b s = all (bytes_eq name n.1.name) ((class_id == class_of o.part) && same_name object o.name)
      where
        all : (b s : Bool) → false ≡ (b && (s && false))
        all true true = refl
        all true false = refl
        all false s = refl

-- a client sees an object
pub among-seen : (P : Plan) → IsSound P → (name : List ℕ) (class_id : ℕ) (object : LogicalName) (n : Numbered) →
    list_any (same_fact (Views name class_id object)) (flat_map (rights_on P n) P.objects)
    ≡ (bytes_eq name n.1.name && (some_passes (λ o. class_of o.part == class_id) (object_at P object) && has_right P n.0 object (λ r. true)))
among-seen P sound name class_id object n =
    list_any-flat_map (same_fact (Views name class_id object)) (rights_on P n) P.objects
    ∙ list_any-agree (λ o. list_any (same_fact (Views name class_id object)) (rights_on P n o))
    (λ o. (bytes_eq name n.1.name && has_right P n.0 object (λ r. true)) && (same_name o.name object && (class_of o.part == class_id))) P.objects
    (λ o i. seen-on P name class_id object n o ∙ turned o (same_name object o.name) refl)
    ∙ list_any-and (bytes_eq name n.1.name && has_right P n.0 object (λ r. true)) (λ o. same_name o.name object && (class_of o.part == class_id)) P.objects
    ∙ ap (λ b. (bytes_eq name n.1.name && has_right P n.0 object (λ r. true)) && b)
    (any-once (λ o. same_name o.name object) (λ o. class_of o.part == class_id) P.objects (objects-once object P.objects sound.names))
    ∙ last (bytes_eq name n.1.name) (has_right P n.0 object (λ r. true)) (some_passes (λ o. class_of o.part == class_id) (object_at P object))
  where
    last : (b h s : Bool) → ((b && h) && s) ≡ (b && (s && h))
    last true true true = refl
    last true true false = refl
    last true false true = refl
    last true false false = refl
    last false h s = refl

    swapped : (m k : ℕ) → (m == k) ≡ (k == m)
    swapped m k = at (m == k) (k == m) refl refl
      where
        at : (x y : Bool) → (m == k) ≡ x → (k == m) ≡ y → x ≡ y
        at true true e f = refl
        at false false e f = refl
        at true false e f = let g : (k == m) ≡ true = eq-eqb k m (sym (eqb-true m k e)) in cc
        at false true e f = let g : (m == k) ≡ true = eq-eqb m k (sym (eqb-true k m f)) in cc

    turned : (o : Object) (b : Bool) → same_name object o.name ≡ b →
        (bytes_eq name n.1.name && (((class_id == class_of o.part) && same_name object o.name) && has_right P n.0 o.name (λ r. true)))
        ≡ ((bytes_eq name n.1.name && has_right P n.0 object (λ r. true)) && (same_name o.name object && (class_of o.part == class_id)))
    turned o true e =
        let same : object ≡ o.name = same_name-true object o.name e in
        ap₂ (λ z w. bytes_eq name n.1.name && (((class_id == class_of o.part) && z) && has_right P n.0 w (λ r. true))) e (sym same)
        ∙ ap (λ z. bytes_eq name n.1.name && ((z && true) && has_right P n.0 object (λ r. true))) (swapped class_id (class_of o.part))
        ∙ all (bytes_eq name n.1.name) (class_of o.part == class_id) (has_right P n.0 object (λ r. true))
        ∙ ap (λ z. (bytes_eq name n.1.name && has_right P n.0 object (λ r. true)) && (z && (class_of o.part == class_id))) (sym (same_name-swap o.name object ∙ e))
      where
        all : (b k h : Bool) → (b && ((k && true) && h)) ≡ ((b && h) && (true && k))
        all true true true = refl
        all true true false = refl
        all true false true = refl
        all true false false = refl
        all false k h = refl
    turned o false e =
        ap (λ z. bytes_eq name n.1.name && (((class_id == class_of o.part) && z) && has_right P n.0 o.name (λ r. true))) e
        ∙ none (bytes_eq name n.1.name) (class_id == class_of o.part) (has_right P n.0 o.name (λ r. true)) (has_right P n.0 object (λ r. true)) (class_of o.part == class_id)
        ∙ ap (λ z. (bytes_eq name n.1.name && has_right P n.0 object (λ r. true)) && (z && (class_of o.part == class_id))) (sym (same_name-swap o.name object ∙ e))
      where
        none : (b k h g m : Bool) → (b && ((k && false) && h)) ≡ ((b && g) && (false && m))
        none true true h true m = refl
        none true true h false m = refl
        none true false h true m = refl
        none true false h false m = refl
        none false k h g m = refl
