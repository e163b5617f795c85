-- Where nobody gains, nobody has what it hadn't.
use Rattle.std.specs.Prelude.{◌≡◌, ℕ, ◌==◌, Bool, true, false, not, ◌&&◌, cond, List, [], ◌∷◌, ◌++◌, Option, Some, None, filter, flat_map, is_some, map}
use Rattle.std.specs.List.{list_any}
use Rattle.std.specs.Str.{bytes_eq}
use Rattle.std.proofs.Common.{refl, sym, ap, subst, ◌∙◌, inl, inr}
use Rattle.std.proofs.lemmas.Bool.{and_parts, eqb-true, not-true}
use Rattle.std.proofs.lemmas.Slice.Eq.{bytes_eq-Decides}
use Rattle.cosem_data.specs.Cells.{same_cell}
use Rattle.cosem_data.specs.declared.cell.CellRef.{CellRef}
use Rattle.cosem_data.specs.declared.name.LogicalName.{LogicalName}
use Rattle.cosem_data.proofs.Same.{same_cell-refl, same_cell-true}
use Rattle.meter_theory.specs.Labels.{Labelling, has, labelling_of, labelling_of_policy, nobody}
use Rattle.meter_theory.specs.Lists.{IsIn, some_passes}
use Rattle.meter_theory.specs.Plan.{Object, Plan, cells, class_of, is_cell, object_at}
use Rattle.meter_theory.specs.Rights.{has_right}
use Rattle.meter_theory.specs.Sound.{IsSound}
use Rattle.meter_theory.proofs.Agreement.{object-found}
use Rattle.meter_theory.proofs.Lists.{any_in, in_any, in_append_left, in_append_right, in_filter, in_flat_map, in_map, none_in}
use Rattle.flow_changes.specs.Changes.{gains, lacks}
use Rattle.flow_map.specs.Kinds.{all_kinds}
use Rattle.flow_changes.specs.Facts.{Fact, HasSap, Holds, IsOpen, Numbered, Reaches, Views, among, facts, is_granted, is_reached, members_for, numbered, own_facts, reached, rights_on, same_fact, shared_policy, told_of_client}
use Rattle.flow_map.specs.Map.{Configuration}
use Rattle.meter_theory.specs.Ways.{set_for}
use Rattle.flow_changes.specs.Promises.{HasReach, IsNamed, LiesWithin, NamedHolds, NamedLabelling, NamedReaches, NamedSees, NobodyGains, least, policy_of}
use Rattle.meter_theory.specs.declared.flow.Access.{Access}
use Rattle.meter_theory.specs.declared.flow.Access.TheVariants as accesses
use Rattle.flow_map.specs.declared.kind.Kind.{Kind}
use Rattle.flow_map.specs.declared.kind.Kind.TheVariants as kinds
use Rattle.meter_theory.specs.declared.flow.Reach.{Reach}
use Rattle.meter_theory.specs.declared.flow.Reach.TheVariants as reaches
use Rattle.flow_changes.proofs.OwnFacts.{allowed-facts, client-facts, may-facts, right-facts}
use Rattle.flow_changes.proofs.RightsTold.{among-held, among-seen}
use Rattle.flow_changes.proofs.Told.{among-open, among-own, among-reached, among-sap}

not-false : (b : Bool) → not b ≡ false → b ≡ true
not-false true e = refl
not-false false e = cc

-- where a filter leaves nothing, nothing passes
none-passes : {A B : Type 0} (f : A → B) (p : A → Bool) (xs : List A) → map f (filter p xs) ≡ [] → (x : A) → IsIn xs x → p x ≡ false
none-passes f p xs e x i = at (p x) refl
  where
    at : (b : Bool) → p x ≡ b → b ≡ false
    at false q = refl
    at true q = absurd (subst (λ ys. IsIn ys (f x)) e (in_map f (filter p xs) x (in_filter p xs x i q)))

all-in : (kind : Kind) → IsIn all_kinds kind
all-in kinds.May = inl refl
all-in kinds.Allowed = inr (inl refl)
all-in kinds.Right = inr (inr (inl refl))
all-in kinds.Client = inr (inr (inr (inl refl)))
all-in kinds.Cell = inr (inr (inr (inr (inl refl))))
all-in kinds.Edge = inr (inr (inr (inr (inr (inl refl)))))

-- each own fact of a client of the new configuration is one of the old
none-lacked : (old new : Configuration) → NobodyGains old new → (kind : Kind) (n : Numbered) → IsIn (numbered new.plan) n → (f : Fact) → IsIn (own_facts new old kind n) f → among (facts old new kind) f ≡ true
unfolding gains
none-lacked old new nobody kind n i f j =
    let quiet = none-passes (λ c. c.1.name) (gains old new) (numbered new.plan) nobody n i in
    let of_kind = none_in (λ k. list_any (lacks old new k) (own_facts new old k n)) all_kinds kind quiet (all-in kind) in
    not-false (among (facts old new kind) f) (none_in (lacks old new kind) (own_facts new old kind n) f of_kind j)

-- and so one of a client of the old
of-client : (old new : Configuration) → NobodyGains old new → (kind : Kind) → facts old new kind ≡ flat_map (own_facts old new kind) (numbered old.plan) ++ [] → (n : Numbered) → IsIn (numbered new.plan) n →
    (f : Fact) → IsIn (own_facts new old kind n) f → (m : Numbered) × IsIn (numbered old.plan) m × (list_any (same_fact f) (own_facts old new kind m) ≡ true)
of-client old new nobody kind own n i f j =
    any_in (λ m. list_any (same_fact f) (own_facts old new kind m)) (numbered old.plan)
    (sym (among-own old new kind f own) ∙ none-lacked old new nobody kind n i f j)

name-is : (a b : List ℕ) → bytes_eq a b ≡ true → b ≡ a
name-is a b e = sym ((bytes_eq-Decides a b).0 e)

-- Reached cells

in-reached : (P : Plan) (Q : Labelling) (n : Numbered) (reach : Reach) (x : CellRef) → IsIn (cells P) x → is_reached Q n.0 reach x ≡ true → IsIn (reached P Q n) (Reaches n.1.name reach x)
in-reached P Q n reach x i e =
    in_flat_map (λ r. map (Reaches n.1.name r) (filter (is_reached Q n.0 r) (cells P))) (reaches.Influence ∷ reaches.Learn ∷ []) reach (Reaches n.1.name reach x) (both reach)
    (in_map (Reaches n.1.name reach) (filter (is_reached Q n.0 reach) (cells P)) x (in_filter (is_reached Q n.0 reach) (cells P) x i e))
  where
    both : (r : Reach) → IsIn (reaches.Influence ∷ reaches.Learn ∷ []) r
    both reaches.Influence = inl refl
    both reaches.Learn = inr (inl refl)

cell-in : (P : Plan) (x : CellRef) → is_cell P x ≡ true → IsIn (cells P) x
cell-in P x e = let y = any_in (same_cell x) (cells P) e in subst (IsIn (cells P)) (sym (same_cell-true x y.0 y.2)) y.1

-- what a client of the old configuration reaches
from-reached : (C : Configuration) (Q : Labelling) (name : List ℕ) (reach : Reach) (x : CellRef) (m : Numbered) → IsIn (numbered C.plan) m →
    list_any (same_fact (Reaches name reach x)) (reached C.plan Q m) ≡ true → NamedReaches C Q reach name x
from-reached C Q name reach x m i e =
    let a = and_parts (bytes_eq name m.1.name) (is_reached Q m.0 reach x && is_cell C.plan x) (sym (among-reached C.plan Q name reach x m) ∙ e) in
    let b = and_parts (is_reached Q m.0 reach x) (is_cell C.plan x) a.1 in
    (m, name-is name m.1.name a.0, (i, cell-in C.plan x b.1, b.0))

-- whoever may influence or learn a cell might
pub may-kept : (old new : Configuration) → NobodyGains old new → (reach : Reach) (n : Numbered) (x : CellRef) → HasReach new (least new) reach n x → NamedReaches old (least old) reach n.1.name x
may-kept old new nobody reach n x h =
    let m = of-client old new nobody kinds.May (may-facts old new) n h.0 (Reaches n.1.name reach x) (in-reached new.plan (labelling_of new.labels) n reach x h.1 h.2) in
    from-reached old (labelling_of old.labels) n.1.name reach x m.0 m.1 m.2

here : (C : Configuration) (x : CellRef) → IsIn (cells C.plan) x → is_cell C.plan x ≡ true
here C x i = in_any (same_cell x) (cells C.plan) x i (same_cell-refl x)

-- of a cell that both have the shared policy says what the policy says
shared-is : (C other : Configuration) (c : ℕ) (reach : Reach) (x : CellRef) → IsIn (cells other.plan) x → is_reached (shared_policy C other) c reach x ≡ is_reached (policy_of C) c reach x
shared-is C other c reach x i = ap (λ b. has (set_for reach (cond b (labelling_of_policy C.plan C.policy x) (record { influence = nobody; learn = nobody }))) c) (here other x i)

-- whom the policy allows to, it allowed
pub policy-kept : (old new : Configuration) → NobodyGains old new → (reach : Reach) (n : Numbered) (x : CellRef) → IsIn (cells old.plan) x → HasReach new (policy_of new) reach n x → NamedReaches old (policy_of old) reach n.1.name x
policy-kept old new quiet reach n x common h =
    let m = of-client old new quiet kinds.Allowed (allowed-facts old new) n h.0 (Reaches n.1.name reach x)
    (in-reached new.plan (shared_policy new old) n reach x h.1 (shared-is new old n.0 reach x common ∙ h.2)) in
    let r = from-reached old (shared_policy old new) n.1.name reach x m.0 m.1 m.2 in
    (r.0, r.1, (r.2.0, r.2.1, sym (shared-is old new r.0.0 reach x h.1) ∙ r.2.2))

-- Rights

found-object : (P : Plan) (name : LogicalName) (class_id : ℕ) → some_passes (λ o. class_of o.part == class_id) (object_at P name) ≡ true → (p : Object) × IsIn P.objects p × (p.name ≡ name) × (class_of p.part ≡ class_id)
found-object P name class_id e = at (object_at P name) refl e
  where
    at : (o : Option Object) → object_at P name ≡ o → some_passes (λ o. class_of o.part == class_id) o ≡ true → (p : Object) × IsIn P.objects p × (p.name ≡ name) × (class_of p.part ≡ class_id)
    at None is e = cc
    at (Some p) is e = let f = object-found P name p is in (p, f.0, f.1, eqb-true (class_of p.part) class_id e)

-- each object in a view was in that of the client with the name
pub view-kept : (old new : Configuration) → IsSound old.plan → NobodyGains old new → (n : Numbered) → IsIn (numbered new.plan) n → (o : Object) → IsIn new.plan.objects o → has_right new.plan n.0 o.name (λ r. true) ≡ true → NamedSees old n.1.name o
view-kept old new sound quiet n i o j e =
    let f = Views n.1.name (class_of o.part) o.name in
    let seen : IsIn (rights_on new.plan n o) f = in_append_left _ _ f (subst (λ b. IsIn (cond b (f ∷ []) []) f) (sym e) (inl refl)) in
    let m = of-client old new quiet kinds.Right (right-facts old new) n i f (in_flat_map (rights_on new.plan n) new.plan.objects o f j seen) in
    let a = and_parts (bytes_eq n.1.name m.0.1.name) (some_passes (λ p. class_of p.part == class_of o.part) (object_at old.plan o.name) && has_right old.plan m.0.0 o.name (λ r. true)) (sym (among-seen old.plan sound n.1.name (class_of o.part) o.name m.0) ∙ m.2) in
    let b = and_parts (some_passes (λ p. class_of p.part == class_of o.part) (object_at old.plan o.name)) (has_right old.plan m.0.0 o.name (λ r. true)) a.1 in
    let p = found-object old.plan o.name (class_of o.part) b.0 in
    (m.0, (m.1, name-is n.1.name m.0.1.name a.0), p.0, p.1, p.2, p.3, b.1)

-- and each right that lists an attribute or a method
pub right-kept : (old new : Configuration) → IsSound old.plan → NobodyGains old new → (n : Numbered) → IsIn (numbered new.plan) n → (o : Object) → IsIn new.plan.objects o → (access : Access) (x : CellRef) → IsIn (members_for access o) x →
    is_granted new.plan n.0 access x ≡ true → NamedHolds old n.1.name access x
right-kept old new sound quiet n i o j access x k e =
    let f = Holds n.1.name access x in
    let held = in_flat_map (λ a. map (Holds n.1.name a) (filter (is_granted new.plan n.0 a) (members_for a o))) (accesses.Get ∷ accesses.Set ∷ accesses.Act ∷ []) access f (each access)
    (in_map (Holds n.1.name access) (filter (is_granted new.plan n.0 access) (members_for access o)) x (in_filter (is_granted new.plan n.0 access) (members_for access o) x k e)) in
    let m = of-client old new quiet kinds.Right (right-facts old new) n i f (in_flat_map (rights_on new.plan n) new.plan.objects o f j (in_append_right _ _ f held)) in
    let a = and_parts (bytes_eq n.1.name m.0.1.name) (some_passes (λ p. class_of p.part == x.class_id) (object_at old.plan x.name) && is_granted old.plan m.0.0 access x) (sym (among-held old.plan sound n.1.name access x m.0) ∙ m.2) in
    let b = and_parts (some_passes (λ p. class_of p.part == x.class_id) (object_at old.plan x.name)) (is_granted old.plan m.0.0 access x) a.1 in
    let p = found-object old.plan x.name x.class_id b.0 in
    (m.0, (m.1, name-is n.1.name m.0.1.name a.0), p.0, p.1, p.2, p.3, b.1)
  where
    each : (a : Access) → IsIn (accesses.Get ∷ accesses.Set ∷ accesses.Act ∷ []) a
    each accesses.Get = inl refl
    each accesses.Set = inr (inl refl)
    each accesses.Act = inr (inr (inl refl))

-- Clients

-- each client was there, with its service access point
pub sap-kept : (old new : Configuration) → NobodyGains old new → (n : Numbered) → IsIn (numbered new.plan) n → (m : Numbered) × IsNamed old n.1.name m × (m.1.sap ≡ n.1.sap)
sap-kept old new quiet n i =
    let m = of-client old new quiet kinds.Client (client-facts old new) n i (HasSap n.1.name n.1.sap) (inl refl) in
    let a = and_parts (bytes_eq n.1.name m.0.1.name) (n.1.sap == m.0.1.sap) (sym (among-sap n.1.name n.1.sap m.0.1) ∙ m.2) in
    (m.0, (m.1, name-is n.1.name m.0.1.name a.0), sym (eqb-true n.1.sap m.0.1.sap a.1))

-- and one that needs no password needed none
pub open-kept : (old new : Configuration) → NobodyGains old new → (n : Numbered) → IsIn (numbered new.plan) n → is_some n.1.password ≡ false → (m : Numbered) × IsNamed old n.1.name m × (is_some m.1.password ≡ false)
open-kept old new quiet n i e =
    let f = IsOpen n.1.name in
    let told : IsIn (told_of_client n.1) f = inr (subst (λ b. IsIn (cond b [] (f ∷ [])) f) (sym e) (inl refl)) in
    let m = of-client old new quiet kinds.Client (client-facts old new) n i f told in
    let a = and_parts (bytes_eq n.1.name m.0.1.name) (not (is_some m.0.1.password)) (sym (among-open n.1.name m.0.1) ∙ m.2) in
    (m.0, (m.1, name-is n.1.name m.0.1.name a.0), not-true (is_some m.0.1.password) a.1)

-- Corollary

-- a labelling within which the old least labels lie has the new ones within it too
pub within-kept : (old new : Configuration) → NobodyGains old new → (W : NamedLabelling) → LiesWithin old (least old) W → LiesWithin new (least new) W
within-kept old new nobody W inside reach n x h =
    let m = may-kept old new nobody reach n x h in
    subst (λ name. W name reach x ≡ true) m.1 (inside reach m.0 x m.2)
