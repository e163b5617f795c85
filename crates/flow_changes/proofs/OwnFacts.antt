-- A client's own facts that another configuration lacks.
use Rattle.std.specs.Prelude.{◌≡◌, ℕ, ◌==◌, Bool, true, false, not, ◌&&◌, cond, List, [], ◌∷◌, ◌++◌, Option, Some, None, filter, flat_map, is_some, map, option_map}
use Rattle.std.specs.List.{list_any}
use Rattle.std.proofs.Common.{refl, sym, ap, ap₂, ◌∙◌}
use Rattle.std.proofs.lemmas.List.{append-nil}
use Rattle.std.proofs.lemmas.List.Elements.{filter-append}
use Rattle.cosem_data.specs.declared.cell.CellRef.{CellRef}
use Rattle.cosem_data.specs.declared.clients.ClientSet.{ClientSet}
use Rattle.cosem_data.specs.declared.name.LogicalName.{LogicalName}
use Rattle.cosem_data.proofs.Same.{same_cell-refl}
use Rattle.meter_theory.specs.Labels.{Labelling, has, labelling_of, labelling_of_policy, nobody}
use Rattle.meter_theory.specs.Lists.{IsIn, some_passes}
use Rattle.meter_theory.specs.Plan.{Object, Plan, cells, class_of, client_named, is_cell, object_at}
use Rattle.meter_theory.specs.Rights.{has_right}
use Rattle.meter_theory.specs.Sound.{IsSound}
use Rattle.meter_theory.specs.Ways.{set_for}
use Rattle.meter_theory.specs.declared.flow.Label.{Label}
use Rattle.meter_theory.specs.declared.flow.Reach.{Reach}
use Rattle.meter_theory.specs.declared.flow.Reach.TheVariants as reaches
use Rattle.meter_theory.proofs.ClientSets.{nobody_in}
use Rattle.meter_theory.proofs.Lists.{in_any}
use Rattle.meter_theory.specs.declared.flow.Access.{Access}
use Rattle.meter_theory.specs.declared.flow.Access.TheVariants as accesses
use Rattle.flow_changes.specs.Changes.{lacks}
use Rattle.flow_changes.specs.Facts.{Fact, HasSap, Holds, IsOpen, Numbered, Reaches, Views, facts, is_granted, is_reached, members_for, numbered, own_facts, reached, rights_on, same_fact, shared_policy, told_of_client}
use Rattle.flow_map.specs.Map.{Configuration}
use Rattle.flow_changes.specs.Singles.{access_facts, is_at, is_held, is_new_reach, is_new_right, is_open, is_other_in, open_facts, pair_of, pair_told, reach_facts, reached_facts, right_facts, sap_facts, sees, view_facts}
use Rattle.flow_map.specs.declared.kind.Kind.{Kind}
use Rattle.flow_map.specs.declared.kind.Kind.TheVariants as kinds
use Rattle.flow_changes.specs.declared.labels.Pair.{Pair}
use Rattle.flow_changes.proofs.Lists.{filter-agree, filter-filter, filter-flat_map, filter-map, flat_map-agree}
use Rattle.flow_changes.proofs.Once.{found, found-number}
use Rattle.flow_changes.proofs.RightsTold.{among-held, among-seen}
use Rattle.flow_changes.proofs.Told.{among-open, among-own, among-reached, among-sap, of-named}

nobody-reaches : (reach : Reach) (k : ℕ) → has (set_for reach (record { influence = nobody; learn = nobody })) k ≡ false
nobody-reaches reaches.Influence k = nobody_in k
nobody-reaches reaches.Learn k = nobody_in k

-- what the definition of the facts is, for kinds of which each fact is a client's own

pub may-facts : (C other : Configuration) → facts C other kinds.May ≡ flat_map (own_facts C other kinds.May) (numbered C.plan) ++ []
unfolding facts
may-facts C other = refl

pub allowed-facts : (C other : Configuration) → facts C other kinds.Allowed ≡ flat_map (own_facts C other kinds.Allowed) (numbered C.plan) ++ []
unfolding facts
allowed-facts C other = refl

pub right-facts : (C other : Configuration) → facts C other kinds.Right ≡ flat_map (own_facts C other kinds.Right) (numbered C.plan) ++ []
unfolding facts
right-facts C other = refl

pub client-facts : (C other : Configuration) → facts C other kinds.Client ≡ flat_map (own_facts C other kinds.Client) (numbered C.plan) ++ []
unfolding facts
client-facts C other = refl

-- the client of the other plan that has a name
abbrev pub other_of : Plan → List ℕ → Option ℕ
other_of P name = option_map (λ n. n.0) (found name 0 P.clients)

pub other-is : (P : Plan) (name : List ℕ) → client_named P name ≡ other_of P name
other-is P name = found-number name 0 P.clients

other-in : (o : Option Numbered) (set : ClientSet) → is_other_in (option_map (λ n. n.0) o) set ≡ some_passes (λ n. has set n.0) o
other-in None set = refl
other-in (Some n) set = refl

passes-agree : (p q : Numbered → Bool) → ((n : Numbered) → p n ≡ q n) → (o : Option Numbered) → some_passes p o ≡ some_passes q o
passes-agree p q h None = refl
passes-agree p q h (Some n) = h n

never : (o : Option Numbered) → some_passes (λ n. false) o ≡ false
never None = refl
never (Some n) = refl

and-true : (b : Bool) → (b && true) ≡ b
and-true true = refl
and-true false = refl

and-false : (b : Bool) → (b && false) ≡ false
and-false true = refl
and-false false = refl

-- Reached cells

-- what the other tells of a cell, by the pair
reached-there : (reach : Reach) (x : CellRef) (R : Labelling) (o : Option Numbered) (b : Bool) (mine : Label) (kind : Kind) →
    some_passes (λ n. has (set_for reach (R x)) n.0 && b) o ≡ is_other_in (option_map (λ n. n.0) o) (set_for reach (pair_of kind mine (cond b (Some (R x)) None)).theirs)
reached-there reach x R o true mine kind =
    passes-agree (λ n. has (set_for reach (R x)) n.0 && true) (λ n. has (set_for reach (R x)) n.0) (λ n. and-true (has (set_for reach (R x)) n.0)) o
    ∙ sym (other-in o (set_for reach (R x)))
reached-there reach x R o false mine kind =
    passes-agree (λ n. has (set_for reach (R x)) n.0 && false) (λ n. false) (λ n. and-false (has (set_for reach (R x)) n.0)) o
    ∙ never o
    ∙ sym (ap (λ l. is_other_in (option_map (λ n. n.0) o) (set_for reach l)) (none kind) ∙ nobody-there o)
  where
    nobody-there : (o : Option Numbered) → is_other_in (option_map (λ n. n.0) o) (set_for reach (record { influence = nobody; learn = nobody })) ≡ false
    nobody-there None = refl
    nobody-there (Some n) = nobody-reaches reach n.0

    none : (kind : Kind) → (pair_of kind mine None).theirs ≡ record { influence = nobody; learn = nobody }
    none kinds.May = refl
    none kinds.Allowed = refl
    none kinds.Right = refl
    none kinds.Client = refl
    none kinds.Cell = refl
    none kinds.Edge = refl

-- that a client may reach a cell, and what the other may
pub new-may : (C D : Configuration) → IsSound D.plan → (n : Numbered) (reach : Reach) (x : CellRef) →
    (is_reached (labelling_of C.labels) n.0 reach x && lacks D C kinds.May (Reaches n.1.name reach x)) ≡ is_new_reach reach n.0 (other_of D.plan n.1.name) (pair_told kinds.May C D x)
new-may C D sound n reach x =
    ap₂ (λ a b. a && not b) (mine (is_cell D.plan x))
    (among-own D C kinds.May (Reaches n.1.name reach x) (may-facts D C)
    ∙ of-named D.plan sound n.1.name (λ m. list_any (same_fact (Reaches n.1.name reach x)) (reached D.plan (labelling_of D.labels) m)) (λ m. is_reached (labelling_of D.labels) m.0 reach x && is_cell D.plan x)
    (λ m. among-reached D.plan (labelling_of D.labels) n.1.name reach x m)
    ∙ reached-there reach x (labelling_of D.labels) (found n.1.name 0 D.plan.clients) (is_cell D.plan x) (labelling_of C.labels x) kinds.May)
  where
    mine : (b : Bool) → is_reached (labelling_of C.labels) n.0 reach x ≡ has (set_for reach (pair_of kinds.May (labelling_of C.labels x) (cond b (Some (labelling_of D.labels x)) None)).mine) n.0
    mine true = refl
    mine false = refl

-- that the policy allows a client to reach a cell
pub new-allowed : (C D : Configuration) → IsSound D.plan → (n : Numbered) (reach : Reach) (x : CellRef) → IsIn (cells C.plan) x →
    (is_reached (shared_policy C D) n.0 reach x && lacks D C kinds.Allowed (Reaches n.1.name reach x)) ≡ is_new_reach reach n.0 (other_of D.plan n.1.name) (pair_told kinds.Allowed C D x)
new-allowed C D sound n reach x i =
    ap₂ (λ a b. a && not b) (mine (is_cell D.plan x))
    (among-own D C kinds.Allowed (Reaches n.1.name reach x) (allowed-facts D C)
    ∙ of-named D.plan sound n.1.name (λ m. list_any (same_fact (Reaches n.1.name reach x)) (reached D.plan (shared_policy D C) m)) (λ m. is_reached (shared_policy D C) m.0 reach x && is_cell D.plan x)
    (λ m. among-reached D.plan (shared_policy D C) n.1.name reach x m)
    ∙ passes-agree (λ m. is_reached (shared_policy D C) m.0 reach x && is_cell D.plan x) (λ m. has (set_for reach (labelling_of_policy D.plan D.policy x)) m.0 && is_cell D.plan x)
    (λ m. ap (λ b. has (set_for reach (cond b (labelling_of_policy D.plan D.policy x) (record { influence = nobody; learn = nobody }))) m.0 && is_cell D.plan x) here) (found n.1.name 0 D.plan.clients)
    ∙ reached-there reach x (labelling_of_policy D.plan D.policy) (found n.1.name 0 D.plan.clients) (is_cell D.plan x) (labelling_of_policy C.plan C.policy x) kinds.Allowed)
  where
    here : is_cell C.plan x ≡ true
    here = in_any _ (cells C.plan) x i (same_cell-refl x)

    mine : (b : Bool) → has (set_for reach (cond b (labelling_of_policy C.plan C.policy x) (record { influence = nobody; learn = nobody }))) n.0
        ≡ has (set_for reach (pair_of kinds.Allowed (labelling_of_policy C.plan C.policy x) (cond b (Some (labelling_of_policy D.plan D.policy x)) None)).mine) n.0
    mine true = refl
    mine false = refl

-- what is reached, and not by the other
module _ (P : Plan) (Q : Labelling) (n : Numbered) (p : Fact → Bool) (other : Option ℕ) (pair : CellRef → Pair)
    (is : (reach : Reach) (x : CellRef) → IsIn (cells P) x → (is_reached Q n.0 reach x && p (Reaches n.1.name reach x)) ≡ is_new_reach reach n.0 other (pair x)) where
  of-reach : (reach : Reach) → filter p (map (Reaches n.1.name reach) (filter (is_reached Q n.0 reach) (cells P))) ≡ reach_facts n.1.name reach n.0 other pair (cells P)
  of-reach reach =
      filter-map p (Reaches n.1.name reach) (filter (is_reached Q n.0 reach) (cells P))
      ∙ ap (map (Reaches n.1.name reach)) (filter-filter (λ x. p (Reaches n.1.name reach x)) (is_reached Q n.0 reach) (cells P)
      ∙ filter-agree (λ x. is_reached Q n.0 reach x && p (Reaches n.1.name reach x)) (λ x. is_new_reach reach n.0 other (pair x)) (cells P) (λ x i. is reach x i))

  pub of-reached : filter p (reached P Q n) ≡ reached_facts n.1.name n.0 other pair (cells P)
  of-reached =
      filter-flat_map p (λ reach. map (Reaches n.1.name reach) (filter (is_reached Q n.0 reach) (cells P))) (reaches.Influence ∷ reaches.Learn ∷ [])
      ∙ ap₂ (λ a b. a ++ b) (of-reach reaches.Influence)
      (append-nil (filter p (map (Reaches n.1.name reaches.Learn) (filter (is_reached Q n.0 reaches.Learn) (cells P)))) ∙ of-reach reaches.Learn)

-- Rights

-- what passes of a list, and behind it for each access
of-accesses : (p : Fact → Bool) (v : List Fact) (h : Access → List Fact) →
    filter p (v ++ flat_map h (accesses.Get ∷ accesses.Set ∷ accesses.Act ∷ [])) ≡ filter p v ++ (filter p (h accesses.Get) ++ (filter p (h accesses.Set) ++ filter p (h accesses.Act)))
of-accesses p v h =
    filter-append p v (flat_map h (accesses.Get ∷ accesses.Set ∷ accesses.Act ∷ []))
    ∙ ap (λ t. filter p v ++ t)
    (filter-flat_map p h (accesses.Get ∷ accesses.Set ∷ accesses.Act ∷ [])
    ∙ ap (λ t. filter p (h accesses.Get) ++ (filter p (h accesses.Set) ++ t)) (append-nil (filter p (h accesses.Act))))

module _ (C D : Configuration) (sound : IsSound D.plan) (n : Numbered) where
  new-held : (access : Access) (x : CellRef) → lacks D C kinds.Right (Holds n.1.name access x) ≡ not (is_held D.plan (other_of D.plan n.1.name) access x)
  new-held access x =
      ap not (among-own D C kinds.Right (Holds n.1.name access x) (right-facts D C)
      ∙ of-named D.plan sound n.1.name (λ m. list_any (same_fact (Holds n.1.name access x)) (flat_map (rights_on D.plan m) D.plan.objects))
      (λ m. some_passes (λ o. class_of o.part == x.class_id) (object_at D.plan x.name) && is_granted D.plan m.0 access x)
      (λ m. among-held D.plan sound n.1.name access x m)
      ∙ at (found n.1.name 0 D.plan.clients))
    where
      at : (o : Option Numbered) → some_passes (λ m. some_passes (λ o. class_of o.part == x.class_id) (object_at D.plan x.name) && is_granted D.plan m.0 access x) o ≡ is_held D.plan (option_map (λ m. m.0) o) access x
      at None = refl
      at (Some m) = refl

  new-seen : (class_id : ℕ) (object : LogicalName) → lacks D C kinds.Right (Views n.1.name class_id object) ≡ not (sees D.plan (other_of D.plan n.1.name) class_id object)
  new-seen class_id object =
      ap not (among-own D C kinds.Right (Views n.1.name class_id object) (right-facts D C)
      ∙ of-named D.plan sound n.1.name (λ m. list_any (same_fact (Views n.1.name class_id object)) (flat_map (rights_on D.plan m) D.plan.objects))
      (λ m. some_passes (λ o. class_of o.part == class_id) (object_at D.plan object) && has_right D.plan m.0 object (λ r. true))
      (λ m. among-seen D.plan sound n.1.name class_id object m)
      ∙ at (found n.1.name 0 D.plan.clients))
    where
      at : (o : Option Numbered) → some_passes (λ m. some_passes (λ o. class_of o.part == class_id) (object_at D.plan object) && has_right D.plan m.0 object (λ r. true)) o ≡ sees D.plan (option_map (λ m. m.0) o) class_id object
      at None = refl
      at (Some m) = refl

  of-access : (access : Access) (o : Object) → filter (lacks D C kinds.Right) (map (Holds n.1.name access) (filter (is_granted C.plan n.0 access) (members_for access o)))
      ≡ access_facts n.1.name access C.plan n.0 D.plan (other_of D.plan n.1.name) o
  of-access access o =
      filter-map (lacks D C kinds.Right) (Holds n.1.name access) (filter (is_granted C.plan n.0 access) (members_for access o))
      ∙ ap (map (Holds n.1.name access)) (filter-filter (λ x. lacks D C kinds.Right (Holds n.1.name access x)) (is_granted C.plan n.0 access) (members_for access o)
      ∙ filter-agree (λ x. is_granted C.plan n.0 access x && lacks D C kinds.Right (Holds n.1.name access x)) (is_new_right access C.plan n.0 D.plan (other_of D.plan n.1.name)) (members_for access o)
      (λ x i. ap (λ b. is_granted C.plan n.0 access x && b) (new-held access x)))

  of-view : (o : Object) → filter (lacks D C kinds.Right) (cond (has_right C.plan n.0 o.name (λ r. true)) (Views n.1.name (class_of o.part) o.name ∷ []) [])
      ≡ view_facts n.1.name C.plan n.0 D.plan (other_of D.plan n.1.name) o
  of-view o = at (has_right C.plan n.0 o.name (λ r. true))
    where
      at : (b : Bool) → filter (lacks D C kinds.Right) (cond b (Views n.1.name (class_of o.part) o.name ∷ []) [])
          ≡ cond (b && not (sees D.plan (other_of D.plan n.1.name) (class_of o.part) o.name)) (Views n.1.name (class_of o.part) o.name ∷ []) []
      at false = refl
      at true = ap (λ b. cond b (Views n.1.name (class_of o.part) o.name ∷ []) []) (new-seen (class_of o.part) o.name)

  of-object : (o : Object) → filter (lacks D C kinds.Right) (rights_on C.plan n o) ≡ right_facts n.1.name C.plan n.0 D.plan (other_of D.plan n.1.name) o
  of-object o =
      of-accesses (lacks D C kinds.Right) (cond (has_right C.plan n.0 o.name (λ r. true)) (Views n.1.name (class_of o.part) o.name ∷ []) []) (λ access. map (Holds n.1.name access) (filter (is_granted C.plan n.0 access) (members_for access o)))
      ∙ ap₂ (λ a b. a ++ b) (of-view o) (ap₂ (λ a b. a ++ b) (of-access accesses.Get o) (ap₂ (λ a b. a ++ b) (of-access accesses.Set o) (of-access accesses.Act o)))

  pub of-rights : filter (lacks D C kinds.Right) (own_facts C D kinds.Right n) ≡ flat_map (right_facts n.1.name C.plan n.0 D.plan (other_of D.plan n.1.name)) C.plan.objects
  of-rights =
      filter-flat_map (lacks D C kinds.Right) (rights_on C.plan n) C.plan.objects
      ∙ flat_map-agree (λ o. filter (lacks D C kinds.Right) (rights_on C.plan n o)) (right_facts n.1.name C.plan n.0 D.plan (other_of D.plan n.1.name)) C.plan.objects (λ o i. of-object o)

  -- Clients

  new-sap : (sap : ℕ) → lacks D C kinds.Client (HasSap n.1.name sap) ≡ not (is_at sap (option_map (λ m. m.1) (found n.1.name 0 D.plan.clients)))
  new-sap sap =
      ap not (among-own D C kinds.Client (HasSap n.1.name sap) (client-facts D C)
      ∙ of-named D.plan sound n.1.name (λ m. list_any (same_fact (HasSap n.1.name sap)) (told_of_client m.1)) (λ m. sap == m.1.sap) (λ m. among-sap n.1.name sap m.1)
      ∙ at (found n.1.name 0 D.plan.clients))
    where
      at : (o : Option Numbered) → some_passes (λ m. sap == m.1.sap) o ≡ is_at sap (option_map (λ m. m.1) o)
      at None = refl
      at (Some m) = refl

  new-open : lacks D C kinds.Client (IsOpen n.1.name) ≡ not (is_open (option_map (λ m. m.1) (found n.1.name 0 D.plan.clients)))
  new-open =
      ap not (among-own D C kinds.Client (IsOpen n.1.name) (client-facts D C)
      ∙ of-named D.plan sound n.1.name (λ m. list_any (same_fact (IsOpen n.1.name)) (told_of_client m.1)) (λ m. not (is_some m.1.password)) (λ m. among-open n.1.name m.1)
      ∙ at (found n.1.name 0 D.plan.clients))
    where
      at : (o : Option Numbered) → some_passes (λ m. not (is_some m.1.password)) o ≡ is_open (option_map (λ m. m.1) o)
      at None = refl
      at (Some m) = refl

  pub of-client : filter (lacks D C kinds.Client) (own_facts C D kinds.Client n)
      ≡ sap_facts n.1 (option_map (λ m. m.1) (found n.1.name 0 D.plan.clients)) ++ open_facts n.1 (option_map (λ m. m.1) (found n.1.name 0 D.plan.clients))
  of-client =
      sap (lacks D C kinds.Client (HasSap n.1.name n.1.sap)) (is_at n.1.sap (option_map (λ m. m.1) (found n.1.name 0 D.plan.clients))) (new-sap n.1.sap)
      (filter (lacks D C kinds.Client) (cond (is_some n.1.password) [] (IsOpen n.1.name ∷ []))) (open_facts n.1 (option_map (λ m. m.1) (found n.1.name 0 D.plan.clients)))
      (open-is (is_some n.1.password) (is_open (option_map (λ m. m.1) (found n.1.name 0 D.plan.clients))) new-open)
    where
      open-is : (b q : Bool) → lacks D C kinds.Client (IsOpen n.1.name) ≡ not q → filter (lacks D C kinds.Client) (cond b [] (IsOpen n.1.name ∷ [])) ≡ cond (not b && not q) (IsOpen n.1.name ∷ []) []
      open-is true q is = refl
      open-is false q is = ap (λ c. cond c (IsOpen n.1.name ∷ []) []) is

      sap : (p q : Bool) → p ≡ not q → (fs rest : List Fact) → fs ≡ rest → cond p (HasSap n.1.name n.1.sap ∷ fs) fs ≡ cond q [] (HasSap n.1.name n.1.sap ∷ []) ++ rest
      sap true true e fs rest is = cc
      sap false false e fs rest is = cc
      sap true false e fs rest is = ap (λ t. HasSap n.1.name n.1.sap ∷ t) is
      sap false true e fs rest is = is
