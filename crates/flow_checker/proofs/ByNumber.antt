-- What fails clause by clause and number by number is all that fails.
use Rattle.std.specs.Prelude.{◌≡◌, ℕ, zero, suc, ◌+◌, ◌<◌, Bool, true, false, cond, List, [], ◌∷◌, ◌++◌, map, flat_map, length, get_or, take, slice_get, not, ◌||◌, Option, None, Some, option_map, option_to_list, unwrap_or}
use Rattle.std.specs.List.{filter, range_with_len}
use Rattle.std.proofs.Common.{refl, sym, ap, ap₂, subst, ◌∙◌, arith, append-nil, inl, inr}
use Rattle.std.proofs.lemmas.Grind.{flat_map-append}
use Rattle.std.proofs.lemmas.List.{flat_map_more, get_or-map, get_or_default, length-map, take_more}
use Rattle.std.proofs.lemmas.List.Elements.{filter-append}
use Rattle.cosem_data.specs.declared.cell.CellRef.{CellRef}
use Rattle.cosem_data.specs.declared.clients.ClientSet.{ClientSet}
use Rattle.meter_theory.specs.Check.{clients_with_cells, may_change}
use Rattle.meter_theory.specs.Edges.{edge, edges}
use Rattle.meter_theory.specs.Labels.{Labels, has, labelling_of, nobody, or_else, with_client, within}
use Rattle.meter_theory.specs.Lists.{IsIn}
use Rattle.meter_theory.specs.Plan.{Plan, cells}
use Rattle.meter_theory.specs.Rights.{may_get}
use Rattle.meter_theory.specs.Ways.{near_end, far_end, set_for}
use Rattle.meter_theory.specs.declared.flow.Cause.TheVariants.{Monitored}
use Rattle.meter_theory.specs.declared.flow.Edge.{Edge}
use Rattle.meter_theory.specs.declared.flow.Label.{Label}
use Rattle.meter_theory.specs.declared.flow.Reach.{Reach}
use Rattle.meter_theory.specs.declared.flow.Reach.TheVariants.{Influence, Learn}
use Rattle.meter_theory.proofs.Admission.{changer_from, changer_found}
use Rattle.flow_edges.specs.declared.table.Link.{Link}
use Rattle.flow_edges.specs.Ends.{far_of, near_of}
use Rattle.flow_edges.specs.Table.{AreWithin, IsLink, cell_at, edge_at, no_cell}
use Rattle.label_certificate.specs.Granted.{AreGranted, label_in}
use Rattle.label_certificate.specs.Members.{with_clients}
use Rattle.label_certificate.proofs.Closed.{item_at, link_in}
use Rattle.label_certificate.proofs.Marked.{range-more}
use Rattle.flow_checker.specs.Clauses.{cell_in, clauses_of, edge_in, failures_of, plan_of, policy_of, rights_of}
use Rattle.flow_checker.specs.Failures.{beyond, denied, edge_failure, exceeding, failures, is_beyond, lost, past_policy, right_failure, unlabelled, unless}
use Rattle.flow_checker.specs.declared.case.Case.{Case}
use Rattle.flow_checker.specs.declared.clauses.Clause.TheVariants.{Right, Flow}
use Rattle.flow_checker.specs.declared.failure.Failure.{Failure}

-- Lists

-- what each number gives is what its element gives
from-numbers : {A B : Type 0} (g : A → List B) (xs : List A) (d : A) (f : ℕ → List B) (a : ℕ) → ((k : ℕ) → f (a + k) ≡ g (get_or xs k d)) →
    flat_map f (range_with_len a (length xs)) ≡ flat_map g xs
from-numbers g [] d f a agree = refl
from-numbers g (x ∷ xs) d f a agree =
    let none : a + 0 ≡ a = omega arith in
    ap₂ (λ ys zs. ys ++ zs) (ap f (sym none) ∙ agree 0)
    (from-numbers g xs d f (a + 1) (λ k. let next : (a + 1) + k ≡ a + suc k = omega arith in ap f next ∙ agree (suc k)))

by-numbers : {A B : Type 0} (g : A → List B) (xs : List A) (d : A) → flat_map (λ k. g (get_or xs k d)) (range_with_len 0 (length xs)) ≡ flat_map g xs
by-numbers g xs d = from-numbers g xs d (λ k. g (get_or xs k d)) 0 (λ k. let same : 0 + k ≡ k = omega arith in ap (λ j. g (get_or xs j d)) same)

beside : {A B : Type 0} (g : ℕ × A → List B) (c : ℕ) (xs : List A) → flat_map (λ x. g (c, x)) xs ≡ flat_map g (map (λ x. (c, x)) xs)
beside g c [] = refl
beside g c (x ∷ xs) = ap (λ zs. g (c, x) ++ zs) (beside g c xs)

-- one number more, and one element more
pub number-more : {B : Type 0} (f : ℕ → List B) (before : List B) (n : ℕ) → (before ++ flat_map f (range_with_len 0 n)) ++ f n ≡ before ++ flat_map f (range_with_len 0 (n + 1))
number-more f before n = flat_map_more f before (range_with_len 0 n) n ∙ ap (λ ns. before ++ flat_map f ns) (range-more n)

pub element-more : {A B : Type 0} (f : A → List B) (xs : List A) (i : ℕ) (d : A) → i < length xs → flat_map f (take i xs) ++ f (get_or xs i d) ≡ flat_map f (take (i + 1) xs)
element-more f xs i d less = flat_map_more f [] (take i xs) (get_or xs i d) ∙ ap (flat_map f) (sym (take_more xs i d less))

-- where those before it give nothing, what an element gives comes first
pub first-given : {A B : Type 0} (f : A → List B) (xs : List A) (i : ℕ) (d : A) (y : B) → i < length xs → flat_map f (take i xs) ≡ [] → slice_get (f (get_or xs i d)) 0 ≡ Some y →
    slice_get (flat_map f xs) 0 ≡ Some y
first-given f [] i d y less none first = absurd (omega arith)
first-given {A} {B} f (x ∷ xs) zero d y less none first = in-front (f x) first
  where
    in-front : (zs : List B) → slice_get zs 0 ≡ Some y → slice_get (zs ++ flat_map f xs) 0 ≡ Some y
    in-front [] e = cc
    in-front (z ∷ zs) e = e
first-given {A} {B} f (x ∷ xs) (suc i) d y less none first = behind (f x) none (λ rest. first-given f xs i d y (omega arith) rest first)
  where
    behind : (zs : List B) → zs ++ flat_map f (take i xs) ≡ [] → (flat_map f (take i xs) ≡ [] → slice_get (flat_map f xs) 0 ≡ Some y) → slice_get (zs ++ flat_map f xs) 0 ≡ Some y
    behind [] e more = more e
    behind (z ∷ zs) e more = cc

pub none-first : {A : Type 0} (xs : List A) → slice_get xs 0 ≡ None → xs ≡ []
none-first [] none = refl
none-first (x ∷ xs) none = cc

-- Sets

-- one client more
one-more : (set : ClientSet) (cs : List ℕ) (c : ℕ) → with_clients set (cs ++ c ∷ []) ≡ with_client (with_clients set cs) c
one-more set [] c = refl
one-more set (d ∷ cs) c = one-more (with_client set d) cs c

-- the clients of one set that aren't in the other, one number more
pub beyond-more : (set other : ClientSet) (n : ℕ) → with_clients nobody (filter (is_beyond set other) (range_with_len 0 (n + 1)))
    ≡ cond (is_beyond set other n) (with_client (with_clients nobody (filter (is_beyond set other) (range_with_len 0 n))) n) (with_clients nobody (filter (is_beyond set other) (range_with_len 0 n)))
beyond-more set other n =
    ap (λ cs. with_clients nobody (filter (is_beyond set other) cs)) (sym (range-more n))
    ∙ (ap (with_clients nobody) (filter-append (is_beyond set other) (range_with_len 0 n) (n ∷ []))
    ∙ at (filter (is_beyond set other) (range_with_len 0 n)) (is_beyond set other n))
  where
    at : (cs : List ℕ) (b : Bool) → with_clients nobody (cs ++ cond b (n ∷ []) []) ≡ cond b (with_client (with_clients nobody cs) n) (with_clients nobody cs)
    at cs true = one-more nobody cs n
    at cs false = ap (with_clients nobody) (append-nil cs)

-- what was found of two sets, as a list
pub exceeds : (told : ClientSet → Failure) (set other : ClientSet) (found : Option ClientSet) → found ≡ cond (within set other) None (Some (beyond set other)) →
    option_to_list (option_map told found) ≡ exceeding told set other
exceeds told set other found is = ap (λ o. option_to_list (option_map told o)) is ∙ at (within set other)
  where
    at : (b : Bool) → option_to_list (option_map told (cond b None (Some (beyond set other)))) ≡ unless b (told (beyond set other))
    at true = refl
    at false = refl

-- a label that was found, or nobody's
pub or-nobody : (o : Option Label) (default : Label) → default ≡ record { influence = nobody; learn = nobody } → (p : Option Label) → o ≡ p →
    unwrap_or o default ≡ or_else (record { influence = nobody; learn = nobody }) p
or-nobody o default none p is = ap₂ unwrap_or is none ∙ at p
  where
    at : (q : Option Label) → unwrap_or q (record { influence = nobody; learn = nobody }) ≡ or_else (record { influence = nobody; learn = nobody }) q
    at None = refl
    at (Some l) = refl

-- Plans

-- the client has a right of this reach
abbrev may_reach : Plan → Reach → ℕ → CellRef → Bool
may_reach P Influence c x = may_change P c x
may_reach P Learn c x = may_get P c x

-- the failures of a right and of an edge, by reach
denied-by : (P : Plan) (labels : Labels) (reach : Reach) (c : ℕ) (x : CellRef) →
    unless (not (may_reach P reach c x) || has (set_for reach (labelling_of labels x)) c) (right_failure reach c x) ≡ denied P labels reach (c, x)
denied-by P labels Influence c x = refl
denied-by P labels Learn c x = refl

lost-by : (labels : Labels) (reach : Reach) (e : Edge) →
    exceeding (edge_failure reach e) (set_for reach (labelling_of labels (near_end reach e))) (set_for reach (labelling_of labels (far_end reach e))) ≡ lost labels reach e
lost-by labels Influence e = refl
lost-by labels Learn e = refl

-- what rights grant is what the plan says
both-ways : (a b : Bool) → (a ≡ true → b ≡ true) → (b ≡ true → a ≡ true) → a ≡ b
both-ways true true f g = refl
both-ways true false f g = sym (f refl)
both-ways false true f g = g refl
both-ways false false f g = refl

granted-is : (P : Plan) (granted : List Label) → AreGranted P granted → (reach : Reach) (c k : ℕ) → k < length (cells P) →
    has (set_for reach (label_in granted k)) c ≡ may_reach P reach c (cell_at (cells P) k)
granted-is P granted g Influence c k less =
    let x = cell_at (cells P) k in
    let is = (g.each k less).influence c in
    both-ways (has (label_in granted k).influence c) (may_change P c x) (λ e. changer_found P c x (is.0 e)) (λ e. is.1 (changer_from P c x (item_at (cells P) k less) e))
granted-is P granted g Learn c k less = (g.each k less).learn c

-- the link with this number, and the ends of its edge
abbrev pub link_at : List Link → ℕ → Link
link_at links k = get_or links k (record { source = 0; target = 0; cause = Monitored })

in-links : (links : List Link) (k : ℕ) → k < length links → IsIn links (link_at links k)
in-links [] k less = absurd (omega arith)
in-links (l ∷ links) zero less = inl refl
in-links (l ∷ links) (suc k) less = inr (in-links links k (omega arith))

pub near-within : (cs : List CellRef) (reach : Reach) (l : Link) → IsLink cs l → near_of reach l < length cs
near-within cs Influence l is = is.0
near-within cs Learn l is = is.1

pub far-within : (cs : List CellRef) (reach : Reach) (l : Link) → IsLink cs l → far_of reach l < length cs
far-within cs Influence l is = is.1
far-within cs Learn l is = is.0

near-is : (cs : List CellRef) (reach : Reach) (l : Link) → cell_at cs (near_of reach l) ≡ near_end reach (edge_at cs l)
near-is cs Influence l = refl
near-is cs Learn l = refl

far-is : (cs : List CellRef) (reach : Reach) (l : Link) → cell_at cs (far_of reach l) ≡ far_end reach (edge_at cs l)
far-is cs Influence l = refl
far-is cs Learn l = refl

-- All clauses

module _ (case : Case) where
  abbrev P : Plan
  P = plan_of case

  -- the links of a plan by number, and their edges
  linked : (links : List Link) → map (edge_at (cells P)) links ≡ edges P → (k : ℕ) → k < length (edges P) → k < length links
  linked links are k less = subst (λ n. k < n) (sym (ap length are) ∙ length-map links (edge_at (cells P))) less

  pub link-within : (links : List Link) → map (edge_at (cells P)) links ≡ edges P → AreWithin (cells P) links → (k : ℕ) → k < length (edges P) → IsLink (cells P) (link_at links k)
  link-within links are inside k less = link_in (cells P) links (link_at links k) inside (in-links links k (linked links are k less))

  pub edge-is : (links : List Link) → map (edge_at (cells P)) links ≡ edges P → (k : ℕ) → k < length (edges P) → edge_at (cells P) (link_at links k) ≡ edge_in case k
  edge-is links are k less =
      sym (get_or-map (edge_at (cells P)) links k (link_at [] 0) (edge Monitored no_cell no_cell) (linked links are k less))
      ∙ ap (λ es. get_or es k (edge Monitored no_cell no_cell)) are

  -- what was found of a link is what is lost along its edge
  pub lost-is : (links : List Link) → map (edge_at (cells P)) links ≡ edges P → (reach : Reach) (k : ℕ) → k < length (edges P) →
      (n : ℕ) → n ≡ near_of reach (link_at links k) → (f : ℕ) → f ≡ far_of reach (link_at links k) →
      (near : Label) → near ≡ labelling_of case.labels.now (cell_in case n) → (far : Label) → far ≡ labelling_of case.labels.now (cell_in case f) →
      (a : ClientSet) → a ≡ set_for reach near → (b : ClientSet) → b ≡ set_for reach far →
      exceeding (edge_failure reach (edge_in case k)) a b ≡ lost case.labels.now reach (edge_in case k)
  lost-is links are reach k less n n-is f f-is near near-labelled far far-labelled a a-is b b-is =
      let l = link_at links k in
      let e = edge-is links are k less in
      ap₂ (exceeding (edge_failure reach (edge_in case k)))
      (a-is ∙ ap (set_for reach) (near-labelled ∙ ap (labelling_of case.labels.now) (ap (cell_in case) n-is ∙ near-is (cells P) reach l ∙ ap (near_end reach) e)))
      (b-is ∙ ap (set_for reach) (far-labelled ∙ ap (labelling_of case.labels.now) (ap (cell_in case) f-is ∙ far-is (cells P) reach l ∙ ap (far_end reach) e)))
      ∙ lost-by case.labels.now reach (edge_in case k)

  -- what was found of a right is what its cell's label denies
  pub denied-is : (granted : List Label) → AreGranted P granted → (reach : Reach) (c k : ℕ) → k < length (cells P) →
      (right : Label) → right ≡ get_or granted k right → (a : ClientSet) → a ≡ set_for reach right →
      (given : Label) → given ≡ labelling_of case.labels.now (cell_in case k) → (b : ClientSet) → b ≡ set_for reach given →
      (passes : Bool) → passes ≡ (not (has a c) || has b c) →
      unless passes (right_failure reach c (cell_in case k)) ≡ denied P case.labels.now reach (c, cell_in case k)
  denied-is granted are reach c k less right right-is a a-is given given-is b b-is passes is =
      let there : k < length granted = omega (arith, are.size, less) in
      ap (λ v. unless v (right_failure reach c (cell_in case k))) (is ∙ ap₂ (λ v w. not v || w)
      (ap (λ s. has s c) (a-is ∙ ap (set_for reach) (right-is ∙ get_or_default granted k right _ there)) ∙ granted-is P granted are reach c k less)
      (ap (λ s. has s c) (b-is ∙ ap (set_for reach) given-is)))
      ∙ denied-by P case.labels.now reach c (cell_in case k)

  rights-fail : (reach : Reach) (cs : List ℕ) →
      flat_map (failures_of case) (map (Right reach) cs) ≡ flat_map (denied P case.labels.now reach) (flat_map (λ c. map (λ x. (c, x)) (cells P)) cs)
  rights-fail reach [] = refl
  rights-fail reach (c ∷ cs) =
      let told : ℕ × CellRef → List Failure = denied P case.labels.now reach in
      ap₂ (λ ys zs. ys ++ zs) (by-numbers (λ x. told (c, x)) (cells P) no_cell ∙ beside told c (cells P)) (rights-fail reach cs)
      ∙ sym (flat_map-append told (map (λ x. (c, x)) (cells P)) (flat_map (λ d. map (λ x. (d, x)) (cells P)) cs))

  -- the clauses on rights, for each client of the plan
  rights : (reach : Reach) (n : ℕ) → n ≡ length P.clients → flat_map (failures_of case) (rights_of reach n) ≡ flat_map (denied P case.labels.now reach) (clients_with_cells P)
  rights reach n clients =
      rights-fail reach (range_with_len 0 n)
      ∙ ap (λ m. flat_map (denied P case.labels.now reach) (flat_map (λ c. map (λ x. (c, x)) (cells P)) (range_with_len 0 m))) clients

  pub all-fail : (n : ℕ) → n ≡ length P.clients → flat_map (failures_of case) (clauses_of n) ≡ failures P (policy_of case) case.labels.now
  all-fail n clients =
      let labels = case.labels.now in
      let ends = Flow Influence ∷ Flow Learn ∷ [] in
      ap₂ (λ a b. a ++ b) (by-numbers (unlabelled labels) (cells P) no_cell)
      (ap₂ (λ a b. a ++ b) (by-numbers (past_policy (policy_of case) labels) (cells P) no_cell)
      (flat_map-append (failures_of case) (rights_of Influence n) (rights_of Learn n ++ ends)
      ∙ ap₂ (λ a b. a ++ b) (rights Influence n clients)
      (flat_map-append (failures_of case) (rights_of Learn n) ends
      ∙ ap₂ (λ a b. a ++ b) (rights Learn n clients)
      (ap₂ (λ a b. a ++ b) (by-numbers (lost labels Influence) (edges P) (edge Monitored no_cell no_cell))
      (append-nil (failures_of case (Flow Learn)) ∙ by-numbers (lost labels Learn) (edges P) (edge Monitored no_cell no_cell))))))
