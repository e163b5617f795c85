-- An admitted plan keeps influence; and what secrecy asks of its labels and its policy.
use Rattle.cosem_data.proofs.Same.{same_cell-true, same_cell-refl}
use Rattle.cosem_data.proofs.Bits.{none_above}
use Rattle.cosem_data.specs.declared.clients.ClientSet.{ClientSet}
use Rattle.std.proofs.Common.{◌≡◌, ◌==◌, ◌<◌, ◌≤◌, ℕ, Bool, true, false, not, cond, ◌&&◌, ◌||◌, List, [], ◌∷◌, refl, sym, ap, subst, ◌∙◌, inl, inr, Option, Some, None, option_map, eqb-true, ne_eqb, nat_lt, ltb-true, arith}
use Rattle.std.specs.List.{list_all, range_with_len}
use Rattle.std.proofs.lemmas.Bool.{not-true, and_parts, and_from, or_cases, or_left, or_right, false_from_ne_true, ltb-false}
use Rattle.meter_theory.specs.Lists.{IsIn}
use Rattle.cosem_data.specs.Tree.{Tree}
use Rattle.cosem_data.specs.declared.name.LogicalName.{LogicalName}
use Rattle.cosem_data.specs.declared.cell.CellRef.{CellRef}
use Rattle.meter_theory.specs.State.{State, keys, value}
use Rattle.cosem_data.specs.Cells.{same_name, same_cell}
use Rattle.meter_theory.specs.Plan.{Plan, Part, Data1, Register, ProfileGeneric, Clock, ScriptTable, RegisterMonitor, SingleActionSchedule, start, start_of, association_name, association, interface_of, interface_at, cells, held, inner_clock, is_cell, object_at, rule_of}
use Rattle.meter_theory.specs.Access.{is_success}
use Rattle.meter_theory.specs.Rights.{cell_of, class_is, get_answer, set_answer, may_read, may_get, lists, readable_of_association}
use Rattle.meter_theory.specs.Fixed.{fixed}
use Rattle.meter_theory.specs.Replies.{Value, Code, is_step_of_client, attribute, selected, reply_to, run}
use Rattle.meter_theory.specs.Steps.{Put, changed_by_write, Step, Get, Set, Input, client_of, given_value, effects_of, next, is_fed, meets_some}
use Rattle.meter_theory.specs.Edges.{Agree, IsClosed}
use Rattle.meter_theory.specs.Labels.{has, within, Labels, Labelling, labelling_of, may_influence, may_learn, MayChange, Admits}
use Rattle.meter_theory.specs.Safety.{HasCells, is_step_of, Thinned, DifferHidden, outside, LookAlike, Influence}
use Rattle.meter_theory.specs.Sound.{IsSound}
use Rattle.meter_theory.proofs.Lists.{any_in, in_range}
use Rattle.meter_theory.proofs.State.{value_missing, is_touched}
use Rattle.meter_theory.proofs.Menus.{profile_entry, schedule_entry}
use Rattle.meter_theory.proofs.Writes.{write-edge, write-cells}
use Rattle.meter_theory.proofs.Agreement.{AreQuiet, next-keys, not_both}
use Rattle.meter_theory.proofs.StepsAgree.{StepLaws}
use Rattle.meter_theory.proofs.Rights.{client-changes, get_allowed, get_class, when, in_given, in_one_write}
use Rattle.meter_theory.proofs.Held.{of_each_cell, cell_held, cell_apart, held_apart}
use Rattle.meter_theory.proofs.Check.{edge_target, method_cells}
use Rattle.meter_theory.specs.declared.limits.TheConstants as limits

-- Sets of clients

pub all_at : {A : Type 0} (test : A → Bool) (xs : List A) (x : A) → list_all test xs ≡ true → IsIn xs x → test x ≡ true
all_at test [] x h i = absurd i
all_at test (y ∷ xs) x h i =
    let parts = and_parts (test y) (list_all test xs) h in
    elim i [
      | inl e ↦ subst (λ z. test z ≡ true) (sym e) parts.0
      | inr j ↦ all_at test xs x parts.1 j
    ]

all_from : {A : Type 0} (test : A → Bool) (xs : List A) → ((x : A) → IsIn xs x → test x ≡ true) → list_all test xs ≡ true
all_from test [] h = refl
all_from test (x ∷ xs) h = and_from (test x) (list_all test xs) (h x (inl refl)) (all_from test xs (λ y i. h y (inr i)))

-- a client past the sixteen places is in no set
outside_range : (cs : ClientSet) (c : ℕ) → limits.CLIENTS ≤ c → has cs c ≡ false
outside_range cs c high = none_above cs.mask c cs.in_range high

-- so who is in a set has one of them
pub inside_range : (cs : ClientSet) (c : ℕ) → has cs c ≡ true → c < limits.CLIENTS
inside_range cs c h =
    elim (nat_lt c limits.CLIENTS) as (λ b. nat_lt c limits.CLIENTS ≡ b → c < limits.CLIENTS) [
      | true ↦ λ low. ltb-true c limits.CLIENTS low
      | false ↦ λ high. absurd (not_both (has cs c) h (outside_range cs c (ltb-false c limits.CLIENTS high)))
    ] refl

pub within_has : (cs ds : ClientSet) → within cs ds ≡ true → (c : ℕ) → has cs c ≡ true → has ds c ≡ true
unfolding within
within_has cs ds h c i =
    elim (nat_lt c limits.CLIENTS) as (λ b. nat_lt c limits.CLIENTS ≡ b → has ds c ≡ true) [
      | true ↦ λ low. one (all_at (λ k. not (has cs k) || has ds k) (range_with_len 0 limits.CLIENTS) c h (in_range 0 limits.CLIENTS c (omega arith) (ltb-true c limits.CLIENTS low)))
      | false ↦ λ high. not_both (has cs c) i (outside_range cs c (ltb-false c limits.CLIENTS high))
    ] refl
  where
    one : (not (has cs c) || has ds c) ≡ true → has ds c ≡ true
    one e =
        elim (or_cases (not (has cs c)) (has ds c) e) [
          | inl none ↦ not_both (has cs c) i (not-true (has cs c) none)
          | inr there ↦ there
        ]

pub within_from : (cs ds : ClientSet) → ((c : ℕ) → has cs c ≡ true → has ds c ≡ true) → within cs ds ≡ true
unfolding within
within_from cs ds h = all_from (λ k. not (has cs k) || has ds k) (range_with_len 0 limits.CLIENTS) (λ c i. at c (has cs c) refl)
  where
    at : (c : ℕ) (b : Bool) → has cs c ≡ b → (not b || has ds c) ≡ true
    at c true p = h c p
    at c false p = refl

pub within_trans : (a b c : ClientSet) → within a b ≡ true → within b c ≡ true → within a c ≡ true
within_trans a b c h k = within_from a c (λ d i. within_has b c k d (within_has a b h d i))

-- Cells

pub is_cell_in : (P : Plan) (x : CellRef) → is_cell P x ≡ true → IsIn (cells P) x
is_cell_in P x h =
    let r = any_in (same_cell x) (cells P) h in
    subst (IsIn (cells P)) (sym (same_cell-true x r.0 r.2)) r.1

-- Runs that aren't in step

-- Taking out steps that leave S alone leaves S.
pub thinned-agree : (P : Plan) → StepLaws P → (S : CellRef → Bool) → IsClosed P S → (K : ℕ → Bool) →
    ((s : State) (step : Step) → is_step_of K (client_of step) ≡ true → AreQuiet S (effects_of P s step)) →
    (l l' : List Step) (s t : State) → keys s ≡ keys t → Agree S s t → Thinned K l l' → Agree S (run P s l) (run P t l')
thinned-agree P steps S closed K quiet [] l' s t k agree th = subst (λ m. Agree S s (run P t m)) (sym th) agree
thinned-agree P steps S closed K quiet (step ∷ l) l' s t k agree th =
    elim th [
      | inl out ↦ thinned-agree P steps S closed K quiet l l' (next P s step) t (next-keys P s step ∙ k)
          (λ x i. steps.quiet S step s (quiet s step out.0) x i ∙ agree x i) out.1
      | inr kept ↦ subst (λ m. Agree S (run P s (step ∷ l)) (run P t m)) (sym kept.1)
          (thinned-agree P steps S closed K quiet l kept.0 (next P s step) (next P t step)
          (next-keys P s step ∙ (k ∙ sym (next-keys P t step))) (steps.agrees S closed step s t k agree) kept.2)
    ]

is_step-weaker : (K M : ℕ → Bool) → ((c : ℕ) → K c ≡ true → M c ≡ true) → (o : Option ℕ) → is_step_of K o ≡ true → is_step_of M o ≡ true
is_step-weaker K M h None e = e
is_step-weaker K M h (Some c) e = h c e

pub Thinned-weaker : (K M : ℕ → Bool) → ((c : ℕ) → K c ≡ true → M c ≡ true) → (l l' : List Step) → Thinned K l l' → Thinned M l l'
Thinned-weaker K M h [] l' th = th
Thinned-weaker K M h (step ∷ l) l' th =
    elim th [
      | inl out ↦ inl (is_step-weaker K M h (client_of step) out.0, Thinned-weaker K M h l l' out.1)
      | inr kept ↦ inr (kept.0, kept.1, Thinned-weaker K M h l kept.0 kept.2)
    ]

-- who it is
client_there : (K : ℕ → Bool) (o : Option ℕ) → is_step_of K o ≡ true → (c : ℕ) × (o ≡ Some c) × (K c ≡ true)
client_there K None h = cc
client_there K (Some c) h = (c, refl, h)

-- a cell is no logical name and no attribute of an association, so that whoever may read it has a right
start_index : (n : LogicalName) (part : Part) (x : CellRef) (v : Tree) → IsIn (start_of n part) (x, v) → (x.index == 1) ≡ false
start_index n (Data1 start) x v (inl e) = ap (λ z. z.0.index == 1) e
start_index n (Data1 start) x v (inr none) = absurd none
start_index n (Register start default scaler_unit) x v (inl e) = ap (λ z. z.0.index == 1) e
start_index n (Register start default scaler_unit) x v (inr none) = absurd none
start_index n (ProfileGeneric captured period entries) x v i =
    elim (profile_entry n captured period entries (x, v) i) [
      | inl e ↦ ap (λ z. z.0.index == 1) e
      | inr j ↦ elim j [
        | inl e ↦ ap (λ z. z.0.index == 1) e.1
        | inr k ↦ elim k [ inl e ↦ ap (λ z. z.0.index == 1) e | inr e ↦ ap (λ z. z.0.index == 1) e ]
      ]
    ]
start_index n (Clock start) x v (inl e) = ap (λ z. z.0.index == 1) e
start_index n (Clock start) x v (inr none) = absurd none
start_index n (ScriptTable scripts) x v none = absurd none
start_index n (RegisterMonitor monitored th actions) x v (inl e) = ap (λ z. z.0.index == 1) e
start_index n (RegisterMonitor monitored th actions) x v (inr (inl e)) = ap (λ z. z.0.index == 1) e
start_index n (RegisterMonitor monitored th actions) x v (inr (inr none)) = absurd none
start_index n (SingleActionSchedule script type times) x v i =
    elim (schedule_entry n script type times (x, v) i) [ inl e ↦ ap (λ z. z.0.index == 1) e.1 | inr e ↦ ap (λ z. z.0.index == 1) e ]

start_class : (n : LogicalName) (part : Part) (x : CellRef) (v : Tree) → IsIn (start_of n part) (x, v) → (15 == x.class_id) ≡ false
start_class n (Data1 start) x v (inl e) = ap (λ z. 15 == z.0.class_id) e
start_class n (Data1 start) x v (inr none) = absurd none
start_class n (Register start default scaler_unit) x v (inl e) = ap (λ z. 15 == z.0.class_id) e
start_class n (Register start default scaler_unit) x v (inr none) = absurd none
start_class n (ProfileGeneric captured period entries) x v i =
    elim (profile_entry n captured period entries (x, v) i) [
      | inl e ↦ ap (λ z. 15 == z.0.class_id) e
      | inr j ↦ elim j [
        | inl e ↦ ap (λ z. 15 == z.0.class_id) e.1
        | inr k ↦ elim k [ inl e ↦ ap (λ z. 15 == z.0.class_id) e | inr e ↦ ap (λ z. 15 == z.0.class_id) e ]
      ]
    ]
start_class n (Clock start) x v (inl e) = ap (λ z. 15 == z.0.class_id) e
start_class n (Clock start) x v (inr none) = absurd none
start_class n (ScriptTable scripts) x v none = absurd none
start_class n (RegisterMonitor monitored th actions) x v (inl e) = ap (λ z. 15 == z.0.class_id) e
start_class n (RegisterMonitor monitored th actions) x v (inr (inl e)) = ap (λ z. 15 == z.0.class_id) e
start_class n (RegisterMonitor monitored th actions) x v (inr (inr none)) = absurd none
start_class n (SingleActionSchedule script type times) x v i =
    elim (schedule_entry n script type times (x, v) i) [ inl e ↦ ap (λ z. 15 == z.0.class_id) e.1 | inr e ↦ ap (λ z. 15 == z.0.class_id) e ]

cell_read : (P : Plan) (c : ℕ) (x : CellRef) → IsIn (cells P) x → class_is x.class_id (interface_at P x.name) ≡ true → may_read P c x ≡ true → may_get P c x ≡ true
cell_read P c x i class may = at (same_name x.name association_name) class may
  where
    at : (b : Bool) → class_is x.class_id (cond b (Some association) (option_map (λ o. interface_of o.part) (object_at P x.name))) ≡ true →
        cond b (lists readable_of_association x.index) ((x.index == 1) || may_get P c x) ≡ true → may_get P c x ≡ true
    at true of_association read = not_both (15 == x.class_id) of_association (of_each_cell P (λ z. 15 == z.class_id) start_class x i)
    at false of_object read =
        elim (or_cases (x.index == 1) (may_get P c x) read) [
          | inl e ↦ not_both (x.index == 1) e (of_each_cell P (λ z. z.index == 1) start_index x i)
          | inr e ↦ e
        ]

-- What c can't tell apart, for one set S of cells

-- the reply to a step of c
pub reply-same : (P : Plan) (S : CellRef → Bool) (c : ℕ) → ((x : CellRef) → IsIn (cells P) x → may_get P c x ≡ true → S x ≡ true) →
    (s t : State) → Agree S s t → (step : Step) → is_step_of_client c (client_of step) ≡ true → reply_to P s step ≡ reply_to P t step
reply-same P S c reads s t agree (Get d y selection) h =
    where_allowed (is_success (get_answer P d y selection)) refl
  where
    same : c ≡ d
    same = eqb-true c d h

    x : CellRef
    x = cell_of y

    here : class_is y.class_id (interface_at P y.name) ≡ true → may_read P d x ≡ true → (b : Bool) → is_cell P x ≡ b →
        Value (selected selection (cond b (value s x) (fixed P d x))) ≡ Value (selected selection (cond b (value t x) (fixed P d x)))
    here class may true p = ap (λ v. Value (selected selection v)) (agree x (reads x (is_cell_in P x p) (subst (λ k. may_get P k x ≡ true) (sym same) (cell_read P d x (is_cell_in P x p) class may))))
    here class may false p = refl

    where_allowed : (b : Bool) → is_success (get_answer P d y selection) ≡ b →
        cond b (Value (selected selection (attribute P s d x))) (Code (get_answer P d y selection))
        ≡ cond b (Value (selected selection (attribute P t d x))) (Code (get_answer P d y selection))
    where_allowed true p = here (get_class P d y selection p) (get_allowed P d y selection p) (is_cell P x) refl
    where_allowed false p = refl
reply-same P S c reads s t agree _ h = refl

-- what two steps are that differ in what is hidden
pub record AreHidden (P : Plan) (S : CellRef → Bool) (c : ℕ) (step step' : Step) : Type 0 where
  pub other : is_step_of_client c (client_of step) ≡ false
  pub other' : is_step_of_client c (client_of step') ≡ false
  pub quiet : (s : State) → AreQuiet S (effects_of P s step)
  pub quiet' : (s : State) → AreQuiet S (effects_of P s step')

-- what a write of a hidden cell changes is hidden
write_hidden : (P : Plan) (S : CellRef → Bool) → IsClosed P S → (y : CellRef) → IsIn (cells P) y → S y ≡ false → (x : CellRef) → IsIn (changed_by_write y) x → S x ≡ false
write_hidden P S closed y there hidden x i =
    elim (write-edge P y there x i) [
      | inl e ↦ subst (λ z. S z ≡ false) (sym e) hidden
      | inr is ↦ false_from_ne_true (S x) (λ h. not_both (S y) (closed.edges _ is h) hidden)
    ]

-- hidden steps touch nothing that c may learn
pub are_hidden : (P : Plan) (Q : Labelling) (c : ℕ) → IsClosed P (may_learn Q c) → (step step' : Step) → DifferHidden P Q c step step' → AreHidden P (may_learn Q c) c step step'
are_hidden P Q c closed (Set d x selector v) (Set e y chosen w) h = record {
  other = ne_eqb c d (λ q. h.1 (sym q));
  other' = ne_eqb c e (λ q. h.1 (h.0 ∙ sym q));
  quiet = λ s z i. when (is_success (set_answer P d x selector v)) (given_value (cell_of x) v) z (λ ok j. hidden z (in_given (cell_of x) v z j)) i;
  quiet' = λ s z i. when (is_success (set_answer P e y chosen w)) (given_value (cell_of y) w) z
      (λ ok j. hidden z (subst (λ u. IsIn (changed_by_write u) z) (sym (ap cell_of h.2)) (in_given (cell_of y) w z j))) i;
}
  where
    hidden : (z : CellRef) → IsIn (changed_by_write (cell_of x)) z → may_learn Q c z ≡ false
    hidden z i = write_hidden P (may_learn Q c) closed (cell_of x) h.4 h.5 z i
are_hidden P Q c closed (Input x v) (Input y w) h = record {
  other = refl;
  other' = refl;
  quiet = λ s. input_quiet x v h.1 h.2;
  quiet' = λ s. input_quiet y w (subst (IsIn (cells P)) h.0 h.1) (subst (λ u. may_learn Q c u ≡ false) h.0 h.2);
}
  where
    input_quiet : (u : CellRef) (given : Tree) → IsIn (cells P) u → may_learn Q c u ≡ false → AreQuiet (may_learn Q c) (cond (is_fed P u && meets_some (rule_of P u) given) (Put u given ∷ []) [])
    input_quiet u given there hidden z i = when (is_fed P u && meets_some (rule_of P u) given) (Put u given ∷ []) z (λ ok j.
        write_hidden P (may_learn Q c) closed u there hidden z (in_one_write u given z j)) i
are_hidden P Q c closed _ _ h = absurd h

-- what a client's right changes is cells of a sound plan
changed_cell : (P : Plan) → IsSound P → (c : ℕ) (x : CellRef) → MayChange P c x → IsIn (cells P) x
changed_cell P sound c x (inl h) = write-cells P h.0 h.1 x h.3
changed_cell P sound c x (inr h) = method_cells P sound h.0 x h.2

module _ (P : Plan) (policy : Labelling) (labels : Labels) (sound : IsSound P) (a : Admits P policy labels) where
  abbrev Q : Labelling
  Q = labelling_of labels

  abbrev inner : CellRef → Bool
  inner = same_cell inner_clock

  -- the cells whose influence set lies within that of x, and the inner clock, which nobody influences
  abbrev below : CellRef → CellRef → Bool
  below x y = inner y || (not (inner x) && within (Q y).influence (Q x).influence)

  -- of a cell of the plan the labels say it
  below_cell : (x y : CellRef) → IsIn (cells P) y → below x y ≡ true → (inner x ≡ false) × (within (Q y).influence (Q x).influence ≡ true)
  below_cell x y i h =
      elim (or_cases (inner y) (not (inner x) && within (Q y).influence (Q x).influence) h) [
        | inl e ↦ not_both (inner y) e (cell_apart P y i)
        | inr e ↦ let p = and_parts (not (inner x)) (within (Q y).influence (Q x).influence) e in (not-true (inner x) p.0, p.1)
      ]

  below_from : (x y : CellRef) → inner x ≡ false → within (Q y).influence (Q x).influence ≡ true → below x y ≡ true
  below_from x y apart h = or_right (inner y) (not (inner x) && within (Q y).influence (Q x).influence) (and_from (not (inner x)) (within (Q y).influence (Q x).influence) (ap not apart) h)

  below_closed : (x : CellRef) → IsClosed P (below x)
  below_closed x = record {
    edges = λ e is h.
        let p = below_cell x e.target (edge_target P sound e is) h in
        below_from x e.source p.0 (within_trans (Q e.source).influence (Q e.target).influence (Q x).influence (a.covers.influence_flows e is) p.1);
    holds_clock = λ _. or_left (inner inner_clock) (not (inner x) && within (Q inner_clock).influence (Q x).influence) (same_cell-refl inner_clock);
  }

  outside_quiet : (x : CellRef) (s : State) (step : Step) → is_step_of (outside Q x) (client_of step) ≡ true → AreQuiet (below x) (effects_of P s step)
  outside_quiet x s step out y i =
      let who = client_there (outside Q x) (client_of step) out in
      let changes = client-changes P s step who.0 who.1 y i in
      false_from_ne_true (below x y) (λ h.
      let p = below_cell x y (changed_cell P sound who.0 y changes) h in
      let may : has (Q y).influence who.0 ≡ true = a.covers.changers who.0 y changes in
      let inside : has (Q x).influence who.0 ≡ true = within_has (Q y).influence (Q x).influence p.1 who.0 may in
      not_both (may_influence Q who.0 x) (and_from (not (inner x)) (has (Q x).influence who.0) (ap not p.0) inside) (not-true (may_influence Q who.0 x) who.2))

  below_itself : (x : CellRef) → below x x ≡ true
  below_itself x = at (inner x) refl
    where
      at : (b : Bool) → inner x ≡ b → below x x ≡ true
      at true h = or_left (inner x) (not (inner x) && within (Q x).influence (Q x).influence) h
      at false h = below_from x x h (within_from (Q x).influence (Q x).influence (λ c i. i))

  pub influence-labels : StepLaws P → Influence P Q
  influence-labels steps = record {
    thinned = λ s x l l' is i th. thinned-agree P steps (below x) (below_closed x) (outside Q x) (outside_quiet x) l l' s s refl (λ y h. refl) th x (below_itself x);
    changed = λ s x step is i differs. false_from_ne_true _ (λ out.
        differs (steps.quiet (below x) step s (outside_quiet x s step out) x (below_itself x)));
  }

  -- a client outside the policy's set is outside the labels' set
  outside_both : (x : CellRef) → IsIn (held P) x → (c : ℕ) → outside policy x c ≡ true → outside Q x c ≡ true
  outside_both x i c h =
      ap not (false_from_ne_true (may_influence Q c x) (λ k.
      let p = and_parts (not (inner x)) (has (Q x).influence c) k in
      let in_plan = held_apart P x i (not-true (inner x) p.0) in
      let more = within_has (Q x).influence (policy x).influence (a.influence_within x in_plan) c p.1 in
      not_both (may_influence policy c x) (and_from (not (inner x)) (has (policy x).influence c) p.0 more) (not-true (may_influence policy c x) h)))

  pub influence-policy : StepLaws P → Influence P policy
  influence-policy steps = record {
    thinned = λ s x l l' is i th. (influence-labels steps).thinned s x l l' is i (Thinned-weaker (outside policy x) (outside Q x) (outside_both x i) l l' th);
    changed = λ s x step is i differs. false_from_ne_true _ (λ out.
        not_both (is_step_of (outside Q x) (client_of step)) (is_step-weaker (outside policy x) (outside Q x) (outside_both x i) (client_of step) out) ((influence-labels steps).changed s x step is i differs));
  }

  -- the cells that c may learn
  pub learnable_closed : (c : ℕ) → IsClosed P (may_learn Q c)
  learnable_closed c = record {
    edges = λ e is h.
        elim (or_cases (inner e.target) (has (Q e.target).learn c) h) [
          | inl k ↦ not_both (inner e.target) k (cell_apart P e.target (edge_target P sound e is))
          | inr k ↦ or_right (inner e.source) (has (Q e.source).learn c) (within_has (Q e.target).learn (Q e.source).learn (a.covers.learn_flows e is) c k)
        ];
    holds_clock = λ _. or_left (inner inner_clock) (has (Q inner_clock).learn c) (same_cell-refl inner_clock);
  }

  pub reads_learnable : (c : ℕ) (x : CellRef) → IsIn (cells P) x → may_get P c x ≡ true → may_learn Q c x ≡ true
  reads_learnable c x i may = or_right (inner x) (has (Q x).learn c) (a.covers.readers c x i may)

  pub learn_more : (c : ℕ) (x : CellRef) → IsIn (held P) x → may_learn Q c x ≡ true → may_learn policy c x ≡ true
  learn_more c x i h = at (inner x) refl
    where
      at : (b : Bool) → inner x ≡ b → may_learn policy c x ≡ true
      at true e = or_left (inner x) (has (policy x).learn c) e
      at false e =
          elim (or_cases (inner x) (has (Q x).learn c) h) [
            | inl k ↦ not_both (inner x) k e
            | inr k ↦ or_right (inner x) (has (policy x).learn c) (within_has (Q x).learn (policy x).learn (a.learn_within x (held_apart P x i e)) c k)
          ]

  -- states that look alike by the policy look alike by the labels
  pub look_there : (c : ℕ) (s s' : State) → HasCells P s → HasCells P s' → LookAlike policy c s s' → LookAlike Q c s s'
  look_there c s s' is is' look x h =
      elim (is_touched (held P) x) [
        | inl i ↦ look x (learn_more c x i h)
        | inr none ↦ value_missing s x (λ i. none (subst (λ ks. IsIn ks x) is i)) ∙ sym (value_missing s' x (λ i. none (subst (λ ks. IsIn ks x) is' i)))
      ]

  less : (c : ℕ) (x : CellRef) → IsIn (cells P) x → may_learn policy c x ≡ false → may_learn Q c x ≡ false
  less c x i h = false_from_ne_true (may_learn Q c x) (λ k. not_both (may_learn policy c x) (learn_more c x (cell_held P x i) k) h)

  -- what the policy hides the labels hide
  pub hidden_there : (c : ℕ) (step step' : Step) → DifferHidden P policy c step step' → DifferHidden P Q c step step'
  hidden_there c (Set d x selector v) (Set e y chosen w) h = (h.0, h.1, h.2, h.3, h.4, less c (cell_of x) h.4 h.5)
  hidden_there c (Input x v) (Input y w) h = (h.0, h.1, less c x h.1 h.2)
  hidden_there c _ _ h = absurd h
