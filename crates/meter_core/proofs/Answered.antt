-- What the permits say of a reply and of the state after it.
use Rattle.std.specs.Prelude.{◌≡◌, Bool, true, false, not, cond, ℕ, List, [], length, ◌==◌, Option, Some, None, Result, Ok, Err, OnOk, OnErr}
use Rattle.std.proofs.lemmas.Bool.{eqb-true, false≢true, and_parts}
use Rattle.std.specs.Prelude.{is_some, unsigned_abs}
use Rattle.std.specs.Option.{option_map}
use Rattle.std.specs.List.{list_any}
use Rattle.cosem_data.specs.Cells.{cell, same_cell, same_name}
use Rattle.cosem_data.proofs.Same.{same_cell-refl}
use Rattle.std.proofs.lemmas.List.{nil_from_length}
use Rattle.std.proofs.Common.{refl, sym, ap, subst, ◌∙◌, inl, inr}
use Rattle.cosem_data.specs.Tree.{Tree, array, no_trees}
use Rattle.cosem_data.specs.declared.cell.CellRef.{CellRef}
use Rattle.cosem_data.specs.declared.name.LogicalName.{LogicalName}
use Rattle.meter_theory.specs.declared.access.AccessCode.{AccessCode}
use Rattle.meter_theory.specs.declared.access.AccessCode.TheVariants as codes
use Rattle.meter_theory.specs.Access.{is_success}
use Rattle.meter_theory.specs.declared.refs.Descriptor.{Descriptor}
use Rattle.meter_theory.specs.State.{State}
use Rattle.meter_theory.specs.Lists.{IsIn}
use Rattle.meter_theory.specs.Plan.{Plan, Object, Part, ProfileGeneric, association, association_name, buffer, cells, interface_at, interface_of, is_cell, object_at, rule_of, start_of}
use Rattle.meter_theory.specs.Value.{Rule}
use Rattle.meter_theory.specs.Rights.{Argument, Given, Selection, cell_of, class_is, method_of, get_answer, get_places, set_answer, act_answer, set_places, meets_rule, takes_selection}
use Rattle.meter_theory.specs.Steps.{Step, Get, Set, Act, Input, CaptureAt, Evaluate, ScheduleAt, Tick, ClockAt, client_of, effects, effects_of, given_value, method_effects, next}
use Rattle.meter_theory.specs.Replies.{Value, Code, Quiet, attribute, selected, reply_to}
use Rattle.meter_theory.specs.Sound.{IsSound}
use Rattle.meter_theory.specs.States.{IsState, MayStand}
use Rattle.meter_theory.proofs.KeepSteps.{step-keeps}
use Rattle.meter_theory.proofs.Lists.{none_in}
use Rattle.meter_theory.proofs.Rights.{place_passed, cell_of_found, get_class}
use Rattle.cosem_data.specs.declared.data.Data.{Data}
use Rattle.object_model.specs.declared.argument.Argument as code
use Rattle.object_model.specs.declared.argument.Argument.TheVariants as arguments
use Rattle.object_model.specs.ArgumentView.{argument_of, selection_of}
use Rattle.association_views.specs.Permits.{permitted}
use Rattle.meter_core.specs.Copies.{shows_value}
use Rattle.meter_core.specs.Judging.{refused_by, refusal, number_named, MayBeSet}
use Rattle.meter_core.specs.Memory.{needs_no_memory}
use Rattle.meter_core.specs.StepView.{shown_of, step_of, turn_of}
use Rattle.meter_core.specs.declared.step.Step as kind
use Rattle.meter_core.specs.declared.step.Step.TheVariants as kinds
use Rattle.meter_core.specs.declared.shown.Shown.{Shown}
use Rattle.meter_core.specs.declared.shown.Shown.TheVariants as shown

-- no effects are those of a list of no length
no_effects : {A : Type 0} (xs : List A) → (length xs == 0) ≡ true → xs ≡ []
no_effects xs h = nil_from_length xs (eqb-true (length xs) 0 h)

granted : (code : AccessCode) (unit : Unit {0}) → Ok unit ≡ permitted code → code ≡ codes.Success
granted codes.Success unit h = refl
granted _ unit h = cc

refused : (code given : AccessCode) → Err given ≡ permitted code → (given ≡ code) × (is_success code ≡ false)
refused codes.Success given h = cc
refused _ given h = (cc, refl)

-- what is granted isn't refused
not_refused : {b : Bool} (code : AccessCode) (unit : Unit {0}) → Ok unit ≡ permitted code → not (is_success code) ≡ true → b ≡ true
not_refused codes.Success unit h n = cc
not_refused _ unit h n = cc

not-false : (b : Bool) → not b ≡ false → b ≡ true
not-false true h = refl
not-false false h = cc

-- GET

pub granted_get_takes_memory : {b : Bool} (P : Plan) (s : State) (c : ℕ) (d : Descriptor) (selection : Option Selection) (unit : Unit {0}) → Ok unit ≡ permitted (get_answer P c d selection)
    → needs_no_memory P s (Get c d selection) ≡ true → b ≡ true
granted_get_takes_memory P s c d selection unit h = not_refused (get_answer P c d selection) unit h

pub refused_get : (P : Plan) (s : State) (c : ℕ) (d : Descriptor) (selection : Option Selection) (code : AccessCode) → Err code ≡ permitted (get_answer P c d selection)
    → Code code ≡ reply_to P s (Get c d selection)
refused_get P s c d selection code h =
    let r = refused (get_answer P c d selection) code h in
    ap Code r.0 ∙ ap (λ b. cond b (Value (selected selection (attribute P s c (cell_of d)))) (Code (get_answer P c d selection))) (sym r.1)

pub granted_get : (P : Plan) (s : State) (c : ℕ) (d : Descriptor) (selection : Option Selection) (v : Tree) (unit : Unit {0}) → Ok unit ≡ permitted (get_answer P c d selection)
    → v ≡ selected selection (attribute P s c (cell_of d)) → Value v ≡ reply_to P s (Get c d selection)
granted_get P s c d selection v unit h is =
    ap Value is
    ∙ ap (λ code. cond (is_success code) (Value (selected selection (attribute P s c (cell_of d)))) (Code code)) (sym (granted (get_answer P c d selection) unit h))

-- the class of what stands at a name says which object it is: a profile has a buffer
buffer_in : (P : Plan) (n : LogicalName) → class_is 7 (interface_at P n) ≡ true → IsIn (cells P) (buffer n)
buffer_in P n h = at (same_name n association_name) (object_at P n) refl h
  where
    of_part : (o : Object) → object_at P n ≡ Some o → (part : Part) → o.part ≡ part → class_is 7 (Some (interface_of part)) ≡ true → IsIn (cells P) (buffer n)
    of_part o there (ProfileGeneric captured period entries) is h =
        cell_of_found P n o there (buffer n) (array no_trees) (subst (λ p. IsIn (start_of n p) (buffer n, array no_trees)) (sym is) (inl refl))
    of_part o there _ is h = cc

    at : (b : Bool) (o : Option Object) → object_at P n ≡ o → class_is 7 (cond b (Some association) (option_map (λ z. interface_of z.part) o)) ≡ true → IsIn (cells P) (buffer n)
    at true o there h = cc
    at false None there h = cc
    at false (Some o) there h = of_part o there o.part refl h

in_cells : (xs : List CellRef) (x : CellRef) → IsIn xs x → list_any (same_cell x) xs ≡ true
in_cells xs x i = at (list_any (same_cell x) xs) refl
  where
    at : (b : Bool) → list_any (same_cell x) xs ≡ b → list_any (same_cell x) xs ≡ true
    at true is = is
    at false is = absurd (false≢true (sym (none_in (same_cell x) xs x is i) ∙ same_cell-refl x))

-- a granted GET by a selector is of a buffer that is a cell
pub selects_buffer : (P : Plan) (c : ℕ) (d : Descriptor) (selection : Option Selection) (unit : Unit {0}) → Ok unit ≡ permitted (get_answer P c d selection) → is_some selection ≡ true
    → ((cell_of d).class_id ≡ 7) × ((cell_of d).index ≡ 2) × (is_cell P (cell_of d) ≡ true)
selects_buffer P c d None unit h some = cc
selects_buffer P c d (Some s) unit h some =
    let success = ap is_success (granted (get_answer P c d (Some s)) unit h) in
    let takes = not-false _ (place_passed (get_places P c d (Some s)) (not (takes_selection (cell_of d) (Some s)), codes.ScopeOfAccessViolated) (inr (inr (inr (inr (inl refl))))) refl success) in
    let class = and_parts _ _ takes in
    let class_is_7 : d.class_id ≡ 7 = eqb-true d.class_id 7 class.0 in
    let index_is_2 = eqb-true (unsigned_abs d.index) 2 (and_parts _ _ class.1).0 in
    let there = buffer_in P d.name (subst (λ k. class_is k (interface_at P d.name) ≡ true) class_is_7 (get_class P c d (Some s) success)) in (
      class_is_7,
      index_is_2,
      ap (λ k. list_any (same_cell (cell k d.name (unsigned_abs d.index))) (cells P)) class_is_7
          ∙ (ap (λ i. list_any (same_cell (cell 7 d.name i)) (cells P)) index_is_2 ∙ in_cells (cells P) (buffer d.name) there),
    )

pub is_some-selection : (selection : Option (ℕ × code.Argument)) → is_some (selection_of selection) ≡ is_some selection
is_some-selection None = refl
is_some-selection (Some s) = refl

-- without a selection the whole is left
pub unselected : (selection : Option Selection) (v : Tree) → (is_some selection ≡ true → ⊥) → v ≡ selected selection v
unselected None v n = refl
unselected (Some s) v n = absurd (n refl)

-- what is shown where a GET is refused is no value
pub code_shown : (P : Plan) (s : State) (c : ℕ) (d : Descriptor) (selection : Option Selection) (answer : Shown) → shown_of answer ≡ reply_to P s (Get c d selection)
    → needs_no_memory P s (Get c d selection) ≡ true → shows_value answer ≡ false
code_shown P s c d selection answer is needs = at (is_success (get_answer P c d selection)) answer needs is
  where
    at : (b : Bool) (x : Shown) → not b ≡ true → shown_of x ≡ cond b (Value (selected selection (attribute P s c (cell_of d)))) (Code (get_answer P c d selection)) → shows_value x ≡ false
    at true x n e = cc
    at false (shown.Value v) n e = cc
    at false (shown.Entries rows) n e = cc
    at false (shown.Made v) n e = cc
    at false (shown.Code code) n e = refl

-- what a plan refuses

some_refused : (code given : AccessCode) → Some given ≡ refused_by code → (given ≡ code) × (is_success code ≡ false)
some_refused codes.Success given h = cc
some_refused _ given h = (cc, refl)

none_refused : (code : AccessCode) → None ≡ refused_by code → code ≡ codes.Success
none_refused codes.Success h = refl
none_refused _ h = cc

pub refused_replies : (P : Plan) (s : State) (step : Step) (code : AccessCode) → Some code ≡ refusal P step → Code code ≡ reply_to P s step
refused_replies P s (Set c d chosen v) code h = ap Code (some_refused (set_answer P c d chosen v) code h).0
refused_replies P s (Act c d argument) code h = ap Code (some_refused (act_answer P c d argument) code h).0
refused_replies P s _ code h = cc

pub refused_stays : (P : Plan) (s : State) (step : Step) (code : AccessCode) → Some code ≡ refusal P step → s ≡ next P s step
refused_stays P s (Set c d chosen v) code h =
    ap (λ b. effects P s (cond b (given_value (cell_of d) v) [])) (sym (some_refused (set_answer P c d chosen v) code h).1)
refused_stays P s (Act c d argument) code h =
    ap (λ b. effects P s (cond b (method_effects P (method_of d) argument) [])) (sym (some_refused (act_answer P c d argument) code h).1)
refused_stays P s _ code h = cc

-- whether a step is taken or refused for memory, the state is one of the plan
pub applied_keeps : {A E : Type 0} (P : Plan) (s t : State) (step : Step) (r : Result A E) → IsSound P → IsState P s → OnOk r (t ≡ next P s step) → OnErr r (t ≡ s) → IsState P t
applied_keeps P s t step (Ok x) sound is taken refused = subst (IsState P) (sym taken) (step-keeps P sound s step is)
applied_keeps P s t step (Err e) sound is taken refused = subst (IsState P) (sym refused) is

-- a granted SET

pub set_replies : (P : Plan) (s : State) (c : ℕ) (d : Descriptor) (chosen : Bool) (v : Argument) → None ≡ refusal P (Set c d chosen v) → Code codes.Success ≡ reply_to P s (Set c d chosen v)
set_replies P s c d chosen v h = ap Code (sym (none_refused (set_answer P c d chosen v) h))

pub set_puts : (P : Plan) (s : State) (c : ℕ) (d : Descriptor) (chosen : Bool) (v : Argument) → None ≡ refusal P (Set c d chosen v)
    → effects P s (given_value (cell_of d) v) ≡ next P s (Set c d chosen v)
set_puts P s c d chosen v h =
    ap (λ code. effects P s (cond (is_success code) (given_value (cell_of d) v) [])) (sym (none_refused (set_answer P c d chosen v) h))

pub set_takes_memory : {b : Bool} (P : Plan) (s : State) (c : ℕ) (d : Descriptor) (chosen : Bool) (v : Argument) → None ≡ refusal P (Set c d chosen v)
    → needs_no_memory P s (Set c d chosen v) ≡ true → b ≡ true
set_takes_memory P s c d chosen v h needs =
    absurd (false≢true (ap (λ code. not (is_success code)) (sym (none_refused (set_answer P c d chosen v) h)) ∙ needs))

-- a granted ACTION

pub act_replies : (P : Plan) (s : State) (c : ℕ) (d : Descriptor) (argument : Argument) → None ≡ refusal P (Act c d argument) → Code codes.Success ≡ reply_to P s (Act c d argument)
act_replies P s c d argument h = ap Code (sym (none_refused (act_answer P c d argument) h))

-- its effects are those of the method that is called
pub act_calls : (P : Plan) (s : State) (c : ℕ) (d : Descriptor) (argument : Argument) → None ≡ refusal P (Act c d argument)
    → method_effects P (method_of d) argument ≡ effects_of P s (Act c d argument)
act_calls P s c d argument h =
    ap (λ code. cond (is_success code) (method_effects P (method_of d) argument) []) (sym (none_refused (act_answer P c d argument) h))

pub act_calls_none : (P : Plan) (s : State) (c : ℕ) (d : Descriptor) (argument : Argument) → None ≡ refusal P (Act c d argument) → needs_no_memory P s (Act c d argument) ≡ true
    → method_effects P (method_of d) argument ≡ []
act_calls_none P s c d argument h needs = act_calls P s c d argument h ∙ no_effects (effects_of P s (Act c d argument)) needs

-- the plan says nothing of a step that is no SET and no ACTION
pub nothing_said : (P : Plan) (step : kind.Step) → ((c : ℕ) (d : Descriptor) (chosen : Bool) (v : code.Argument) → step ≡ kinds.Set c d chosen v → ⊥)
    → ((c : ℕ) (d : Descriptor) (argument : code.Argument) → step ≡ kinds.Act c d argument → ⊥) → (None ≡ refusal P (step_of step)) × (None ≡ number_named P (step_of step))
nothing_said P (kinds.Set c d chosen v) no_set no_act = absurd (no_set c d chosen v refl)
nothing_said P (kinds.Act c d argument) no_set no_act = absurd (no_act c d argument refl)
nothing_said P _ no_set no_act = (refl, refl)

-- the meter's own steps

-- a turn is no client's step
pub turn_own : (step : kind.Step) (n : LogicalName) → turn_of step ≡ Some n → client_of (step_of step) ≡ None
turn_own (kinds.CaptureAt m) n h = refl
turn_own (kinds.Evaluate m) n h = refl
turn_own (kinds.ScheduleAt m) n h = refl
turn_own _ n h = cc

pub own_reply : (P : Plan) (s : State) (step : Step) → client_of step ≡ None → Quiet ≡ reply_to P s step
own_reply P s (Get c d selection) own = cc
own_reply P s (Set c d chosen v) own = cc
own_reply P s (Act c d argument) own = cc
own_reply P s _ own = refl

pub own_memory : (P : Plan) (s : State) (step : Step) → client_of step ≡ None → needs_no_memory P s step ≡ true → effects_of P s step ≡ []
own_memory P s (Input x v) own n = no_effects (effects_of P s (Input x v)) n
own_memory P s (CaptureAt m) own n = no_effects (effects_of P s (CaptureAt m)) n
own_memory P s (Evaluate m) own n = no_effects (effects_of P s (Evaluate m)) n
own_memory P s (ScheduleAt m) own n = no_effects (effects_of P s (ScheduleAt m)) n
own_memory P s Tick own n = no_effects (effects_of P s Tick) n
own_memory P s (ClockAt t) own n = no_effects (effects_of P s (ClockAt t)) n
own_memory P s _ own n = cc

stands : (P : Plan) (x : CellRef) (v : Tree) (r : Option Rule) → rule_of P x ≡ r → meets_rule r (Given v) ≡ true → MayStand P x v
stands P x v None is h = cc
stands P x v (Some rule) is h = (rule, is, h)

pub set_fits : (P : Plan) (c : ℕ) (d : Descriptor) (chosen : Bool) (v : Argument) → None ≡ refusal P (Set c d chosen v) → MayBeSet P (cell_of d) v
set_fits P c d chosen (Given v) h =
    stands P (cell_of d) v (rule_of P (cell_of d)) refl
    (not-false (meets_rule (rule_of P (cell_of d)) (Given v))
    (place_passed (set_places P c d chosen (Given v)) (not (meets_rule (rule_of P (cell_of d)) (Given v)), codes.OtherReason)
    (inr (inr (inr (inr (inr (inr (inl refl))))))) refl (ap is_success (none_refused (set_answer P c d chosen (Given v)) h))))
set_fits P c d chosen _ h = tt

-- nothing is put where no value was given
pub nothing_given : (P : Plan) (s : State) (x : CellRef) (v : code.Argument) → ((value : Data) → v ≡ arguments.Value value → ⊥) → s ≡ effects P s (given_value x (argument_of v))
nothing_given P s x (arguments.Value value) h = absurd (h value refl)
nothing_given P s x _ h = refl
