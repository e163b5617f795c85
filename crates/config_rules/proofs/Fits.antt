-- What each settable cell starts with meets its rule.
use Rattle.std.proofs.Common.{◌≡◌, ℕ, ◌==◌, Bool, true, false, cond, not, List, [], ◌∷◌, ◌++◌, map, length, refl, sym, ap, subst, ◌∙◌, inl, inr, Option, Some, None, is_some, eqb-true, eq-eqb, nat_lt}
use Rattle.std.specs.Prelude.{ℤ, ◌&&◌, ◌||◌}
use Rattle.std.proofs.lemmas.Bool.{or_parts, and_from, not-false, false≢true}
use Rattle.std.proofs.lemmas.List.{length-map}
use Rattle.std.specs.List.{list_all, list_any}
use Rattle.cosem_data.specs.Tree.{Tree, null_data, array, no_trees}
use Rattle.cosem_data.specs.TreeCode.{parts-trees}
use Rattle.cosem_data.specs.Equal.{same_tree, same_tree-refl}
use Rattle.cosem_data.specs.Kinds.{kind_of, same_kind}
use Rattle.cosem_data.specs.Cells.{cell}
use Rattle.cosem_data.specs.declared.kind.Kind.{Kind}
use Rattle.cosem_data.specs.declared.kind.Kind.TheVariants.{Array, Structure, DoubleLongUnsigned}
use Rattle.cosem_data.specs.declared.name.LogicalName.{LogicalName}
use Rattle.cosem_data.specs.declared.cell.CellRef.{CellRef}
use Rattle.meter_theory.specs.declared.refs.ScriptRef.{ScriptRef}
use Rattle.cosem_data.proofs.Same.{same_kind-refl}
use Rattle.meter_theory.specs.Lists.{IsIn}
use Rattle.meter_theory.specs.Menus.{Choice, alternatives, has_menu, capture_objects_value, script_ref_value}
use Rattle.meter_theory.specs.State.{value}
use Rattle.meter_theory.specs.Times.{clock_value}
use Rattle.meter_theory.specs.Value.{Rule, OfKind, Thresholds, ExecutionTimes, ClockTime, OneOf, counter, meets, is_within_limits}
use Rattle.meter_theory.specs.Plan.{ProfileGeneric, SingleActionSchedule, start_values, start_of, rule_in, rule_of, class_of, cells, buffer, capture_objects, capture_period, entries_in_use, executed_script, execution_time}
use Rattle.meter_theory.specs.Sound.{fits_some}
use Rattle.meter_theory.specs.declared.limits.TheConstants as limits
use Rattle.meter_theory.proofs.Clock.{value-clock_time}
use Rattle.meter_theory.proofs.Lists.{from_map, from_flat_map}
use Rattle.meter_theory.proofs.Menus.{in_menu, in_period, profile_entry, in_script, in_times, schedule_entry}
use Rattle.meter_theory.proofs.MenuSizes.{captures-within, script-within}
use Rattle.config_text.specs.Fault.{fault_where}
use Rattle.config_text.specs.Parts.{Text, MenuText, CaptureText, ConfigText, ObjectText, TargetText, ScriptRefText, UpDownText, BodyText, DataText, RegisterText, ProfileText, ClockText, ScriptTableText, MonitorText, ScheduleText, UnknownText}
use Rattle.config_rules.specs.Names.{object_named}
use Rattle.value_text.specs.Texts.{value_in}
use Rattle.config_rules.specs.Values.{is_of_kind, kind_named, may_be_number}
use Rattle.config_rules.specs.PlanOf.{part_of, object_of, plan_of, name_of, value_of, moment_of, or_else, thresholds_value, times_value, cell_named, captures_of, scripts_of, up_down_of}
use Rattle.config_rules.specs.Passes as passes
use Rattle.config_rules.proofs.Named.{IsName}
use Rattle.config_rules.proofs.Nothing.{both_none, holds, not_faulty, each_ok}
use Rattle.config_rules.proofs.Passed.{references_ok, EachReference, references_parts}
use Rattle.config_rules.proofs.Clocks.{moment_there}
use Rattle.config_rules.proofs.Cells.{IsRight, IsTarget, target_of}
use Rattle.config_rules.proofs.Starts.{IsStart, number_known, values_at, of_body, data_start, register_start, rule_body, start_body}
use Rattle.config_rules.proofs.Scripts.{IsScript, known_script}
use Rattle.config_rules.proofs.Sizes.{AreProfileSizes, AreScheduleSizes, profile_sizes, schedule_sizes}
use Rattle.config_rules.proofs.Monitored.{IsKept, monitored_cell}

-- a script that was looked up at some place, and found
abbrev pub IsFound : ConfigText → ScriptRefText → Type 0
IsFound c r = (later : Bool) × (place : Text) × (passes.known_script later c place r ≡ [])

-- whatever an object refers to was looked up
pub found_of : (c : ConfigText) → IsRight c → (o : ObjectText) → IsIn c.objects o → EachReference (λ t. is_some (object_named c t.object) ≡ true) (IsFound c) o.body
found_of c ok o i =
    let at = each_ok _ _ _ _ (references_parts c ok.judged.references).0 o i in
    references_ok (λ t. is_some (object_named c t.object) ≡ true) (IsFound c) _ _ (λ place t h. holds _ _ _ h) (λ place r h. (_, place, h)) at.0 o.body at.1

-- and is there: the objects of targets, and scripts
pub known_of : (c : ConfigText) → IsRight c → (o : ObjectText) → IsIn c.objects o → EachReference (λ t. (p : ObjectText) × IsTarget c t.object p) (IsScript c) o.body
known_of c ok o i = both o.body (found_of c ok o i) (ok.names.references o i)
  where
    run : (r : ScriptRefText) → IsFound c r → IsName r.table → IsScript c r
    run r h n = known_script h.0 c ok h.1 r n h.2

    both : (body : BodyText) → EachReference (λ t. is_some (object_named c t.object) ≡ true) (IsFound c) body →
        EachReference (λ t. IsName t.object) (λ r. IsName r.table) body → EachReference (λ t. (p : ObjectText) × IsTarget c t.object p) (IsScript c) body
    both (DataText value) h n = tt
    both (RegisterText value default scaler unit) h n = tt
    both (ProfileText captures period entries sort_method) h n =
        λ xs j x k. target_of c ok x.target.object (n xs j x k) (h xs j x k)
    both (ClockText time) h n = tt
    both (ScriptTableText scripts) h n = λ s j a k. target_of c ok a.target.object (n s j a k) (h s j a k)
    both (MonitorText monitored thresholds actions) h n =
        (target_of c ok monitored.object n.0 h.0, λ a j. (run a.up (h.1 a j).0 (n.1 a j).0, run a.down (h.1 a j).1 (n.1 a j).1))
    both (ScheduleText script type times) h n = λ r j. run r (h r j) (n r j)
    both UnknownText h n = tt

-- the cell that a monitor monitors
pub monitor_source : (c : ConfigText) → IsRight c → (o : ObjectText) → IsIn c.objects o → (monitored : TargetText) (ths : List Text) (actions : List UpDownText) →
    o.body ≡ MonitorText monitored ths actions → (v : Tree) × IsKept c monitored v
unfolding passes.usable_indexes
monitor_source c ok o i monitored ths actions is =
    let refers = subst (EachReference (λ t. (p : ObjectText) × IsTarget c t.object p) (IsScript c)) is (known_of c ok o i) in
    monitored_cell c ok monitored refers.0.0 refers.0.1 (holds _ _ _ (of_body c ok o i (MonitorText monitored ths actions) is).indexes.1)

-- values that are each of a kind
all_kinds : (kind : Kind) (k : Option Kind) → k ≡ Some kind → (texts : List Text) → ((text : Text) → IsIn texts text → is_of_kind k (value_in text) ≡ true) →
    list_all (λ v. same_kind (kind_of v) kind) (map value_of texts) ≡ true
all_kinds kind k is [] h = refl
all_kinds kind k is (text ∷ texts) h =
    and_from (same_kind (kind_of (value_of text)) kind) (list_all (λ v. same_kind (kind_of v) kind) (map value_of texts))
    (at (value_in text) refl (subst (λ z. is_of_kind z (value_in text) ≡ true) is (h text (inl refl))))
    (all_kinds kind k is texts (λ t j. h t (inr j)))
  where
    at : (r : Option Tree) → value_in text ≡ r → is_of_kind (Some kind) r ≡ true → same_kind (kind_of (value_of text)) kind ≡ true
    at None e f = cc
    at (Some v) e f = subst (λ z. same_kind (kind_of z) kind ≡ true) (sym (ap (or_else null_data) e)) f

-- the thresholds of a monitor meet their rule
pub thresholds_fit : (c : ConfigText) → IsRight c → (o : ObjectText) → IsIn c.objects o → (monitored : TargetText) (ths : List Text) (actions : List UpDownText) →
    o.body ≡ MonitorText monitored ths actions →
    meets (Thresholds (length (map up_down_of actions)) (kind_of (value (start_values (plan_of c)) (cell_named c monitored)))) (thresholds_value ths) ≡ true
unfolding passes.valid_values_in passes.limits_in passes.equal_counts_in
thresholds_fit c ok o i monitored ths actions is =
    let source = monitor_source c ok o i monitored ths actions is in
    let found = of_body c ok o i (MonitorText monitored ths actions) is in
    let count : (length ths == length actions) ≡ true = holds _ _ _ found.counts.1 in
    let small = both_none (fault_where _ _ (nat_lt limits.THRESHOLDS (length ths) || not (is_within_limits (thresholds_value ths)))) _ found.limits.1 in
    let limit = not-false (is_within_limits (thresholds_value ths)) (or_parts (nat_lt limits.THRESHOLDS (length ths)) _ (not_faulty _ _ _ small.0)).1 in
    let texts = both_none (fault_where _ _ (not (may_be_number (kind_named c monitored.object)))) _ found.values.1 in
    let known = number_known (kind_named c monitored.object) (holds _ _ _ texts.0) in
    let each_kind : (text : Text) → IsIn ths text → is_of_kind (kind_named c monitored.object) (value_in text) ≡ true = λ text j.
    subst (λ k. is_of_kind k (value_in text) ≡ true) known (holds _ _ _ (each_ok _ _ _ _ texts.1 text j).1) in
    let kinds = all_kinds (kind_of source.0) (kind_named c monitored.object) source.1.kind ths each_kind in
    subst (λ z. meets (Thresholds (length (map up_down_of actions)) (kind_of z)) (thresholds_value ths) ≡ true) (sym source.1.starts)
    (and_from (is_within_limits (thresholds_value ths)) _ limit
    (subst (λ vs. ((length vs == length (map up_down_of actions)) && list_all (λ v. same_kind (kind_of v) (kind_of source.0)) vs) ≡ true) (sym (parts-trees (map value_of ths)))
    (and_from (length (map value_of ths) == length (map up_down_of actions)) _
    (eq-eqb (length (map value_of ths)) (length (map up_down_of actions)) (length-map ths value_of ∙ (eqb-true (length ths) (length actions) count ∙ sym (length-map actions up_down_of))))
    kinds)))

-- the execution times of a schedule meet their rule
pub times_fit : (c : ConfigText) → IsRight c → (o : ObjectText) → IsIn c.objects o → (script : MenuText ScriptRefText) (type : ℕ) (times : List Text) →
    o.body ≡ ScheduleText script type times → meets (ExecutionTimes type) (times_value times) ≡ true
unfolding passes.limits_in passes.valid_times_in
times_fit c ok o i script type times is =
    let found = of_body c ok o i (ScheduleText script type times) is in
    let size = both_none (fault_where _ _ (nat_lt limits.EXECUTION_TIMES (length times) || not (is_within_limits (times_value times)))) _ found.limits.1 in
    let limit = not-false (is_within_limits (times_value times)) (or_parts (nat_lt limits.EXECUTION_TIMES (length times)) _ (not_faulty _ _ _ size.0)).1 in
    and_from (is_within_limits (times_value times)) _ limit (holds _ _ _ found.times.1)

-- the configured alternative is one of those of its menu
start_chosen : {A : Type 0} (kind : Kind) (value_of : A → Tree) (choice : Choice A) → same_kind (kind_of (value_of choice.configured)) kind ≡ true →
    is_within_limits (value_of choice.configured) ≡ true → meets (OneOf kind (map value_of (alternatives choice))) (value_of choice.configured) ≡ true
start_chosen kind value_of choice tag limit =
    let v = value_of choice.configured in
    and_from (same_kind (kind_of v) kind) _ tag
    (and_from (is_within_limits v) _ limit (ap (λ b. b || list_any (λ w. same_tree w v) (map value_of choice.menu)) (same_tree-refl v)))

kind_fits : (text : Text) → IsStart text → meets (OfKind (kind_of (value_of text))) (value_of text) ≡ true
kind_fits text v =
    let limit : is_within_limits (value_of text) ≡ true = subst (λ z. is_within_limits z ≡ true) (sym v.2) v.3 in
    and_from (same_kind (kind_of (value_of text)) (kind_of (value_of text))) _ (same_kind-refl (kind_of (value_of text))) (and_from (is_within_limits (value_of text)) true limit refl)

-- the start of a cell is what its rule asks for
abbrev pub Fits : ConfigText → CellRef → Type 0
Fits c x = fits_some (rule_of (plan_of c) x) (value (start_values (plan_of c)) x) ≡ true

-- a cell that can't be set
unruled : (c : ConfigText) → IsRight c → (o : ObjectText) → IsIn c.objects o → (body : BodyText) → o.body ≡ body → (index : ℕ) → rule_in (plan_of c) (part_of c body) index ≡ None →
    (x : CellRef) → x ≡ cell (class_of (part_of c body)) (name_of o.name) index → Fits c x
unruled c ok o i body is index none x e =
    subst (Fits c) (sym e) (subst (λ r. fits_some r (value (start_values (plan_of c)) (cell (class_of (part_of c body)) (name_of o.name) index)) ≡ true) (sym (rule_body c ok o i body is index ∙ none)) refl)

ruled : (c : ConfigText) → IsRight c → (o : ObjectText) → IsIn c.objects o → (body : BodyText) → o.body ≡ body → (index : ℕ) (rule : Rule) (v : Tree) →
    rule_in (plan_of c) (part_of c body) index ≡ Some rule → IsIn (start_of (name_of o.name) (part_of c body)) (cell (class_of (part_of c body)) (name_of o.name) index, v) →
    values_at index (start_of (name_of o.name) (part_of c body)) ≡ v ∷ [] → meets rule v ≡ true →
    (x : CellRef) → x ≡ cell (class_of (part_of c body)) (name_of o.name) index → Fits c x
ruled c ok o i body is index rule v has there alone fits x e =
    let y : CellRef = cell (class_of (part_of c body)) (name_of o.name) index in
    subst (Fits c) (sym e) (subst (λ r. fits_some r (value (start_values (plan_of c)) y) ≡ true) (sym (rule_body c ok o i body is index ∙ has))
    (subst (λ w. meets rule w ≡ true) (sym (start_body c ok o i body is index v there alone)) fits))

-- each cell of a profile starts as it may
profile_fits : (c : ConfigText) → IsRight c → (o : ObjectText) → IsIn c.objects o → (captures : MenuText (List CaptureText)) (period entries : ℕ) (sort_method : Option ℤ) →
    o.body ≡ ProfileText captures period entries sort_method → (x : CellRef) (v : Tree) →
    IsIn (start_of (name_of o.name) (ProfileGeneric (captures_of c captures) period entries)) (x, v) → Fits c x
profile_fits c ok o i captures period entries sort_method is x v j =
    elim (profile_entry n choice period entries (x, v) j) [
      | inl e ↦ unruled c ok o i body is 2 refl x (ap (λ z. z.0) e)
      | inr k ↦ elim k [
        | inl e ↦ ruled c ok o i body is 3 (OneOf Array (map capture_objects_value (alternatives choice))) (capture_objects_value choice.configured)
            (ap (λ b. cond b (Some (OneOf Array (map capture_objects_value (alternatives choice)))) None) e.0) (in_menu n choice period entries e.0) (third (has_menu choice) e.0)
            (start_chosen Array capture_objects_value choice refl (captures-within choice.configured (sizes.each captures.start (inl refl)))) x (ap (λ z. z.0) e.1)
        | inr m ↦ elim m [
          | inl e ↦ ruled c ok o i body is 4 (OfKind DoubleLongUnsigned) (counter period) refl (in_period n choice period entries) (fourth (has_menu choice)) refl x (ap (λ z. z.0) e)
          | inr e ↦ unruled c ok o i body is 7 refl x (ap (λ z. z.0) e)
        ]
      ]
    ]
  where
    body : BodyText
    body = ProfileText captures period entries sort_method

    n : LogicalName
    n = name_of o.name

    choice : Choice (List CellRef)
    choice = captures_of c captures

    sizes : AreProfileSizes c captures entries
    sizes = profile_sizes c ok o i captures period entries sort_method is

    entries_of : Bool → List (CellRef × Tree)
    entries_of b =
        (buffer n, array no_trees) ∷ cond b ((capture_objects n, capture_objects_value choice.configured) ∷ []) []
        ++ (capture_period n, counter period) ∷ (entries_in_use n, counter 0) ∷ []

    third : (b : Bool) → b ≡ true → values_at 3 (entries_of b) ≡ capture_objects_value choice.configured ∷ []
    third true e = refl
    third false e = absurd (false≢true e)

    fourth : (b : Bool) → values_at 4 (entries_of b) ≡ counter period ∷ []
    fourth true = refl
    fourth false = refl

-- and each of a schedule
schedule_fits : (c : ConfigText) → IsRight c → (o : ObjectText) → IsIn c.objects o → (script : MenuText ScriptRefText) (type : ℕ) (times : List Text) →
    o.body ≡ ScheduleText script type times → (x : CellRef) (v : Tree) →
    IsIn (start_of (name_of o.name) (SingleActionSchedule (scripts_of script) type (times_value times))) (x, v) → Fits c x
schedule_fits c ok o i script type times is x v j =
    elim (schedule_entry n choice type (times_value times) (x, v) j) [
      | inl e ↦ ruled c ok o i body is 2 (OneOf Structure (map script_ref_value (alternatives choice))) (script_ref_value choice.configured)
          (ap (λ b. cond b (Some (OneOf Structure (map script_ref_value (alternatives choice)))) None) e.0) (in_script n choice type (times_value times) e.0) (second (has_menu choice) e.0)
          (start_chosen Structure script_ref_value choice refl (script-within choice.configured (sizes.each script.start (inl refl)))) x (ap (λ z. z.0) e.1)
      | inr e ↦ ruled c ok o i body is 4 (ExecutionTimes type) (times_value times) refl (in_times n choice type (times_value times)) (fourth (has_menu choice))
          (times_fit c ok o i script type times is) x (ap (λ z. z.0) e)
    ]
  where
    body : BodyText
    body = ScheduleText script type times

    n : LogicalName
    n = name_of o.name

    choice : Choice ScriptRef
    choice = scripts_of script

    sizes : AreScheduleSizes script
    sizes = schedule_sizes c ok o i script type times is

    entries_of : Bool → List (CellRef × Tree)
    entries_of b = cond b ((executed_script n, script_ref_value choice.configured) ∷ []) [] ++ (execution_time n, times_value times) ∷ []

    second : (b : Bool) → b ≡ true → values_at 2 (entries_of b) ≡ script_ref_value choice.configured ∷ []
    second true e = refl
    second false e = absurd (false≢true e)

    fourth : (b : Bool) → values_at 4 (entries_of b) ≡ times_value times ∷ []
    fourth true = refl
    fourth false = refl

-- each cell of an object starts as it may
cell_fits : (c : ConfigText) → IsRight c → (o : ObjectText) → IsIn c.objects o → (body : BodyText) → o.body ≡ body → (x : CellRef) (v : Tree) →
    IsIn (start_of (name_of o.name) (part_of c body)) (x, v) → Fits c x
cell_fits c ok o i (DataText text) is x v (inl e) =
    ruled c ok o i (DataText text) is 2 _ (value_of text) refl (inl refl) refl (kind_fits text (data_start c ok o i text is)) x (ap (λ z. z.0) e)
cell_fits c ok o i (DataText text) is x v (inr none) = absurd none
cell_fits c ok o i (RegisterText text default scaler unit) is x v (inl e) =
    ruled c ok o i (RegisterText text default scaler unit) is 2 _ (value_of text) refl (inl refl) refl (kind_fits text (register_start c ok o i text default scaler unit is).0) x (ap (λ z. z.0) e)
cell_fits c ok o i (RegisterText text default scaler unit) is x v (inr none) = absurd none
cell_fits c ok o i (ProfileText captures period entries sort_method) is x v j = profile_fits c ok o i captures period entries sort_method is x v j
cell_fits c ok o i (ClockText time) is x v (inl e) =
    let moment = moment_there time in
    ruled c ok o i (ClockText time) is 2 ClockTime (clock_value (moment_of time)) refl (inl refl) refl (value-clock_time (moment_of time) moment) x (ap (λ z. z.0) e)
cell_fits c ok o i (ClockText time) is x v (inr none) = absurd none
cell_fits c ok o i (ScriptTableText scripts) is x v none = absurd none
cell_fits c ok o i (MonitorText monitored ths actions) is x v (inl e) =
    ruled c ok o i (MonitorText monitored ths actions) is 2 _ (thresholds_value ths) refl (inl refl) refl (thresholds_fit c ok o i monitored ths actions is) x (ap (λ z. z.0) e)
cell_fits c ok o i (MonitorText monitored ths actions) is x v (inr (inl e)) = unruled c ok o i (MonitorText monitored ths actions) is 0 refl x (ap (λ z. z.0) e)
cell_fits c ok o i (MonitorText monitored ths actions) is x v (inr (inr none)) = absurd none
cell_fits c ok o i (ScheduleText script type times) is x v j = schedule_fits c ok o i script type times is x v j
cell_fits c ok o i UnknownText is x v none = absurd none

-- Each cell of the plan starts as it may.
pub starts : (c : ConfigText) → IsRight c → (x : CellRef) → IsIn (cells (plan_of c)) x → Fits c x
starts c ok x i =
    let entry = from_map (λ e. e.0) (start_values (plan_of c)) x i in
    let object = from_flat_map (λ p. start_of p.name p.part) (plan_of c).objects entry.0 entry.1 in
    let text = from_map (object_of c) c.objects object.0 object.1 in
    subst (Fits c) (sym entry.2)
    (cell_fits c ok text.0 text.1 text.0.body refl entry.0.0 entry.0.1 (subst (λ p. IsIn (start_of p.name p.part) entry.0) text.2 object.2))
