-- The encoding of every value that a sound plan's meter replies has fewer than 2 ^ 32 bytes: each attribute's is within `longest`.
use Rattle.cosem_data.proofs.Same.{same_name-true, same_name-from}
use Rattle.std.proofs.Common.{◌≡◌, ◌==◌, ◌≤◌, ◌<◌, ◌^◌, ℕ, ℤ, suc, Bool, true, false, cond, ◌&&◌, nat_le, pos, List, [], ◌∷◌, map, length, filter, option_map, option_and_then, refl, sym, ap, subst, ◌∙◌, inl, inr, Option, Some, None, eqb-true, arith}
use Rattle.std.specs.List.{list_all, range_with_len}
use Rattle.std.specs.Prelude.{slice_get}
use Rattle.std.proofs.lemmas.Bool.{and_parts, leb-true, cond-true}
use Rattle.std.proofs.lemmas.List.{length-append, length-map}
use Rattle.std.proofs.lemmas.List.FromFn.{length-range_with_len}
use Rattle.cosem_data.specs.Tree.{Tree, null_data, boolean, octet_string, integer, long, unsigned, long_unsigned, enumerated, depth}
use Rattle.cosem_data.specs.Kinds.{kind_of}
use Rattle.cosem_data.specs.Cells.{same_name, cell}
use Rattle.cosem_data.specs.declared.name.LogicalName.{LogicalName}
use Rattle.cosem_data.specs.declared.cell.CellRef.{CellRef}
use Rattle.cosem_data.specs.declared.kind.Kind.{Kind}
use Rattle.cosem_data.specs.declared.kind.Kind.TheVariants.{Array, Structure, DoubleLongUnsigned}
use Rattle.meter_theory.specs.Menus.{Choice, alternatives, has_menu, capture_objects_value}
use Rattle.cosem_axdr.specs.Canonical.{HasLengths, canonical, shortest}
use Rattle.cosem_axdr.proofs.Room.{small_has_lengths}
use Rattle.meter_theory.specs.Lists.{IsIn}
use Rattle.meter_theory.specs.declared.limits.TheConstants as limits
use Rattle.meter_theory.specs.Value.{Rule, OfKind, Thresholds, ExecutionTimes, ClockTime, OneOf, array_of, structure_of, counter, valid_tag, valid_content, is_within_limits, meets}
use Rattle.meter_theory.specs.Selection.{EntryDescriptor}
use Rattle.meter_theory.specs.State.{State, value}
use Rattle.meter_theory.specs.declared.refs.ScalerUnit.{ScalerUnit}
use Rattle.meter_theory.specs.declared.refs.ScriptRef.{ScriptRef}
use Rattle.meter_theory.specs.declared.refs.UpDown.{UpDown}
use Rattle.meter_theory.specs.declared.refs.Interface.{Interface}
use Rattle.meter_theory.specs.Plan.{Plan, Client, Object, Part, Data1, Register, ProfileGeneric, Clock, ScriptTable, RegisterMonitor, SingleActionSchedule, Script, Action, Write, Invoke, association, association_name, interface_of, interface_at, object_at, class_of, cells, start_values, start_of, is_cell, rule_in, rule_of, rule_of_choice, clock_time, data_value, register_value, buffer, capture_objects, capture_period, thresholds, seen, executed_script, execution_time}
use Rattle.meter_theory.specs.Rights.{cell_of, Selection, class_is, descriptor_in, get_answer, has_right, may_read, may_act}
use Rattle.meter_theory.specs.Fixed.{name_value, index_value, scaler_unit_value, capture_object, fifo, no_sort_object, action_value, script_value, monitored_value, script_ref_value, up_down_value, no_date_time, fixed_in, fixed_of, attribute_access, access_mode, method_access, access_selectors, access_rights, listed_object, objects_of, object_list, partners, application_context, mechanism_of, of_client, association_attribute, fixed}
use Rattle.meter_theory.specs.Access.{is_success}
use Rattle.meter_theory.specs.Replies.{Value, Code, attribute, selected_by, selected, reply_to}
use Rattle.meter_theory.specs.Steps.{Step, Get, captured_in}
use Rattle.meter_theory.specs.Sound.{IsSound, is_name, has_action_sizes, has_script_sizes, has_capture_sizes, has_part_sizes}
use Rattle.meter_theory.specs.States.{IsCaptured, AreCaptured, AreRows, IsBuffer, IsSeen, Holds, IsState}
use Rattle.meter_theory.proofs.Lists.{from_map, from_filter, from_flat_map, none_found}
use Rattle.meter_theory.proofs.Menus.{chosen-in, profile_entry, schedule_entry}
use Rattle.meter_theory.proofs.Agreement.{object-found, one_named}
use Rattle.meter_theory.proofs.Rights.{get_class}
use Rattle.meter_theory.proofs.Held.{cell_held}
use Rattle.meter_theory.proofs.Theorem.{all_at, is_cell_in}
use Rattle.reply_sizes.proofs.Sums.{IsWithin, AreWithin, length-shortest, are_within, wider, either, array_within, structure_within, map_within, entries_within}

-- no attribute's value takes more bytes
abbrev longest : ℕ
longest = 200000000

-- a value within the limit of values
abbrev IsSmall : Tree → Type 0
IsSmall v = IsWithin 1024 v

-- a structure of at most five small values
abbrev IsBrief : Tree → Type 0
IsBrief v = IsWithin 5126 v

abbrev IsReply : Tree → Type 0
IsReply v = IsWithin longest v

small_reply : (v : Tree) → IsSmall v → IsReply v
small_reply v h = wider 1024 longest v (omega arith) h

brief_reply : (v : Tree) → IsBrief v → IsReply v
brief_reply v h = wider 5126 longest v (omega arith) h

small_brief : (v : Tree) → IsSmall v → IsBrief v
small_brief v h = wider 1024 5126 v (omega arith) h

-- Simple values

null_small : IsSmall null_data
null_small = record { bytes = omega arith }

boolean_small : (b : Bool) → IsSmall (boolean b)
boolean_small b = record { bytes = omega arith }

integer_small : (z : ℤ) → IsSmall (integer z)
integer_small z = record { bytes = omega arith }

long_small : (z : ℤ) → IsSmall (long z)
long_small z = record { bytes = omega arith }

unsigned_small : (n : ℕ) → IsSmall (unsigned n)
unsigned_small n = record { bytes = omega arith }

long_unsigned_small : (n : ℕ) → IsSmall (long_unsigned n)
long_unsigned_small n = record { bytes = omega arith }

enumerated_small : (n : ℕ) → IsSmall (enumerated n)
enumerated_small n = record { bytes = omega arith }

counter_small : (n : ℕ) → IsSmall (counter n)
counter_small n = record { bytes = omega arith }

short_string_small : (bytes : List ℕ) → length bytes ≤ 100 → IsSmall (octet_string bytes)
short_string_small bytes few =
    let e = length-append (shortest (length bytes)) bytes in
    let f = length-shortest (length bytes) in
    record { bytes = omega (arith, e, f, few) }

undated_small : IsSmall no_date_time
undated_small = short_string_small (255 ∷ 255 ∷ 255 ∷ 255 ∷ 255 ∷ 255 ∷ 255 ∷ 255 ∷ 255 ∷ 255 ∷ 255 ∷ 255 ∷ []) (omega arith)

name_small : (n : LogicalName) → is_name n ≡ true → IsSmall (name_value n)
name_small n h =
    let six : length n.0 ≡ 6 = eqb-true (length n.0) 6 h in
    short_string_small n.0 (omega (arith, six))

-- what is within the limits
limited_small : (v : Tree) → is_within_limits v ≡ true → IsSmall v
limited_small v h =
    record { bytes = leb-true (length (canonical v)) limits.VALUE_BYTES (and_parts (nat_le (length (canonical v)) limits.VALUE_BYTES) (nat_le (depth v) limits.VALUE_LEVELS) h).0 }

meeting_small : (rule : Rule) (v : Tree) → meets rule v ≡ true → IsSmall v
meeting_small rule v h =
    limited_small v (and_parts (is_within_limits v) (valid_content rule v) (and_parts (valid_tag rule v) (is_within_limits v && valid_content rule v) h).1).0

-- at most five small values
brief : (ts : List Tree) → length ts ≤ 5 → AreWithin 1024 ts → IsBrief (structure_of ts)
brief ts few h = structure_within 5 1024 ts few h

-- Fixed attributes

part_of_sizes : (P : Plan) → IsSound P → (o : Object) → IsIn P.objects o → (is_name o.name ≡ true) × (has_part_sizes o.part ≡ true)
part_of_sizes P sound o there = and_parts (is_name o.name) (has_part_sizes o.part) (sound.sizes o there)

-- each alternative of a profile has few cells, and it has few entries
profile_sizes : (captured : Choice (List CellRef)) (period entries : ℕ) → has_part_sizes (ProfileGeneric captured period entries) ≡ true →
    ((xs : List CellRef) → IsIn (alternatives captured) xs → has_capture_sizes xs ≡ true) × (entries ≤ limits.PROFILE_ENTRIES)
profile_sizes captured period entries h =
    let a = and_parts (nat_le (length captured.menu) limits.MENU) (list_all has_capture_sizes (alternatives captured) && (nat_le 1 entries && nat_le entries limits.PROFILE_ENTRIES)) h in
    let b = and_parts (list_all has_capture_sizes (alternatives captured)) (nat_le 1 entries && nat_le entries limits.PROFILE_ENTRIES) a.1 in
    let d = and_parts (nat_le 1 entries) (nat_le entries limits.PROFILE_ENTRIES) b.1 in
    (λ xs i. all_at has_capture_sizes (alternatives captured) xs b.0 i, leb-true entries limits.PROFILE_ENTRIES d.1)

scaler_unit_brief : (u : ScalerUnit) → IsBrief (scaler_unit_value u)
scaler_unit_brief u =
    brief (integer u.scaler ∷ enumerated u.unit ∷ []) (omega arith)
    (integer_small u.scaler, (enumerated_small u.unit, tt))

capture_brief : (x : CellRef) → is_name x.name ≡ true → IsBrief (capture_object x)
capture_brief x h =
    brief (long_unsigned x.class_id ∷ name_value x.name ∷ index_value x.index ∷ long_unsigned 0 ∷ []) (omega arith)
    (long_unsigned_small x.class_id, (name_small x.name h, (integer_small (pos x.index), (long_unsigned_small 0, tt))))

unsorted_brief : IsBrief no_sort_object
unsorted_brief =
    brief (long_unsigned 0 ∷ octet_string (0 ∷ 0 ∷ 0 ∷ 0 ∷ 0 ∷ 0 ∷ []) ∷ integer (pos 0) ∷ long_unsigned 0 ∷ []) (omega arith)
    (long_unsigned_small 0, (short_string_small (0 ∷ 0 ∷ 0 ∷ 0 ∷ 0 ∷ 0 ∷ []) (omega arith), (integer_small (pos 0), (long_unsigned_small 0, tt))))

-- what an action does, to what, and a value
specification_brief : (service class_id : ℕ) (n : LogicalName) (index : ℕ) (v : Tree) → is_name n ≡ true → is_within_limits v ≡ true →
    IsBrief (structure_of (enumerated service ∷ long_unsigned class_id ∷ name_value n ∷ index_value index ∷ v ∷ []))
specification_brief service class_id n index v h k =
    brief (enumerated service ∷ long_unsigned class_id ∷ name_value n ∷ index_value index ∷ v ∷ []) (omega arith)
    (enumerated_small service, (long_unsigned_small class_id, (name_small n h, (integer_small (pos index), (limited_small v k, tt)))))

action_brief : (a : Action) → has_action_sizes a ≡ true → IsBrief (action_value a)
action_brief (Write x v) h =
    let both = and_parts (is_name x.name) (is_within_limits v) h in
    specification_brief 1 x.class_id x.name x.index v both.0 both.1
action_brief (Invoke m parameter) h =
    let both = and_parts (is_name m.name) (is_within_limits parameter) h in
    specification_brief 2 m.class_id m.name m.index parameter both.0 both.1

-- a number and at most 32 actions
script_within : (s : Script) → has_script_sizes s ≡ true → IsWithin 328082 (script_value s)
script_within s h =
    let both = and_parts (nat_le (length s.actions) limits.ACTIONS) (list_all has_action_sizes s.actions) h in
    structure_within 2 164038 (long_unsigned s.id ∷ array_of (map action_value s.actions) ∷ []) (omega arith)
    (wider 1024 164038 (long_unsigned s.id) (omega arith) (long_unsigned_small s.id), (map_within 32 5126 action_value s.actions (leb-true (length s.actions) limits.ACTIONS both.0) (λ a i. action_brief a (all_at has_action_sizes s.actions a both.1 i)), tt))

monitored_brief : (x : CellRef) → is_name x.name ≡ true → IsBrief (monitored_value x)
monitored_brief x h =
    brief (long_unsigned x.class_id ∷ name_value x.name ∷ index_value x.index ∷ []) (omega arith)
    (long_unsigned_small x.class_id, (name_small x.name h, (integer_small (pos x.index), tt)))

script_ref_brief : (r : ScriptRef) → is_name r.table ≡ true → IsBrief (script_ref_value r)
script_ref_brief r h =
    brief (name_value r.table ∷ long_unsigned r.script ∷ []) (omega arith)
    (name_small r.table h, (long_unsigned_small r.script, tt))

up_down_within : (a : UpDown) → (is_name a.up.table && is_name a.down.table) ≡ true → IsWithin 10258 (up_down_value a)
up_down_within a h =
    let both = and_parts (is_name a.up.table) (is_name a.down.table) h in
    structure_within 2 5126 (script_ref_value a.up ∷ script_ref_value a.down ∷ []) (omega arith)
    (script_ref_brief a.up both.0, (script_ref_brief a.down both.1, tt))

captures_within : (xs : List CellRef) → has_capture_sizes xs ≡ true → IsWithin 164038 (capture_objects_value xs)
captures_within xs h =
    let both = and_parts (nat_le (length xs) limits.CAPTURE_OBJECTS) (list_all (λ x. is_name x.name) xs) h in
    map_within 32 5126 capture_object xs (leb-true (length xs) limits.CAPTURE_OBJECTS both.0) (λ x i. capture_brief x (all_at (λ z. is_name z.name) xs x both.1 i))

part_reply : (part : Part) → has_part_sizes part ≡ true → (index : ℕ) → IsReply (fixed_in part index)
unfolding fixed_in
part_reply (Data1 start) h index = small_reply null_data null_small
part_reply (Register start default scaler_unit) h index =
    either longest (index == 3) (scaler_unit_value scaler_unit) null_data (brief_reply (scaler_unit_value scaler_unit) (scaler_unit_brief scaler_unit)) (small_reply null_data null_small)
part_reply (ProfileGeneric captured period entries) h index =
    either longest (index == 3) (capture_objects_value captured.configured) _
    (wider 164038 longest (capture_objects_value captured.configured) (omega arith)
    (captures_within captured.configured ((profile_sizes captured period entries h).0 captured.configured (inl refl))))
    (either longest (index == 5) fifo _ (small_reply fifo (enumerated_small 1))
    (either longest (index == 6) no_sort_object _ (brief_reply no_sort_object unsorted_brief)
    (either longest (index == 8) (counter entries) null_data (small_reply (counter entries) (counter_small entries)) (small_reply null_data null_small))))
part_reply (Clock first) h index =
    either longest (index == 3) (long (pos 0)) _ (small_reply (long (pos 0)) (long_small (pos 0)))
    (either longest (index == 4) (unsigned 0) _ (small_reply (unsigned 0) (unsigned_small 0))
    (either longest (index == 5) no_date_time _ (small_reply no_date_time undated_small)
    (either longest (index == 6) no_date_time _ (small_reply no_date_time undated_small)
    (either longest (index == 7) (integer (pos 0)) _ (small_reply (integer (pos 0)) (integer_small (pos 0)))
    (either longest (index == 8) (boolean false) _ (small_reply (boolean false) (boolean_small false))
    (either longest (index == 9) (enumerated 0) null_data (small_reply (enumerated 0) (enumerated_small 0)) (small_reply null_data null_small)))))))
part_reply (ScriptTable scripts) h index =
    let a = and_parts (nat_le (length scripts) limits.SCRIPTS) (list_all has_script_sizes scripts) h in
    either longest (index == 2) (array_of (map script_value scripts)) null_data
    (wider 20997254 longest (array_of (map script_value scripts)) (omega arith)
    (map_within 64 328082 script_value scripts (leb-true (length scripts) limits.SCRIPTS a.0) (λ s i. script_within s (all_at has_script_sizes scripts s a.1 i))))
    (small_reply null_data null_small)
part_reply (RegisterMonitor monitored th actions) h index =
    let a = and_parts (is_name monitored.name) (nat_le (length actions) limits.THRESHOLDS && list_all (λ u. is_name u.up.table && is_name u.down.table) actions) h in
    let b = and_parts (nat_le (length actions) limits.THRESHOLDS) (list_all (λ u. is_name u.up.table && is_name u.down.table) actions) a.1 in
    either longest (index == 3) (monitored_value monitored) _ (brief_reply (monitored_value monitored) (monitored_brief monitored a.0))
    (either longest (index == 4) (array_of (map up_down_value actions)) null_data
    (wider 164134 longest (array_of (map up_down_value actions)) (omega arith)
    (map_within 16 10258 up_down_value actions (leb-true (length actions) limits.THRESHOLDS b.0) (λ u i. up_down_within u (all_at (λ z. is_name z.up.table && is_name z.down.table) actions u b.1 i))))
    (small_reply null_data null_small))
part_reply (SingleActionSchedule script type times) h index =
    let a = and_parts (nat_le (length script.menu) limits.MENU) (list_all (λ r. is_name r.table) (alternatives script)) h in
    either longest (index == 2) (script_ref_value script.configured) _
    (brief_reply (script_ref_value script.configured) (script_ref_brief script.configured (all_at (λ r. is_name r.table) (alternatives script) script.configured a.1 (inl refl))))
    (either longest (index == 3) (enumerated type) null_data (small_reply (enumerated type) (enumerated_small type)) (small_reply null_data null_small))

-- The association

selectors_brief : (P : Plan) (c : ℕ) (x : CellRef) → IsSmall (access_selectors P c x)
selectors_brief P c x =
    either 1024 ((x.class_id == 7) && ((x.index == 2) && may_read P c x)) (array_of (integer (pos 2) ∷ [])) null_data (array_within 1 1018 (integer (pos 2) ∷ []) (omega arith) (record { bytes = omega arith }, tt)) null_small

attribute_brief : (P : Plan) (c : ℕ) (x : CellRef) → IsBrief (attribute_access P c x)
attribute_brief P c x =
    brief (index_value x.index ∷ enumerated (access_mode P c x) ∷ access_selectors P c x ∷ []) (omega arith)
    (integer_small (pos x.index), (enumerated_small (access_mode P c x), (selectors_brief P c x, tt)))

method_brief : (P : Plan) (c : ℕ) (x : CellRef) → IsBrief (method_access P c x)
method_brief P c x =
    let allowed : Bool = may_act P c (record { class_id = x.class_id; name = x.name; index = x.index }) in
    brief (index_value x.index ∷ boolean allowed ∷ []) (omega arith)
    (integer_small (pos x.index), (boolean_small allowed, tt))

-- at most nine attributes and nine methods
rights_within : (P : Plan) (c : ℕ) (n : LogicalName) (i : Interface) → i.attributes ≤ 9 → i.methods ≤ 9 → IsWithin 92286 (access_rights P c n i)
unfolding access_rights
rights_within P c n i few fewer =
    structure_within 2 46140
    (array_of (map (λ k. attribute_access P c (cell i.class_id n k)) (range_with_len 1 i.attributes))
    ∷ array_of (map (λ k. method_access P c (cell i.class_id n k)) (range_with_len 1 i.methods))
    ∷ [])
    (omega arith)
    (map_within 9 5126 (λ k. attribute_access P c (cell i.class_id n k)) (range_with_len 1 i.attributes) (let e = length-range_with_len 1 i.attributes in omega (arith, e)) (λ k m. attribute_brief P c (cell i.class_id n k)), (map_within 9 5126 (λ k. method_access P c (cell i.class_id n k)) (range_with_len 1 i.methods) (let e = length-range_with_len 1 i.methods in omega (arith, e)) (λ k m. method_brief P c (cell i.class_id n k)), tt))

listed_within : (P : Plan) (c : ℕ) (n : LogicalName) (i : Interface) → is_name n ≡ true → i.attributes ≤ 9 → i.methods ≤ 9 → IsWithin 369150 (listed_object P c n i)
listed_within P c n i h few fewer =
    structure_within 4 92286 (long_unsigned i.class_id ∷ unsigned i.version ∷ name_value n ∷ access_rights P c n i ∷ []) (omega arith)
    (wider 1024 92286 (long_unsigned i.class_id) (omega arith) (long_unsigned_small i.class_id), (wider 1024 92286 (unsigned i.version) (omega arith) (unsigned_small i.version), (wider 1024 92286 (name_value n) (omega arith) (name_small n h), (rights_within P c n i few fewer, tt))))

interface_few : (part : Part) → ((interface_of part).attributes ≤ 9) × ((interface_of part).methods ≤ 9)
interface_few (Data1 start) = (omega arith, omega arith)
interface_few _ = (omega arith, omega arith)

length-filter : {A : Type 0} (test : A → Bool) (xs : List A) → length (filter test xs) ≤ length xs
length-filter test [] = omega arith
length-filter test (x ∷ xs) = elim (test x) as (λ b. length (cond b (x ∷ filter test xs) (filter test xs)) ≤ suc (length xs)) [
  | true ↦ omega (arith, length-filter test xs)
  | false ↦ omega (arith, length-filter test xs)
]

-- at most 512 objects, and the association
list_reply : (P : Plan) → IsSound P → (c : ℕ) → IsReply (object_list P c)
unfolding object_list
list_reply P sound c =
    let listed : List Tree = listed_object P c association_name association ∷ map (λ o. listed_object P c o.name (interface_of o.part)) (objects_of P c) in
    wider 189373956 longest (array_of listed) (omega arith)
    (array_within 513 369150 listed
    (let e = length-map (objects_of P c) (λ o. listed_object P c o.name (interface_of o.part)) in
    let f = length-filter (λ o. has_right P c o.name (λ r. true)) P.objects in
    omega (arith, e, f, sound.few_objects))
    (are_within 369150 listed (λ t i. at t i)))
  where
    at : (t : Tree) → IsIn (listed_object P c association_name association ∷ map (λ o. listed_object P c o.name (interface_of o.part)) (objects_of P c)) t → IsWithin 369150 t
    at t (inl e) = subst (IsWithin 369150) (sym e) (listed_within P c association_name association refl (omega arith) (omega arith))
    at t (inr i) =
        let o = from_map (λ z. listed_object P c z.name (interface_of z.part)) (objects_of P c) t i in
        let there = (from_filter (λ z. has_right P c z.name (λ r. true)) P.objects o.0 o.1).0 in
        let few = interface_few o.0.part in
        subst (IsWithin 369150) (sym o.2) (listed_within P c o.0.name (interface_of o.0.part) (part_of_sizes P sound o.0 there).0 few.0 few.1)

partners_reply : (z : Client) → IsReply (partners z)
partners_reply z =
    brief_reply (partners z) (brief (integer (pos z.sap) ∷ long_unsigned 1 ∷ []) (omega arith)
    (integer_small (pos z.sap), (long_unsigned_small 1, tt)))

mechanism_reply : (p : Option (List ℕ)) → IsReply (mechanism_of p)
mechanism_reply None = small_reply (mechanism_of None) (short_string_small (96 ∷ 133 ∷ 116 ∷ 5 ∷ 8 ∷ 2 ∷ 0 ∷ []) (omega arith))
mechanism_reply (Some password) = small_reply (mechanism_of (Some password)) (short_string_small (96 ∷ 133 ∷ 116 ∷ 5 ∷ 8 ∷ 2 ∷ 1 ∷ []) (omega arith))

client_reply : (o : Option Client) (f : Client → Tree) → ((z : Client) → IsReply (f z)) → IsReply (of_client o f)
client_reply None f h = small_reply null_data null_small
client_reply (Some z) f h = h z

association_reply : (P : Plan) → IsSound P → (c index : ℕ) → IsReply (association_attribute P c index)
unfolding association_attribute
association_reply P sound c index =
    either longest (index == 2) (object_list P c) _ (list_reply P sound c)
    (either longest (index == 3) (of_client (slice_get P.clients c) partners) _ (client_reply (slice_get P.clients c) partners partners_reply)
    (either longest (index == 4) application_context _ (small_reply application_context (short_string_small (96 ∷ 133 ∷ 116 ∷ 5 ∷ 8 ∷ 1 ∷ 1 ∷ []) (omega arith)))
    (either longest (index == 6) (of_client (slice_get P.clients c) (λ z. mechanism_of z.password)) _ (client_reply (slice_get P.clients c) (λ z. mechanism_of z.password) (λ z. mechanism_reply z.password))
    (either longest (index == 8) (enumerated 2) null_data (small_reply (enumerated 2) (enumerated_small 2)) (small_reply null_data null_small)))))

fixed_reply : (P : Plan) → IsSound P → (c : ℕ) (x : CellRef) → is_name x.name ≡ true → IsReply (fixed P c x)
unfolding fixed
fixed_reply P sound c x h =
    either longest (x.index == 1) (name_value x.name) _ (small_reply (name_value x.name) (name_small x.name h))
    (either longest (same_name x.name association_name) (association_attribute P c x.index) (fixed_of (object_at P x.name) x.index)
    (association_reply P sound c x.index)
    (at (object_at P x.name) refl))
  where
    at : (o : Option Object) → object_at P x.name ≡ o → IsReply (fixed_of o x.index)
    at None is = small_reply null_data null_small
    at (Some o) is = part_reply o.part (part_of_sizes P sound o (object-found P x.name o is).0).1 x.index

-- Cells

captured_small : (P : Plan) (x : CellRef) (v : Tree) → IsCaptured P x v → IsSmall v
captured_small P x v (inl h) = meeting_small h.0 v h.2
captured_small P x v (inr h) = subst (IsWithin 1024) (sym h.5.1) (counter_small h.5.0)

values_small : (P : Plan) (xs : List CellRef) (vs : List Tree) → AreCaptured P xs vs → (length vs ≡ length xs) × AreWithin 1024 vs
values_small P [] [] h = (refl, tt)
values_small P [] (v ∷ vs) h = absurd h
values_small P (x ∷ xs) [] h = absurd h
values_small P (x ∷ xs) (v ∷ vs) h =
    let rest = values_small P xs vs h.1 in
    (ap suc rest.0, (captured_small P x v h.0, rest.1))

-- at most 32 captured values
rows_within : (P : Plan) (captured : List CellRef) → length captured ≤ limits.CAPTURE_OBJECTS → (rows : List Tree) → AreRows P captured rows → AreWithin 32774 rows
rows_within P captured few [] h = tt
rows_within P captured few (row ∷ rows) h =
    let values = values_small P captured h.0.0 h.0.2 in (
      subst (IsWithin 32774) (sym h.0.1) (structure_within 32 1024 h.0.0 (let f = values.0 in omega (arith, f)) values.1),
      rows_within P captured few rows h.1,
    )

-- at most 1000 rows
buffer_reply : (P : Plan) (captured : List CellRef) (entries : ℕ) (v : Tree) → length captured ≤ limits.CAPTURE_OBJECTS → entries ≤ limits.PROFILE_ENTRIES → IsBuffer P captured entries v → IsReply v
buffer_reply P captured entries v few small h =
    subst IsReply (sym h.1) (wider 32774006 longest (array_of h.0) (omega arith)
    (array_within 1000 32774 h.0 (let f = h.2 in omega (arith, f)) (rows_within P captured few h.0 h.3)))

-- a sound plan's object is found by its name
found_by_name : (P : Plan) → IsSound P → (o : Object) → IsIn P.objects o → object_at P o.name ≡ Some o
found_by_name P sound o there = at (object_at P o.name) refl
  where
    at : (f : Option Object) → object_at P o.name ≡ f → object_at P o.name ≡ Some o
    at None is = absurd (none_found (λ z. same_name z.name o.name) P.objects o is there (same_name-from o.name o.name refl))
    at (Some p) is =
        let q = object-found P o.name p is in
        is ∙ ap Some (one_named P sound p o q.0 there q.1)

-- the rule of an attribute that has a menu
ruled_choice : {A : Type 0} (kind : Kind) (value_of : A → Tree) (c : Choice A) → has_menu c ≡ true → rule_of_choice kind value_of c ≡ Some (OneOf kind (map value_of (alternatives c)))
ruled_choice kind value_of c h = ap (λ b. cond b (Some (OneOf kind (map value_of (alternatives c)))) None) h

cell_reply : (P : Plan) → IsSound P → (s : State) → IsState P s → (x : CellRef) → IsIn (cells P) x → IsReply (value s x)
cell_reply P sound s k x i =
    let entry = from_map (λ z. z.0) (start_values P) x i in
    let o = from_flat_map (λ z. start_of z.name z.part) P.objects entry.0 entry.1 in
    at o.0 o.1 o.0.part refl (found_by_name P sound o.0 o.1) entry.0.1
    (subst (λ z. IsIn (start_of o.0.name o.0.part) (z, entry.0.1)) (sym entry.2) o.2)
  where
    -- a cell with a rule
    ruled : (y : CellRef) (rule : Rule) → x ≡ y → rule_of P y ≡ Some rule → IsReply (value s x)
    ruled y rule e is =
        small_reply (value s x) (meeting_small rule (value s x) (k.settable x (subst (λ ks. IsIn ks x) (sym k.cells) (cell_held P x i)) rule (subst (λ z. rule_of P z ≡ Some rule) (sym e) is)))

    rule_at : (o : Object) (part : Part) → o.part ≡ part → object_at P o.name ≡ Some o → (index : ℕ) → rule_of P (cell (class_of part) o.name index) ≡ rule_in P part index
    rule_at o part h is index =
        ap (option_and_then (λ z. cond (class_of z.part == class_of part) (rule_in P z.part index) None)) is
        ∙ ap (λ q. cond (class_of q == class_of part) (rule_in P q index) None) h
        ∙ cond-true (class_of part == class_of part) (rule_in P part index) None (same_class part)
      where
        same_class : (q : Part) → (class_of q == class_of q) ≡ true
        same_class (Data1 start) = refl
        same_class _ = refl

    at : (o : Object) → IsIn P.objects o → (part : Part) → o.part ≡ part → object_at P o.name ≡ Some o → (v : Tree) → IsIn (start_of o.name o.part) (x, v) → IsReply (value s x)
    at o there part h is v j = of_part part h (subst (λ q. IsIn (start_of o.name q) (x, v)) h j)
      where
        sizes : (part : Part) → o.part ≡ part → has_part_sizes part ≡ true
        sizes part h = subst (λ q. has_part_sizes q ≡ true) h (part_of_sizes P sound o there).1

        of_part : (part : Part) → o.part ≡ part → IsIn (start_of o.name part) (x, v) → IsReply (value s x)
        of_part (Data1 start) h (inl e) = ruled (data_value o.name) (OfKind (kind_of start)) (ap (λ z. z.0) e) (rule_at o (Data1 start) h is 2)
        of_part (Data1 start) h (inr none) = absurd none
        of_part (Register start default scaler_unit) h (inl e) = ruled (register_value o.name) (OfKind (kind_of start)) (ap (λ z. z.0) e) (rule_at o (Register start default scaler_unit) h is 2)
        of_part (Register start default scaler_unit) h (inr none) = absurd none
        of_part (ProfileGeneric captured period entries) h i =
            elim (profile_entry o.name captured period entries (x, v) i) [
              | inl e ↦ subst (λ z. IsReply (value s z)) (sym (ap (λ z. z.0) e))
                  (buffer_reply P (captured_in s o.name captured) entries (value s (buffer o.name)) few fitting.1 held.0)
              | inr a ↦ elim a [
                | inl e ↦ ruled (capture_objects o.name) (OneOf Array (map capture_objects_value (alternatives captured))) (ap (λ z. z.0) e.1)
                    (rule_at o (ProfileGeneric captured period entries) h is 3 ∙ ruled_choice Array capture_objects_value captured e.0)
                | inr b ↦ elim b [
                  | inl e ↦ ruled (capture_period o.name) (OfKind DoubleLongUnsigned) (ap (λ z. z.0) e) (rule_at o (ProfileGeneric captured period entries) h is 4)
                  | inr e ↦ subst (λ z. IsReply (value s z)) (sym (ap (λ z. z.0) e)) (subst IsReply (sym held.1.1) (small_reply (counter held.1.0) (counter_small held.1.0)))
                ]
              ]
            ]
          where
            held : Holds P s o.name (ProfileGeneric captured period entries)
            held = subst (Holds P s o.name) h (k.inner o there)

            fitting : ((xs : List CellRef) → IsIn (alternatives captured) xs → has_capture_sizes xs ≡ true) × (entries ≤ limits.PROFILE_ENTRIES)
            fitting = profile_sizes captured period entries (sizes (ProfileGeneric captured period entries) h)

            few : length (captured_in s o.name captured) ≤ limits.CAPTURE_OBJECTS
            few =
                let now = captured_in s o.name captured in
                leb-true (length now) limits.CAPTURE_OBJECTS
                (and_parts (nat_le (length now) limits.CAPTURE_OBJECTS) (list_all (λ z. is_name z.name) now)
                (fitting.0 now (chosen-in capture_objects_value captured (value s (capture_objects o.name))))).0
        of_part (Clock first) h (inl e) = ruled (clock_time o.name) ClockTime (ap (λ z. z.0) e) (rule_at o (Clock first) h is 2)
        of_part (Clock first) h (inr none) = absurd none
        of_part (ScriptTable scripts) h none = absurd none
        of_part (RegisterMonitor monitored th actions) h (inl e) =
            ruled (thresholds o.name) (Thresholds (length actions) (kind_of (value (start_values P) monitored))) (ap (λ z. z.0) e) (rule_at o (RegisterMonitor monitored th actions) h is 2)
        of_part (RegisterMonitor monitored th actions) h (inr (inl e)) =
            let held : IsSeen P monitored (value s (seen o.name)) = subst (Holds P s o.name) h (k.inner o there) in
            subst (λ z. IsReply (value s z)) (sym (ap (λ z. z.0) e)) (elim held [
              | inl null ↦ subst IsReply (sym null) (small_reply null_data null_small)
              | inr fits ↦ small_reply (value s (seen o.name)) (meeting_small (OfKind (kind_of (value (start_values P) monitored))) (value s (seen o.name)) fits)
            ])
        of_part (RegisterMonitor monitored th actions) h (inr (inr none)) = absurd none
        of_part (SingleActionSchedule script type times) h i =
            elim (schedule_entry o.name script type times (x, v) i) [
              | inl e ↦ ruled (executed_script o.name) (OneOf Structure (map script_ref_value (alternatives script))) (ap (λ z. z.0) e.1)
                  (rule_at o (SingleActionSchedule script type times) h is 2 ∙ ruled_choice Structure script_ref_value script e.0)
              | inr e ↦ ruled (execution_time o.name) (ExecutionTimes type) (ap (λ z. z.0) e) (rule_at o (SingleActionSchedule script type times) h is 4)
            ]

-- Replies

-- and seven times as much where entries are selected
abbrev most : ℕ
most = 1400000006

selected_within : (selection : Option Selection) (v : Tree) → IsReply v → IsWithin most (selected selection v)
selected_within None v h = wider longest most v (omega arith) h
selected_within (Some selection) v h = at (descriptor_in selection.1)
  where
    at : (d : Option EntryDescriptor) → IsWithin most (selected_by d v)
    at None = wider longest most v (omega arith) h
    at (Some d) = entries_within longest d v h

attribute_reply : (P : Plan) → IsSound P → (s : State) → IsState P s → (c : ℕ) (x : CellRef) → is_name x.name ≡ true → IsReply (attribute P s c x)
attribute_reply P sound s k c x h = at (is_cell P x) refl
  where
    at : (b : Bool) → is_cell P x ≡ b → IsReply (cond b (value s x) (fixed P c x))
    at true is = cell_reply P sound s k x (is_cell_in P x is)
    at false is = fixed_reply P sound c x h

-- a name at which something stands has six bytes
standing_name : (P : Plan) → IsSound P → (class_id : ℕ) (n : LogicalName) → class_is class_id (interface_at P n) ≡ true → is_name n ≡ true
standing_name P sound class_id n h = at (same_name n association_name) refl h
  where
    at : (b : Bool) → same_name n association_name ≡ b → class_is class_id (cond b (Some association) (option_map (λ o. interface_of o.part) (object_at P n))) ≡ true → is_name n ≡ true
    at true is e = subst (λ m. is_name m ≡ true) (sym (same_name-true n association_name is)) refl
    at false is e = of_object (object_at P n) refl e
      where
        of_object : (o : Option Object) → object_at P n ≡ o → class_is class_id (option_map (λ z. interface_of z.part) o) ≡ true → is_name n ≡ true
        of_object None there e = cc
        of_object (Some o) there e =
            let f = object-found P n o there in
            subst (λ m. is_name m ≡ true) f.1 (part_of_sizes P sound o f.0).0

value_part : (v w : Tree) → Value v ≡ Value w → v ≡ w
value_part v w e = cc

pub reply-length : (P : Plan) → IsSound P → (s : State) → IsState P s → (step : Step) (v : Tree) → reply_to P s step ≡ Value v → length (canonical v) < 2 ^ 32
reply-length P sound s k (Get c d selection) v e = at (is_success (get_answer P c d selection)) refl e
  where
    at : (b : Bool) → is_success (get_answer P c d selection) ≡ b →
        cond b (Value (selected selection (attribute P s c (cell_of d)))) (Code (get_answer P c d selection)) ≡ Value v → length (canonical v) < 2 ^ 32
    at true ok is =
        let within : IsWithin most v =
        subst (IsWithin most) (value_part (selected selection (attribute P s c (cell_of d))) v is)
        (selected_within selection (attribute P s c (cell_of d))
        (attribute_reply P sound s k c (cell_of d) (standing_name P sound d.class_id d.name (get_class P c d selection ok)))) in
        let few = within.bytes in
        omega (arith, few)
    at false ok is = cc
reply-length P sound s k _ v e = cc

-- so each such value can be written
pub reply-writable : (P : Plan) → IsSound P → (s : State) → IsState P s → (step : Step) (v : Tree) → reply_to P s step ≡ Value v → HasLengths v
reply-writable P sound s k step v e = small_has_lengths v (length (canonical v)) (omega arith) (reply-length P sound s k step v e)
