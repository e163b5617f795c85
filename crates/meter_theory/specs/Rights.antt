-- What a client may do, and the answer to a request, which no state decides
-- (IEC 62056-5-3, GET, SET and ACTION; IEC 62056-6-2, access rights; the order of the places is own profile).
use Rattle.std.specs.Prelude.{ℕ, ℤ, pos, ◌==◌, nat_lt, int_le, Bool, true, false, not, ◌&&◌, ◌||◌, cond, List, [], ◌∷◌, length, Option, Some, None, is_some, unsigned_abs}
use Rattle.std.specs.List.{list_any}
use Rattle.cosem_data.specs.Tree.{Tree}
use Rattle.cosem_data.specs.Cells.{same_name, cell}
use Rattle.cosem_data.specs.declared.name.LogicalName.{LogicalName}
use Rattle.cosem_data.specs.declared.cell.CellRef.{CellRef}
use Rattle.cosem_data.specs.declared.cell.MethodRef.{MethodRef}
use Rattle.meter_theory.specs.declared.access.AccessCode.{AccessCode}
use Rattle.meter_theory.specs.declared.access.AccessCode.TheVariants.{Success, ReadWriteDenied, ObjectUndefined, ObjectClassInconsistent, TypeUnmatched, ScopeOfAccessViolated, OtherReason}
use Rattle.meter_theory.specs.Value.{Rule, valid_tag, meets}
use Rattle.meter_theory.specs.Selection.{EntryDescriptor, descriptor_of, as_long_unsigned}
use Rattle.meter_theory.specs.declared.flow.Access.{Access}
use Rattle.meter_theory.specs.declared.flow.Access.TheVariants as accesses
use Rattle.meter_theory.specs.declared.refs.Interface.{Interface}
pub use Rattle.meter_theory.specs.declared.refs.Descriptor.{Descriptor}
use Rattle.meter_theory.specs.Plan.{Plan, Object, Right, Script, Part, ScriptTable, class_of, association_name, interface_at, object_at, rule_of}

-- a value or a parameter that a request brings along
pub data Argument : Type 0 where
  Absent : Argument
  Given : Tree → Argument
  -- bytes that are no encoding of one value to their end
  Unreadable : Argument

-- the attribute that a request names; an index below 0 names what its absolute value would (IEC 62056-5-3, Cosem-Attribute-Descriptor)
abbrev pub cell_of : Descriptor → CellRef
cell_of d = cell d.class_id d.name (unsigned_abs d.index)

-- the method that a request names (IEC 62056-5-3, Cosem-Method-Descriptor)
abbrev pub method_of : Descriptor → MethodRef
method_of d = record { class_id = d.class_id; name = d.name; index = unsigned_abs d.index }

-- the selector of a GET with its parameter
abbrev pub Selection : Type 0
Selection = ℕ × Argument

-- Rights

abbrev pub is_client : Plan → ℕ → Bool
is_client P c = nat_lt c (length P.clients)

-- a right of the client on the object that passes the test
abbrev pub has_right : Plan → ℕ → LogicalName → (Right → Bool) → Bool
has_right P c name test = list_any (λ r. ((r.client == c) && same_name r.object name) && test r) P.rights

-- The client's view has the current association, and each object on which the client has a right.
abbrev pub in_view : Plan → ℕ → LogicalName → Bool
in_view P c name = is_client P c && (same_name name association_name || has_right P c name (λ r. true))

abbrev pub lists : List ℕ → ℕ → Bool
lists indexes index = list_any (λ i. i == index) indexes

-- the attributes, or the methods, that a right lists for an access
abbrev pub listed : Access → Right → List ℕ
listed accesses.Get r = r.gets
listed accesses.Set r = r.sets
listed accesses.Act r = r.acts

-- a right of the client on the object lists the attribute or the method
abbrev pub is_granted : Plan → ℕ → Access → LogicalName → ℕ → Bool
is_granted P c access name index = has_right P c name (λ r. lists (listed access r) index)

-- the highest attribute, or the highest method, of a class (IEC 62056-6-2)
abbrev pub highest_for : Access → Interface → ℕ
highest_for accesses.Get interface = interface.attributes
highest_for accesses.Set interface = interface.attributes
highest_for accesses.Act interface = interface.methods

abbrev pub may_get : Plan → ℕ → CellRef → Bool
may_get P c x = has_right P c x.name (λ r. lists r.gets x.index)

abbrev pub may_set : Plan → ℕ → CellRef → Bool
may_set P c x = has_right P c x.name (λ r. lists r.sets x.index)

abbrev pub may_act : Plan → ℕ → MethodRef → Bool
may_act P c m = has_right P c m.name (λ r. lists r.acts m.index)

-- the attributes of the current association that a client may read (own profile: not user information and secret)
abbrev pub readable_of_association : List ℕ
readable_of_association = 1 ∷ 2 ∷ 3 ∷ 4 ∷ 6 ∷ 8 ∷ []

-- attribute 1, the logical name, may be read by everybody who sees the object
abbrev pub may_read : Plan → ℕ → CellRef → Bool
may_read P c x =
    cond (same_name x.name association_name) (lists readable_of_association x.index) ((x.index == 1) || may_get P c x)

-- The places of a request

abbrev pub class_is : ℕ → Option Interface → Bool
class_is class_id None = false
class_is class_id (Some interface) = interface.class_id == class_id

-- an index from 1 to the highest
abbrev pub is_index : ℤ → ℕ → Bool
is_index index highest = int_le (pos 1) index && int_le index (pos highest)

abbrev pub has_attribute : ℤ → Option Interface → Bool
has_attribute index None = false
has_attribute index (Some interface) = is_index index interface.attributes

abbrev pub has_method : ℤ → Option Interface → Bool
has_method index None = false
has_method index (Some interface) = is_index index interface.methods

-- The code of the first place that applies.
abbrev pub first_place : List (Bool × AccessCode) → AccessCode
first_place [] = Success
first_place (place ∷ places) = cond place.0 place.1 (first_place places)

-- only a profile's buffer takes a selector, and only selector 2, by entry
abbrev pub takes_selection : CellRef → Option Selection → Bool
takes_selection x None = true
takes_selection x (Some selection) = (x.class_id == 7) && ((x.index == 2) && (selection.0 == 2))

abbrev pub descriptor_in : Argument → Option EntryDescriptor
descriptor_in (Given v) = descriptor_of v
descriptor_in _ = None

-- the parameter of a selector is an entry descriptor
abbrev pub valid_selection : Option Selection → Bool
valid_selection None = true
valid_selection (Some selection) = is_some (descriptor_in selection.1)

abbrev pub is_unreadable : Argument → Bool
is_unreadable Unreadable = true
is_unreadable _ = false

-- a value of the tag that the cell asks for
abbrev pub has_valid_tag : Option Rule → Argument → Bool
has_valid_tag (Some rule) (Given v) = valid_tag rule v
has_valid_tag _ _ = false

abbrev pub meets_rule : Option Rule → Argument → Bool
meets_rule (Some rule) (Given v) = meets rule v
meets_rule _ _ = false

-- the places of a GET, in the order in which they are judged
abbrev pub get_places : Plan → ℕ → Descriptor → Option Selection → List (Bool × AccessCode)
get_places P c d selection =
    (not (in_view P c d.name), ObjectUndefined)
    ∷ (not (class_is d.class_id (interface_at P d.name)), ObjectClassInconsistent)
    ∷ (not (has_attribute d.index (interface_at P d.name)), ObjectUndefined)
    ∷ (not (may_read P c (cell_of d)), ReadWriteDenied)
    ∷ (not (takes_selection (cell_of d) selection), ScopeOfAccessViolated)
    ∷ (not (valid_selection selection), TypeUnmatched)
    ∷ []

abbrev pub get_answer : Plan → ℕ → Descriptor → Option Selection → AccessCode
get_answer P c d selection = first_place (get_places P c d selection)

-- the places of a SET, in the order in which they are judged
abbrev pub set_places : Plan → ℕ → Descriptor → Bool → Argument → List (Bool × AccessCode)
set_places P c d selected v =
    (not (in_view P c d.name), ObjectUndefined)
    ∷ (not (class_is d.class_id (interface_at P d.name)), ObjectClassInconsistent)
    ∷ (not (has_attribute d.index (interface_at P d.name)), ObjectUndefined)
    ∷ (not (may_set P c (cell_of d)), ReadWriteDenied)
    ∷ (selected, ScopeOfAccessViolated)
    ∷ (not (has_valid_tag (rule_of P (cell_of d)) v), TypeUnmatched)
    ∷ (not (meets_rule (rule_of P (cell_of d)) v), OtherReason)
    ∷ []

abbrev pub set_answer : Plan → ℕ → Descriptor → Bool → Argument → AccessCode
set_answer P c d selected v = first_place (set_places P c d selected v)

-- the number of a script in the parameter of execute, a long-unsigned
abbrev pub script_number : Argument → Option ℕ
script_number (Given v) = as_long_unsigned v
script_number _ = None

abbrev pub executes : Option Object → Bool
executes None = false
executes (Some o) = class_of o.part == 9

abbrev pub knows_script : List Script → ℕ → Bool
knows_script scripts id = (id == 0) || list_any (λ s. s.id == id) scripts

abbrev pub knows : Part → ℕ → Bool
knows (ScriptTable scripts) id = knows_script scripts id
knows _ id = true

-- the parameter of execute is a script's number; that of reset and capture is absent or any readable value (own profile)
abbrev pub valid_parameter : Option Object → Argument → Bool
valid_parameter o argument = cond (executes o) (is_some (script_number argument)) (not (is_unreadable argument))

abbrev pub known_script : Option Object → Option ℕ → Bool
known_script (Some o) (Some id) = knows o.part id
known_script _ _ = true

-- the places of an ACTION, in the order in which they are judged
abbrev pub act_places : Plan → ℕ → Descriptor → Argument → List (Bool × AccessCode)
act_places P c d argument =
    (not (in_view P c d.name), ObjectUndefined)
    ∷ (not (class_is d.class_id (interface_at P d.name)), ObjectClassInconsistent)
    ∷ (not (has_method d.index (interface_at P d.name)), ObjectUndefined)
    ∷ (not (may_act P c (method_of d)), ReadWriteDenied)
    ∷ (not (valid_parameter (object_at P d.name) argument), TypeUnmatched)
    ∷ (not (known_script (object_at P d.name) (script_number argument)), OtherReason)
    ∷ []

abbrev pub act_answer : Plan → ℕ → Descriptor → Argument → AccessCode
act_answer P c d argument = first_place (act_places P c d argument)
