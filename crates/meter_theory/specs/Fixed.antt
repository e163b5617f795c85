-- The attributes that no step changes: shapes by IEC 62056-6-2, choices of this project marked own profile.
use Rattle.std.specs.Prelude.{ℕ, pos, ◌==◌, Bool, true, false, cond, ◌&&◌, List, [], ◌∷◌, filter, map, Option, Some, None, slice_get}
use Rattle.std.specs.List.{range_with_len}
use Rattle.cosem_data.specs.Tree.{Tree, null_data, boolean, octet_string, integer, long, unsigned, long_unsigned, enumerated}
use Rattle.cosem_data.specs.Cells.{same_name, cell}
use Rattle.cosem_data.specs.declared.name.LogicalName.{LogicalName}
use Rattle.cosem_data.specs.declared.cell.CellRef.{CellRef}
pub use Rattle.meter_theory.specs.Menus.{name_value, index_value, capture_object, capture_objects_value, script_ref_value}
use Rattle.meter_theory.specs.Value.{array_of, structure_of, counter}
use Rattle.meter_theory.specs.declared.refs.UpDown.{UpDown}
use Rattle.meter_theory.specs.declared.refs.ScalerUnit.{ScalerUnit}
use Rattle.meter_theory.specs.declared.refs.Interface.{Interface}
use Rattle.meter_theory.specs.Plan.{Plan, Client, Action, Write, Invoke, Script, Part, Data1, Register, ProfileGeneric, Clock, ScriptTable, RegisterMonitor, SingleActionSchedule, Object, interface_of, association, association_name, object_at}
use Rattle.meter_theory.specs.Rights.{may_set, may_act, may_read, has_right}

abbrev pub scaler_unit_value : ScalerUnit → Tree
scaler_unit_value u = structure_of (integer u.scaler ∷ enumerated u.unit ∷ [])

-- sort_method 1 is fifo
abbrev pub fifo : Tree
fifo = enumerated 1

-- a profile that isn't sorted by an object (own profile)
abbrev pub no_sort_object : Tree
no_sort_object =
    structure_of (long_unsigned 0 ∷ octet_string (0 ∷ 0 ∷ 0 ∷ 0 ∷ 0 ∷ 0 ∷ []) ∷ integer (pos 0) ∷ long_unsigned 0 ∷ [])

-- action_specification: service 1 writes an attribute, service 2 executes a method, whose parameter is null-data where none is told (own
-- profile)
abbrev pub action_value : Action → Tree
action_value (Write x v) =
    structure_of (enumerated 1 ∷ long_unsigned x.class_id ∷ name_value x.name ∷ index_value x.index ∷ v ∷ [])
action_value (Invoke m parameter) =
    structure_of (enumerated 2 ∷ long_unsigned m.class_id ∷ name_value m.name ∷ index_value m.index ∷ parameter ∷ [])

abbrev pub script_value : Script → Tree
script_value s = structure_of (long_unsigned s.id ∷ array_of (map action_value s.actions) ∷ [])

-- value_definition
abbrev pub monitored_value : CellRef → Tree
monitored_value x = structure_of (long_unsigned x.class_id ∷ name_value x.name ∷ index_value x.index ∷ [])

abbrev pub up_down_value : UpDown → Tree
up_down_value a = structure_of (script_ref_value a.up ∷ script_ref_value a.down ∷ [])

-- a date and time of which nothing is specified
abbrev pub no_date_time : Tree
no_date_time = octet_string (255 ∷ 255 ∷ 255 ∷ 255 ∷ 255 ∷ 255 ∷ 255 ∷ 255 ∷ 255 ∷ 255 ∷ 255 ∷ 255 ∷ [])

-- the fixed attributes of an object, by index; null-data at any other index
unfoldable pub fixed_in : Part → ℕ → Tree
fixed_in (Data1 start) index = null_data
fixed_in (Register start default scaler_unit) index = cond (index == 3) (scaler_unit_value scaler_unit) null_data
fixed_in (ProfileGeneric captured period entries) index =
    cond (index == 3) (capture_objects_value captured.configured)
    (cond (index == 5) fifo
    (cond (index == 6) no_sort_object
    (cond (index == 8) (counter entries) null_data)))
-- time_zone, status, daylight_savings_begin, _end, _deviation and _enabled, and clock_base: a clock without daylight saving whose
-- time zone and base say nothing (own profile)
fixed_in (Clock start) index =
    cond (index == 3) (long (pos 0))
    (cond (index == 4) (unsigned 0)
    (cond (index == 5) no_date_time
    (cond (index == 6) no_date_time
    (cond (index == 7) (integer (pos 0))
    (cond (index == 8) (boolean false)
    (cond (index == 9) (enumerated 0) null_data))))))
fixed_in (ScriptTable scripts) index = cond (index == 2) (array_of (map script_value scripts)) null_data
fixed_in (RegisterMonitor monitored thresholds actions) index =
    cond (index == 3) (monitored_value monitored) (cond (index == 4) (array_of (map up_down_value actions)) null_data)
fixed_in (SingleActionSchedule script type times) index =
    cond (index == 2) (script_ref_value script.configured) (cond (index == 3) (enumerated type) null_data)

-- The current association of a client

-- access modes: 0 no_access, 1 read_only, 2 write_only, 3 read_and_write
abbrev pub mode_of : Bool → Bool → ℕ
mode_of readable settable = cond readable (cond settable 3 1) (cond settable 2 0)

abbrev pub access_mode : Plan → ℕ → CellRef → ℕ
access_mode P c x = mode_of (may_read P c x) (may_set P c x)

-- only a buffer that may be read takes a selector, and only selector 2
abbrev pub access_selectors : Plan → ℕ → CellRef → Tree
access_selectors P c x =
    cond ((x.class_id == 7) && ((x.index == 2) && may_read P c x)) (array_of (integer (pos 2) ∷ [])) null_data

abbrev pub attribute_access : Plan → ℕ → CellRef → Tree
attribute_access P c x = structure_of (index_value x.index ∷ enumerated (access_mode P c x) ∷ access_selectors P c x ∷ [])

abbrev pub method_access : Plan → ℕ → CellRef → Tree
method_access P c x =
    structure_of (index_value x.index ∷ boolean (may_act P c (record { class_id = x.class_id; name = x.name; index = x.index })) ∷ [])

-- the rights of the client on each attribute and each method, in order
unfoldable pub access_rights : Plan → ℕ → LogicalName → Interface → Tree
access_rights P c n i =
    structure_of (
    array_of (map (λ k. attribute_access P c (cell i.class_id n k)) (range_with_len 1 i.attributes))
    ∷ array_of (map (λ k. method_access P c (cell i.class_id n k)) (range_with_len 1 i.methods))
    ∷ [])

-- object_list_element
abbrev pub listed_object : Plan → ℕ → LogicalName → Interface → Tree
listed_object P c n i =
    structure_of (long_unsigned i.class_id ∷ unsigned i.version ∷ name_value n ∷ access_rights P c n i ∷ [])

-- the objects on which the client has a right, in plan order
abbrev pub objects_of : Plan → ℕ → List Object
objects_of P c = filter (λ o. has_right P c o.name (λ r. true)) P.objects

-- The current association first, then the objects on which the client has a right.
unfoldable pub object_list : Plan → ℕ → Tree
object_list P c =
    array_of (listed_object P c association_name association ∷ map (λ o. listed_object P c o.name (interface_of o.part)) (objects_of P c))

-- associated_partners_id: the client's service access point, and that of the server, 1
abbrev pub partners : Client → Tree
partners client = structure_of (integer (pos client.sap) ∷ long_unsigned 1 ∷ [])

-- logical name referencing without ciphering: 2.16.756.5.8.1.1 as the seven bytes of its encoding (own profile)
abbrev pub application_context : Tree
application_context = octet_string (96 ∷ 133 ∷ 116 ∷ 5 ∷ 8 ∷ 1 ∷ 1 ∷ [])

-- low level security for a client with a password, else lowest level (2.16.756.5.8.2.1 and .0), as the seven bytes of their encoding (own
-- profile)
abbrev pub mechanism_of : Option (List ℕ) → Tree
mechanism_of (Some password) = octet_string (96 ∷ 133 ∷ 116 ∷ 5 ∷ 8 ∷ 2 ∷ 1 ∷ [])
mechanism_of None = octet_string (96 ∷ 133 ∷ 116 ∷ 5 ∷ 8 ∷ 2 ∷ 0 ∷ [])

abbrev pub of_client : Option Client → (Client → Tree) → Tree
of_client None f = null_data
of_client (Some client) f = f client

-- the attributes of the current association, by index; status 2 is associated
unfoldable pub association_attribute : Plan → ℕ → ℕ → Tree
association_attribute P c index =
    cond (index == 2) (object_list P c)
    (cond (index == 3) (of_client (slice_get P.clients c) partners)
    (cond (index == 4) application_context
    (cond (index == 6) (of_client (slice_get P.clients c) (λ client. mechanism_of client.password))
    (cond (index == 8) (enumerated 2) null_data))))

abbrev pub fixed_of : Option Object → ℕ → Tree
fixed_of None index = null_data
fixed_of (Some o) index = fixed_in o.part index

-- The value of a fixed attribute, as the client reads it; attribute 1 is the logical name.
unfoldable pub fixed : Plan → ℕ → CellRef → Tree
fixed P c x =
    cond (x.index == 1) (name_value x.name)
    (cond (same_name x.name association_name) (association_attribute P c x.index) (fixed_of (object_at P x.name) x.index))
