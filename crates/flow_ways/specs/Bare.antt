-- Plans without passwords and without values: start values, defaults, thresholds, times, periods, numbers of entries, and what scripts write. All of
-- it is own profile.
use Rattle.std.specs.Prelude.{[], map, option_map}
use Rattle.cosem_data.specs.Tree.{null_data}
use Rattle.meter_theory.specs.Plan.{Action, Client, Clock, Data1, Invoke, Object, Part, Plan, ProfileGeneric, Register, RegisterMonitor, Script, ScriptTable, SingleActionSchedule, Write}
use Rattle.meter_theory.specs.Times.{first_moment}

-- a client of which it is only told that it needs a password, where it needs one
abbrev pub bare_client : Client → Client
bare_client c = record { name = c.name; sap = c.sap; password = option_map (λ password. []) c.password }

-- an action without the value that it writes, or the parameter of the method
abbrev pub bare_action : Action → Action
bare_action (Write x v) = Write x null_data
bare_action (Invoke m parameter) = Invoke m null_data

abbrev pub bare_script : Script → Script
bare_script s = record { id = s.id; actions = map bare_action s.actions }

-- a part without its values: what it captures, watches and runs is kept, and what its menus offer
abbrev pub bare_part : Part → Part
bare_part (Data1 start) = Data1 null_data
bare_part (Register start default scaler_unit) = Register null_data null_data scaler_unit
bare_part (ProfileGeneric captured period entries) = ProfileGeneric captured 0 0
bare_part (Clock start) = Clock first_moment
bare_part (ScriptTable scripts) = ScriptTable (map bare_script scripts)
bare_part (RegisterMonitor monitored thresholds actions) = RegisterMonitor monitored null_data actions
bare_part (SingleActionSchedule script type times) = SingleActionSchedule script 0 null_data

abbrev pub bare_object : Object → Object
bare_object o = record { name = o.name; fed = o.fed; part = bare_part o.part }

abbrev pub bare : Plan → Plan
bare P = record { version = P.version; clients = map bare_client P.clients; objects = map bare_object P.objects; rights = P.rights }
