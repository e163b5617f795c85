-- Walks over the parts of a configuration, in the order of its text. A place is the path to a part, as `object[6].name`.
use Rattle.std.specs.Prelude.{ℕ, ◌+◌, ◌++◌, List, [], ◌∷◌, length, codes}
use Rattle.std.specs.Fmt.{decimal}
use Rattle.config_text.specs.Fault.{Fault}
use Rattle.config_text.specs.Parts.{Text, MenuText, TargetText, ScriptRefText, CaptureText, ActionText, ScriptText, UpDownText, BodyText, ProfileText, ScriptTableText, MonitorText, ScheduleText}
use Rattle.config_rules.specs.Names.{menu_in}

-- what is judged at a place: the faults that are found there
abbrev pub Judge : Type 0 → Type 0
Judge A = Text → A → List Fault

-- the place of an element of an array
abbrev pub element_place : Text → ℕ → Text
element_place name i = name ++ codes "[" ++ decimal i ++ codes "]"

-- the faults of each element of an array in turn
unfoldable pub each_from : {A : Type 0} → Judge A → Text → ℕ → List A → List Fault
each_from judge name i [] = []
each_from judge name i (x ∷ xs) = judge (element_place name i) x ++ each_from judge name (i + 1) xs

abbrev pub each : {A : Type 0} → Judge A → Text → List A → List Fault
each judge name xs = each_from judge name 0 xs

-- of each element in turn, beside those before it
unfoldable pub each_after : {A : Type 0} → (List A → Judge A) → Text → List A → List A → List Fault
each_after judge name earlier [] = []
each_after judge name earlier (x ∷ xs) =
    judge earlier (element_place name (length earlier)) x ++ each_after judge name (earlier ++ x ∷ []) xs

abbrev pub each_new : {A : Type 0} → (List A → Judge A) → Text → List A → List Fault
each_new judge name xs = each_after judge name [] xs

-- each action of each script
abbrev pub script_actions : Judge ActionText → Judge ScriptText
script_actions judge at s = each judge (at ++ codes ".action") s.actions

abbrev pub each_action : Judge ActionText → Judge (List ScriptText)
each_action judge at scripts = each (script_actions judge) (at ++ codes ".script") scripts

-- each captured attribute of a profile, at the start and by each alternative
abbrev pub each_capture : Judge CaptureText → Judge (MenuText (List CaptureText))
each_capture judge at captures =
    each judge (at ++ codes ".capture") captures.start ++ each (each judge) (at ++ codes ".capture_menu") (menu_in captures)

-- the script of a schedule, at the start and by each alternative
abbrev pub each_run : Judge ScriptRefText → Judge (MenuText ScriptRefText)
each_run judge at script = judge (at ++ codes ".script") script.start ++ each judge (at ++ codes ".script_menu") (menu_in script)

-- the scripts of a threshold
abbrev pub both_scripts : Judge ScriptRefText → Judge UpDownText
both_scripts judge at a = judge (at ++ codes ".up") a.up ++ judge (at ++ codes ".down") a.down

-- whatever an object refers to: the objects of targets, and scripts
unfoldable pub references : Judge TargetText → Judge ScriptRefText → Judge BodyText
references target script at (ProfileText captures period entries sort_method) =
    each_capture (λ at x. target at x.target) at captures
references target script at (ScriptTableText scripts) = each_action (λ at a. target at a.target) at scripts
references target script at (MonitorText monitored thresholds actions) =
    target (at ++ codes ".monitored") monitored ++ each (both_scripts script) (at ++ codes ".action") actions
references target script at (ScheduleText r type times) = each_run script at r
references target script at _ = []
