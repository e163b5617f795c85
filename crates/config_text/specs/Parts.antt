-- What the tables of a configuration say, before names are looked up. Texts are lists of bytes.
use Rattle.std.specs.Prelude.{ℕ, ℤ, Bool, List, Option}
use Rattle.config_text.specs.declared.service.Service.{Service}

-- a text, as bytes
abbrev pub Text : Type 0
Text = List ℕ

pub record ClientText : Type 0 where
  pub name : Text
  pub sap : ℕ
  pub password : Option Text

-- an attribute or method, by the name of its object and its index
pub record TargetText : Type 0 where
  pub object : Text
  pub index : ℕ

-- a captured attribute
pub record CaptureText : Type 0 where
  pub target : TargetText
  pub data_index : Option ℤ

-- a script, by the name of its table and its number
pub record ScriptRefText : Type 0 where
  pub table : Text
  pub script : ℤ

-- what an attribute holds at the start, and its menu, where it has one (own profile)
pub record MenuText (A : Type 0) : Type 0 where
  pub start : A
  pub menu : Option (List A)

-- an action of a script; the value is a hex text
pub record ActionText : Type 0 where
  pub service : Service
  pub target : TargetText
  pub value : Option Text

pub record ScriptText : Type 0 where
  pub id : ℕ
  pub actions : List ActionText

-- the scripts of a threshold
pub record UpDownText : Type 0 where
  pub up : ScriptRefText
  pub down : ScriptRefText

-- what an object's class says of it (IEC 62056-6-2): a form for each class, and one where it isn't known
pub data BodyText : Type 0 where
  DataText : (value : Text) → BodyText
  RegisterText : (value default : Text) → (scaler : ℤ) → (unit : ℕ) → BodyText
  ProfileText : MenuText (List CaptureText) → (period entries : ℕ) → (sort_method : Option ℤ) → BodyText
  ClockText : (time : Text) → BodyText
  ScriptTableText : List ScriptText → BodyText
  MonitorText : (monitored : TargetText) → (thresholds : List Text) → List UpDownText → BodyText
  ScheduleText : MenuText ScriptRefText → (type : ℕ) → (times : List Text) → BodyText
  UnknownText : BodyText

pub record ObjectText : Type 0 where
  pub class : ℕ
  pub name : Text
  pub fed : Bool
  pub body : BodyText

pub record RightText : Type 0 where
  pub client : Text
  pub object : Text
  pub gets : List ℕ
  pub sets : List ℕ
  pub acts : List ℕ

-- the clients that may influence a cell, and those that may learn it
pub record SetsText : Type 0 where
  pub influence : List Text
  pub learn : List Text

pub record LabelText : Type 0 where
  pub target : TargetText
  pub sets : SetsText

pub record ConfigText : Type 0 where
  pub version : ℕ
  pub clients : List ClientText
  pub objects : List ObjectText
  pub rights : List RightText
  pub policy : SetsText
  pub labels : List LabelText
