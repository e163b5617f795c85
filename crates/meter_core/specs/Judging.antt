-- What a plan says of a step, whatever the state is.
use Rattle.std.specs.Prelude.{◌≡◌, ℕ, Bool, false, cond, Option, Some, None}
use Rattle.cosem_data.specs.declared.cell.CellRef.{CellRef}
use Rattle.meter_theory.specs.Access.{is_success}
use Rattle.meter_theory.specs.Plan.{Plan}
use Rattle.meter_theory.specs.Rights.{Argument, Given, get_answer, set_answer, act_answer}
use Rattle.meter_theory.specs.States.{MayStand}
use Rattle.meter_theory.specs.Steps.{Step, Get, Set, Act}
use Rattle.meter_theory.specs.declared.access.AccessCode.{AccessCode}
use Rattle.meter_core.specs.StepView.{step_of}
use Rattle.object_model.specs.Tables.{number_at}
use Rattle.meter_core.specs.declared.judged.Judged.{Judged}
use Rattle.meter_core.specs.declared.judged.Judgement.{Judgement}

-- the code that a request is refused by: any but success
abbrev pub refused_by : AccessCode → Option AccessCode
refused_by code = cond (is_success code) None (Some code)

-- A SET or an ACTION is refused by the plan alone (IEC 62056-5-3, Data-Access-Result, Action-Result); of any other step the plan says nothing.
abbrev pub refusal : Plan → Step → Option AccessCode
refusal P (Set c d selected v) = refused_by (set_answer P c d selected v)
refusal P (Act c d argument) = refused_by (act_answer P c d argument)
refusal P _ = None

-- the number, from 0 in plan order, of the object that a SET or an ACTION names, if one has the name (own profile)
abbrev pub number_named : Plan → Step → Option ℕ
number_named P (Set c d selected v) = number_at P.objects d.name
number_named P (Act c d argument) = number_at P.objects d.name
number_named P _ = None

-- what this plan says of a step: whether it refuses it, and the number of the object (own profile)
pub record Says (P : Plan) (step : Step) (judgement : Judgement) : Type 0 where
  pub refused : judgement.refusal ≡ refusal P step
  pub named : judgement.number ≡ number_named P step

-- the step was judged by this plan
abbrev pub IsJudged : Plan → Judged → Type 0
IsJudged P j = Says P (step_of j.step) j.judgement

-- the step is a GET that the plan grants
abbrev pub grants_get : Plan → Step → Bool
grants_get P (Get c d selection) = is_success (get_answer P c d selection)
grants_get P _ = false

-- the value that a SET brings, if it brings one, may stand in the cell
abbrev pub MayBeSet : Plan → CellRef → Argument → Type 0
MayBeSet P x (Given v) = MayStand P x v
MayBeSet P x _ = Unit {0}
