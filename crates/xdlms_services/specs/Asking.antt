-- What a request asks of the meter, what its reply needs of the request, and what is replied to an APDU that no service answers.
use Rattle.std.specs.Prelude.{◌≡◌, ℕ, List, [], ◌∷◌, Option, Some, None, option_and_then}
use Rattle.meter_theory.specs.Replies.{Reply}
use Rattle.meter_theory.specs.Steps as steps
use Rattle.meter_theory.specs.Steps.{Step}
use Rattle.meter_core.specs.StepView.{argument_of, selection_of, step_of}
use Rattle.xdlms_services.specs.declared.asking.Asking.{Asking}
use Rattle.xdlms_services.specs.declared.asking.Exception.{Exception}
use Rattle.xdlms_services.specs.declared.asking.Exception.TheVariants as exceptions
use Rattle.xdlms_services.specs.declared.request.Request.{Request}
use Rattle.xdlms_services.specs.declared.request.Request.TheVariants as requests
use Rattle.xdlms_services.specs.declared.writing.Service.{Service}
use Rattle.xdlms_services.specs.declared.writing.Service.TheVariants as services
use Rattle.xdlms_services.specs.Reading.{request_at}
use Rattle.xdlms_services.specs.Replies.{reply_bytes}

-- a step that a client asks for, the service that it asks, and the Invoke-Id-And-Priority that the reply brings back (IEC 62056-5-3, GET, SET and ACTION)
pub record Asked : Type 0 where
  pub service : Service
  pub invoke : ℕ
  pub step : Step

-- the same of what the code has (own profile)
abbrev pub asked : Asking → Asked
asked asking = record { service = asking.service; invoke = asking.invoke; step = step_of asking.step }

-- what the client at this place asks by a request (IEC 62056-5-3, Get-Request-Normal, Set-Request-Normal and Action-Request-Normal); one for the next block of a value asks no step (Get-Request-Next)
abbrev pub asking_of : ℕ → Request → Option Asked
asking_of client (requests.Get invoke attribute selection) = Some (record { service = services.Get; invoke = invoke; step = steps.Get client attribute (selection_of selection) })
asking_of client (requests.Set invoke attribute selected value) = Some (record { service = services.Set; invoke = invoke; step = steps.Set client attribute selected (argument_of value) })
asking_of client (requests.Act invoke method argument) = Some (record { service = services.Act; invoke = invoke; step = steps.Act client method (argument_of argument) })
asking_of client (requests.Next invoke block) = None

-- the service is the one by which a client asks for the step; the meter's own steps have none (IEC 62056-5-3, GET, SET and ACTION)
abbrev pub IsServiceOf : Step → Service → Type 0
IsServiceOf (steps.Get client attribute selection) service = service ≡ services.Get
IsServiceOf (steps.Set client attribute selected value) service = service ≡ services.Set
IsServiceOf (steps.Act client method argument) service = service ≡ services.Act
IsServiceOf _ service = ⊥

-- what the client at this place asks by an APDU (IEC 62056-5-3, xDLMS-APDU)
abbrev pub asking_at : ℕ → List ℕ → Option Asked
asking_at client bytes = option_and_then (asking_of client) (request_at bytes)

-- the APDU of the reply to what was asked (IEC 62056-5-3, Get-Response-Normal, Set-Response-Normal and Action-Response-Normal)
abbrev pub apdu_of : Asked → Reply → List ℕ
apdu_of asked reply = reply_bytes asked.service asked.invoke reply

-- the APDU of an exception: the tag 0xD8, the state error and the service error; service-not-allowed and operation-not-possible, or service-unknown and service-not-supported (IEC 62056-5-3, Exception-Response; which of the two answers what is own profile)
abbrev pub exception_bytes : Exception → List ℕ
exception_bytes exceptions.NotAllowed = 0xD8 ∷ 1 ∷ 1 ∷ []
exception_bytes exceptions.Unknown = 0xD8 ∷ 2 ∷ 2 ∷ []
