-- How the calls of a live meter answer what a port is asked.
use Rattle.std.proofs.Common.{◌≡◌, Bool, true, false, List, sym, subst}
use Rattle.std.specs.Prelude.{MatchBool, Some, Ok}
use mathlib.Core.List.{IsPrefix}
use Rattle.meter_theory.specs.Plan.{Plan, start}
use Rattle.meter_theory.specs.Replies.{Reply, reply_to, run}
use Rattle.meter_theory.specs.Steps.{Step, Get, Set, Act, Input, CaptureAt, Evaluate, ScheduleAt, Tick, ClockAt}
use Rattle.meter_live.proofs.Fronts.{prefix_self}
use Rattle.meter_live.specs.Changes.{Answers, is_get}
use Rattle.meter_live.specs.Tally.{Tally, Counts, HasSeen}
use Rattle.meter_core.specs.Judging.{grants_get}
use Rattle.live_server.specs.Asking.{AnswersLive}

-- a GET that the reader answers
pub answers-read : (P : Plan) (old new : List Step) (t t' : Tally) (step : Step) (reply : Reply) → is_get step ≡ true → IsPrefix old new
    → reply ≡ reply_to P (run P (start P) new) step → t' ≡ t → (grants_get P step ≡ true → HasSeen t new)
    → AnswersLive P (record { seen = Some old; share = t }) step (Ok reply) (record { seen = Some new; share = t' })
answers-read P old new t t' (Get c d selection) reply get later is same seen = (later, (is, same, seen))
answers-read P old new t t' (Set c d selected v) reply get later is same seen = absurd (cc get)
answers-read P old new t t' (Act c d argument) reply get later is same seen = absurd (cc get)
answers-read P old new t t' (Input x v) reply get later is same seen = absurd (cc get)
answers-read P old new t t' (CaptureAt n) reply get later is same seen = absurd (cc get)
answers-read P old new t t' (Evaluate n) reply get later is same seen = absurd (cc get)
answers-read P old new t t' (ScheduleAt n) reply get later is same seen = absurd (cc get)
answers-read P old new t t' Tick reply get later is same seen = absurd (cc get)
answers-read P old new t t' (ClockAt m) reply get later is same seen = absurd (cc get)

-- any other step, which is taken under the lock
pub answers-put : (P : Plan) (old new : List Step) (t t' : Tally) (step : Step) (reply : Reply) → is_get step ≡ false → IsPrefix old new
    → Answers P step reply → Counts P t step t'
    → AnswersLive P (record { seen = Some old; share = t }) step (Ok reply) (record { seen = Some new; share = t' })
answers-put P old new t t' (Get c d selection) reply other later is counts = absurd (cc other)
answers-put P old new t t' (Set c d selected v) reply other later is counts = (later, (is, counts))
answers-put P old new t t' (Act c d argument) reply other later is counts = (later, (is, counts))
answers-put P old new t t' (Input x v) reply other later is counts = (later, (is, counts))
answers-put P old new t t' (CaptureAt n) reply other later is counts = (later, (is, counts))
answers-put P old new t t' (Evaluate n) reply other later is counts = (later, (is, counts))
answers-put P old new t t' (ScheduleAt n) reply other later is counts = (later, (is, counts))
answers-put P old new t t' Tick reply other later is counts = (later, (is, counts))
answers-put P old new t t' (ClockAt m) reply other later is counts = (later, (is, counts))

-- the reader has seen on, whether it was told or not
pub told-later : (A : Type 0) (told : Bool) (old new : List Step) → MatchBool told (IsPrefix old new × A) (new ≡ old) → IsPrefix old new
told-later A true old new is = is.0
told-later A false old new is = subst (λ (l : List Step). IsPrefix old l) (sym is) (prefix_self old)
