-- How a port of a live meter answers steps. All of it is own profile.
use Rattle.std.specs.Prelude.{◌≡◌, true, List, Option, Some, None, Result, Ok, Err}
use mathlib.Core.List.{IsPrefix}
use Rattle.cosem_data.specs.declared.memory.Memory.{Memory}
use Rattle.meter_theory.specs.Plan.{Plan, start}
use Rattle.meter_theory.specs.Replies.{Reply, reply_to, run}
use Rattle.meter_theory.specs.Steps.{Step, Get}
use Rattle.meter_core.specs.Judging.{grants_get}
use Rattle.meter_live.specs.Changes.{Answers}
use Rattle.meter_live.specs.Tally.{Tally, Counts, HasSeen}

-- what is seen of a port that is asked: the steps that its reader has seen, where it has one, and what its share counts
pub record View : Type 0 where
  pub seen : Option (List Step)
  pub share : Tally

-- at a port with a reader that has seen these steps
abbrev pub reading : List Step → Tally → View
reading seen share = record { seen = Some seen; share = share }

-- at a port without a reader
abbrev pub locked : Tally → View
locked share = record { seen = None; share = share }

-- the reader has seen all that it had seen before, and maybe more; a port without one gets none
abbrev pub SeesOn : Option (List Step) → Option (List Step) → Type 0
SeesOn None new = new ≡ None
SeesOn (Some old) (Some new) = IsPrefix old new
SeesOn (Some old) None = ⊥

-- A step is answered under the lock: in some state of the plan, and the share counts it, where one that may change the meter is the
-- last step of the history.
abbrev pub IsTaken : Plan → View → Step → Reply → View → Type 0
IsTaken P old step reply new = Answers P step reply × Counts P old.share step new.share

-- A GET is answered by the reader: after the published steps that it has seen then, and the share stays. Where it is granted, these are
-- as many changes as the share counts, or more: a port that keeps its changes from its reader doesn't answer so.
abbrev pub IsRead : Plan → View → Step → Reply → List Step → View → Type 0
IsRead P old step reply seen new = (reply ≡ reply_to P (run P (start P) seen) step) × (new.share ≡ old.share) × (grants_get P step ≡ true → HasSeen old.share seen)

-- where there is a reader it answers GETs; all else is answered under the lock
abbrev pub IsAnswered : Plan → View → Step → Reply → View → Option (List Step) → Type 0
IsAnswered P old (Get c d selection) reply new (Some seen) = IsRead P old (Get c d selection) reply seen new
IsAnswered P old step reply new _ = IsTaken P old step reply new

-- how a port answers a step: so, or it was refused memory, or that it be counted or read, and then the share stays
abbrev pub AnswersLive : Plan → View → Step → Result Reply Memory → View → Type 0
AnswersLive P old step (Ok reply) new = SeesOn old.seen new.seen × IsAnswered P old step reply new new.seen
AnswersLive P old step (Err e) new = SeesOn old.seen new.seen × (new.share ≡ old.share)
