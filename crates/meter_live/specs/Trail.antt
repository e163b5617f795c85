-- A meter with the trail of its last steps. All of it is own profile.
use Rattle.std.specs.Prelude.{◌≡◌, ℕ, ◌+◌, ◌≤◌, ◌<◌, Bool, List, [], ◌∷◌, ◌++◌, length, map, cond, nat_lt, Option, None, Some, MatchOption, is_some}
use Rattle.flow_checker.specs.Accepted.{Accepted, IsAdmitted}
use Rattle.meter_theory.specs.Plan.{start}
use Rattle.meter_theory.specs.Replies.{Reply, reply_to, run, replies}
use Rattle.meter_theory.specs.State.{State}
use Rattle.meter_theory.specs.States.{IsState}
use Rattle.meter_theory.specs.Steps.{Step, next}
use Rattle.meter_live.specs.Changes.{changes_of}
use Rattle.meter_live.specs.declared.traced.TheConstants as limits

-- a step that was taken: by which port, and what was answered
pub record Taken : Type 0 where
  pub port : ℕ
  pub step : Step
  pub reply : Reply

-- The plan with its policy, the state where the trail begins, the state now, and the trail between them; how many steps were
-- taken, and how many of them may have changed the meter.
pub record Traced : Type 0 where
  pub accepted : Accepted
  pub opening : State
  pub state : State
  pub trail : List Taken
  pub count : ℕ
  pub changes : ℕ

-- these parts of it
abbrev pub traced : Accepted → State → State → List Taken → ℕ → ℕ → Traced
traced accepted opening state trail count changes =
    record { accepted = accepted; opening = opening; state = state; trail = trail; count = count; changes = changes }

-- the steps of a trail
abbrev pub steps_of : List Taken → List Step
steps_of trail = map (λ e. e.step) trail

-- the replies of a trail
abbrev pub replies_of : List Taken → List Reply
replies_of trail = map (λ e. e.reply) trail

-- The plan was accepted for its policy, the state is the run of the trail from the opening state, each reply is the one at its
-- place, and the trail keeps to its length.
pub record IsTraced (t : Traced) : Type 0 where
  pub accepted : IsAdmitted t.accepted
  pub opened : IsState t.accepted.plan t.opening
  pub fits : IsState t.accepted.plan t.state
  pub state : t.state ≡ run t.accepted.plan t.opening (steps_of t.trail)
  pub replies : replies_of t.trail ≡ replies t.accepted.plan t.opening (steps_of t.trail)
  pub short : length t.trail ≤ limits.TRAIL
  pub fewer : t.changes ≤ t.count

-- what a step is answered now
abbrev pub reply_now : Traced → Step → Reply
reply_now t step = reply_to t.accepted.plan t.state step

-- a step that is taken now, with its reply
abbrev pub taken : Traced → ℕ → Step → Taken
taken t port step = record { port = port; step = step; reply = reply_now t step }

-- there is room in the trail
abbrev pub has_room : Traced → Bool
has_room t = nat_lt (length t.trail) limits.TRAIL

-- After a step by this port. A full trail is closed first: then it begins with this step, in the state before it.
abbrev pub after : Traced → ℕ → Step → Traced
after t port step = record {
  accepted = t.accepted;
  opening = cond (has_room t) t.opening t.state;
  state = next t.accepted.plan t.state step;
  trail = cond (has_room t) (t.trail ++ taken t port step ∷ []) (taken t port step ∷ []);
  count = t.count + 1;
  changes = t.changes + changes_of t.accepted.plan step;
}

-- before any step
abbrev pub unstepped : Accepted → Traced
unstepped a = record { accepted = a; opening = start a.plan; state = start a.plan; trail = []; count = 0; changes = 0 }

-- the state with which a trail is closed, where it is full
abbrev pub closed_by : List Taken → State → Option State
closed_by trail state = cond (nat_lt (length trail) limits.TRAIL) None (Some state)

-- there is room for an entry behind so many in a trail with room for so many, or in one that is closed first
abbrev pub HasRoom : Option State → ℕ → ℕ → Type 0
HasRoom closed entries room = MatchOption closed (entries < room) (λ _. 0 < room)

-- a trail with an entry more; one that is closed begins with it
abbrev pub behind : Option State → List Taken → Taken → List Taken
behind closed trail e = cond (is_some closed) (e ∷ []) (trail ++ e ∷ [])
