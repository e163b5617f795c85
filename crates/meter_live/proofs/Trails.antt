-- A step more on a trail.
use Rattle.std.proofs.Common.{◌≡◌, ℕ, ◌+◌, ◌<◌, List, [], ◌∷◌, ◌++◌, length, Bool, true, false, refl, sym, ap, subst, ◌∙◌, arith}
use Rattle.std.specs.Prelude.{cond, Option, None, Some, is_some, unwrap_or}
use Rattle.std.proofs.lemmas.List.{map-append, length-append}
use Rattle.std.proofs.lemmas.Bool.Decides.{nat_tests}
use Rattle.meter_theory.specs.Plan.{Plan}
use Rattle.meter_theory.specs.Replies.{Reply, reply_to, run, replies}
use Rattle.meter_theory.specs.State.{State}
use Rattle.meter_theory.specs.States.{IsState}
use Rattle.meter_theory.specs.Steps.{Step, next}
use Rattle.meter_live.proofs.Changing.{changes_le}
use Rattle.meter_live.specs.Changes.{changes_of}
use Rattle.meter_live.specs.Trail.{Taken, Traced, IsTraced, steps_of, replies_of, taken, has_room, after}

pub run-push : (P : Plan) (s : State) (steps : List Step) (step : Step) → run P s (steps ++ step ∷ []) ≡ next P (run P s steps) step
run-push P s [] step = refl
run-push P s (x ∷ steps) step = run-push P (next P s x) steps step

pub replies-push : (P : Plan) (s : State) (steps : List Step) (step : Step) → replies P s (steps ++ step ∷ []) ≡ replies P s steps ++ reply_to P (run P s steps) step ∷ []
replies-push P s [] step = refl
replies-push P s (x ∷ steps) step = ap (λ rs. reply_to P s x ∷ rs) (replies-push P (next P s x) steps step)

replies_kept : (t : Traced) (step : Step) (port : ℕ) → IsTraced t
    → replies_of (t.trail ++ taken t port step ∷ []) ≡ replies t.accepted.plan t.opening (steps_of (t.trail ++ taken t port step ∷ []))
replies_kept t step port kept =
    let P = t.accepted.plan in
    let e = taken t port step in
    let now : reply_to P t.state step ≡ reply_to P (run P t.opening (steps_of t.trail)) step = ap (λ s. reply_to P s step) kept.state in
    map-append (λ (e : Taken). e.reply) t.trail (e ∷ []) ∙ ap (λ rs. rs ++ reply_to P t.state step ∷ []) kept.replies
    ∙ ap (λ r. replies P t.opening (steps_of t.trail) ++ r ∷ []) now
    ∙ sym (replies-push P t.opening (steps_of t.trail) step)
    ∙ ap (replies P t.opening) (sym (map-append (λ (e : Taken). e.step) t.trail (e ∷ [])))

state_kept : (t : Traced) (step : Step) (port : ℕ) → IsTraced t
    → next t.accepted.plan t.state step ≡ run t.accepted.plan t.opening (steps_of (t.trail ++ taken t port step ∷ []))
state_kept t step port kept =
    let P = t.accepted.plan in
    ap (λ s. next P s step) kept.state
    ∙ sym (run-push P t.opening (steps_of t.trail) step)
    ∙ ap (run P t.opening) (sym (map-append (λ (e : Taken). e.step) t.trail (taken t port step ∷ [])))

traced_by : (t : Traced) (port : ℕ) (step : Step) (b : Bool) → has_room t ≡ b → IsTraced t → IsState t.accepted.plan (next t.accepted.plan t.state step)
    → IsTraced (record {
      accepted = t.accepted;
      opening = cond b t.opening t.state;
      state = next t.accepted.plan t.state step;
      trail = cond b (t.trail ++ taken t port step ∷ []) (taken t port step ∷ []);
      count = t.count + 1;
      changes = t.changes + changes_of t.accepted.plan step;
    })
traced_by t port step true is kept fits = record {
  accepted = kept.accepted;
  opened = kept.opened;
  fits = fits;
  state = state_kept t step port kept;
  replies = replies_kept t step port kept;
  short = let h : length t.trail < 4096 = grind (arith, nat_tests) in omega (arith, length-append t.trail (taken t port step ∷ []));
  fewer = omega (arith, kept.fewer, changes_le t.accepted.plan step);
}
traced_by t port step false is kept fits = record {
  accepted = kept.accepted;
  opened = kept.fits;
  fits = fits;
  state = refl;
  replies = refl;
  short = omega arith;
  fewer = omega (arith, kept.fewer, changes_le t.accepted.plan step);
}

-- a step keeps what a traced meter keeps
pub traced_after : (t : Traced) (port : ℕ) (step : Step) → IsTraced t → IsState t.accepted.plan (next t.accepted.plan t.state step) → IsTraced (after t port step)
traced_after t port step kept fits = traced_by t port step (has_room t) refl kept fits

opening_is : (b : Bool) (closed : Option State) (o s : State) → closed ≡ cond b None (Some s) → unwrap_or closed o ≡ cond b o s
opening_is true closed o s e = ap (λ c. unwrap_or c o) e
opening_is false closed o s e = ap (λ c. unwrap_or c o) e

trail_is : (b : Bool) (closed : Option State) (s : State) (old : List Taken) (e : Taken) → closed ≡ cond b None (Some s)
    → cond (is_some closed) (e ∷ []) (old ++ e ∷ []) ≡ cond b (old ++ e ∷ []) (e ∷ [])
trail_is true closed s old e h = ap (λ c. cond (is_some c) (e ∷ []) (old ++ e ∷ [])) h
trail_is false closed s old e h = ap (λ c. cond (is_some c) (e ∷ []) (old ++ e ∷ [])) h

-- the parts as the code leaves them are those after the step
pub after_is : (t : Traced) (port : ℕ) (step : Step) (reply : Reply) (closed : Option State) (opening state : State) (trail : List Taken) (changes : ℕ)
    → closed ≡ cond (has_room t) None (Some t.state)
    → opening ≡ unwrap_or closed t.opening
    → state ≡ next t.accepted.plan t.state step
    → reply ≡ reply_to t.accepted.plan t.state step
    → trail ≡ cond (is_some closed) (record { port = port; step = step; reply = reply } ∷ []) (t.trail ++ record { port = port; step = step; reply = reply } ∷ [])
    → changes ≡ t.changes + changes_of t.accepted.plan step
    → after t port step ≡ record { accepted = t.accepted; opening = opening; state = state; trail = trail; count = t.count + 1; changes = changes }
after_is t port step reply closed opening state trail changes is opens nexts replied put changed =
    let entry : Reply → Taken = λ r. record { port = port; step = step; reply = r } in
    let p = opens ∙ opening_is (has_room t) closed t.opening t.state is in
    let q = put ∙ ap (λ r. cond (is_some closed) (entry r ∷ []) (t.trail ++ entry r ∷ [])) replied ∙ trail_is (has_room t) closed t.state t.trail (taken t port step) is in
    λ i. record { accepted = t.accepted; opening = sym p i; state = sym nexts i; trail = sym q i; count = t.count + 1; changes = sym changed i }

-- and keep what a traced meter keeps
pub traced_made : (t : Traced) (port : ℕ) (step : Step) (made : Traced) → IsTraced t → IsState t.accepted.plan (next t.accepted.plan t.state step) → after t port step ≡ made → IsTraced made
traced_made t port step made kept fits is = subst IsTraced is (traced_after t port step kept fits)
