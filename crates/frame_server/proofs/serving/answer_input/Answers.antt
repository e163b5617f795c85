use Rattle.std.proofs.Common.{◌≡◌, ◌+◌, ◌<◌, ◌≤◌, ◌^◌, List, ℕ, [], take, length, ap, refl, sym, subst, ◌∙◌, arith, Option, Result, Err}
use Rattle.std.proofs.lemmas.Result.{err_from_is_err_and}
use Rattle.std.specs.Io.KnownBytes.{Consumes}
use Rattle.acse_session.specs.Keeping.{Kept}
use Rattle.frame_server.proofs.Standing.{stands-init, stops-reading, stops-counting, ends-clean, ends-cut, piece-stops, piece-ends, piece-stands, some-frame, few-frames, stops-at_limit}
use Rattle.std.proofs.Common.{lit<}
use Rattle.std.proofs.lemmas.Bool.{false≢true}
use Rattle.tcp_wrapper.specs.declared.fault.WrapFault.{WrapFault}
use Rattle.tcp_wrapper.specs.declared.fault.WrapFault.TheVariants as wraps
use Rattle.frame_server.specs.Serving.{stop_of_fault}
use Rattle.frame_server.specs.declared.fault.ServeFault.{ServeFault}
use Rattle.tcp_wrapper.specs.declared.place.FramePlace.{FramePlace}
use Rattle.tcp_wrapper.specs.Places.{moved}
use Rattle.frame_server.specs.declared.fault.ServeFault.TheVariants.{GaveUp}
use Rattle.frame_server.proofs.serving.answer_input.Goals as goal
use Rattle.frame_server.proofs.serving.answer_input.Goals.{then-is_idle, else-is_idle}

-- a fault that is passed on is the fault there was
passed-on : (r : Result ℕ ServeFault) (x f : ServeFault) (s : Result (Unit {0}) ServeFault) → r ≡ Err x → x ≡ f → s ≡ Err f → r ≡ Err GaveUp → s ≡ Err GaveUp
passed-on r x f s a b d e = let k : ◌≡◌ {A = Result ℕ ServeFault} (Err x) (Err GaveUp) = sym a ∙ e in cc

-- where a stream is read no further, no seat gave up
stop-goes_on : (w : WrapFault) (place : FramePlace) (x : ServeFault) → x ≡ stop_of_fault w place → ◌≡◌ {A = Result ℕ ServeFault} (Err x) (Err GaveUp) → ⊥
stop-goes_on wraps.Version place x is e = cc
stop-goes_on wraps.Destination place x is e = cc
stop-goes_on wraps.Length place x is e = cc
stop-goes_on wraps.Memory place x is e = cc
stop-goes_on wraps.Failed place x is e = cc

pub loop-init : goal.loop-init
loop-init g c = record {
  so_far = ([], [], [], stands-init g.A.Asker.answers c.args.plan.now _ c.new-session.result c.new-feeder.result c.first-place.result c.new-session.ensures c.new-feeder.ensures c.first-place.ensures);
  plan = c.requires;
  same_plan = ap (λ (s : Kept). s.plan) c.new-session.ensures;
  room = lit< tt;
}

pub returns-in_default : goal.returns-in_default
returns-in_default g c =
    let s = c.loop.invariant.so_far in
    record {
      serves = stops-reading g.A.Asker.answers c.args.plan.now _ _ c.loop.session c.loop.feeder c.loop.place c.loop.total s.0 s.1 s.2 (g.R.Read.remaining c.read.new.self) s.3 c.in_default.ensures.bytes;
      gave_up = λ e. cc;
      plan = c.loop.invariant.plan;
    }

none-taken : (old new : Option (List ℕ)) (n : ℕ) (bytes : List ℕ) → n ≡ 0 → Consumes old new (take n bytes) → Consumes old new []
none-taken old new n bytes e h = subst (λ (k : ℕ). Consumes old new (take k bytes)) e h

pub returns-then-count-eq0 : goal.returns-then-count-eq0
returns-then-count-eq0 g c =
    let s = c.loop.invariant.so_far in
    let unread = g.R.Read.remaining c.read.new.self in
    let zero = c.if-count-eq0.true in
    let taken = none-taken (g.R.Read.remaining c.loop.reader) unread c.in-Ok.count c.read.new.buf zero c.in-Ok.ensures.bytes.0 in
    let at_end = c.in-Ok.ensures.bytes.1 zero (omega (arith, c.loop.invariant.room, c.read.auto.buf)) in
    elim c.if-is_idle.branch [
      | then-is_idle w ↦ record { serves = rw w.result-is (ends-clean g.A.Asker.answers c.args.plan.now _ _ c.loop.session c.loop.feeder c.loop.place c.loop.total s.0 s.1 s.2 unread s.3 taken at_end (w.if-is_idle.ensures.0 refl)); gave_up = λ e. let f = sym w.result-is ∙ e in cc; plan = c.loop.invariant.plan }
      | else-is_idle w ↦ record { serves = rw w.result-is (ends-cut g.A.Asker.answers c.args.plan.now _ _ c.loop.session c.loop.feeder c.loop.place c.loop.total s.0 s.1 s.2 unread s.3 taken at_end (λ e. false≢true (w.if-is_idle.ensures.1 e))); gave_up = λ e. let f = sym w.result-is ∙ e in cc; plan = c.loop.invariant.plan }
    ]

not-below : (m n k : ℕ) → (m + n < 2 ^ 64 → ⊥) → n ≡ k → 2 ^ 64 ≤ m + k
not-below m n k h e = omega (arith, h)

pub returns-in_default-checked_add : goal.returns-in_default-checked_add
returns-in_default-checked_add g c =
    let s = c.loop.invariant.so_far in
    record {
      serves = stops-counting g.A.Asker.answers c.args.plan.now _ _ c.loop.session c.loop.feeder c.loop.place c.loop.total s.0 s.1 s.2 (take c.in-Ok.count c.read.new.buf) (g.R.Read.remaining c.read.new.self) s.3 c.in-Ok.ensures.bytes.0
          (not-below c.loop.total c.in-Ok.count (length (take c.in-Ok.count c.read.new.buf)) c.in_default-checked_add.ensures c.in-Ok.ensures.bound.1);
      gave_up = λ e. cc;
      plan = c.loop.invariant.plan;
    }

pub returns-in_err-answer_all : goal.returns-in_err-answer_all
returns-in_err-answer_all g c =
    let p = err_from_is_err_and c.from_residual.result c.from_residual.ensures.1 in
    record {
      serves = rw (p.1, p.2) (piece-stops g.A.Asker.answers c.args.plan.now _ _ _ c.loop.session c.answer_all.new.session c.loop.feeder c.feed-fed.new.self c.loop.place c.loop.total
          c.loop.invariant.so_far.0 c.loop.invariant.so_far.1 c.loop.invariant.so_far.2 (take c.in-Ok.count c.read.new.buf) c.feed-fed.result.frames.items c.deref.result.now c.feed-fed.result.fault c.in_err-answer_all.field-0.0
          c.loop.invariant.so_far.3 c.feed-fed.ensures.so_far c.in-Ok.ensures.bytes.0 c.deref.ensures.value c.in_err-answer_all.ensures.all);
      gave_up = λ e. c.answer_all.ensures.gave_up (passed-on c.from_residual.result p.0 c.in_err-answer_all.field-0.0 c.answer_all.result p.1 p.2 c.in_err-answer_all.was e);
      plan = c.answer_all.ensures.plan ∙ c.loop.invariant.plan;
    }

pub overflow_sub-result : goal.overflow_sub-result
overflow_sub-result g c =
    let s = c.loop.invariant.so_far in
    omega (arith, some-frame g.A.Asker.answers c.args.plan.now _ _ c.loop.session c.loop.feeder c.loop.place c.loop.total s.0 s.1 s.2 s.3)

pub behind-place-requires-clause-frame : goal.behind-place-requires-clause-frame
behind-place-requires-clause-frame g c =
    let few = few-frames g.A.Asker.answers c.args.plan.now _ _ c.loop.session c.loop.feeder c.feed-fed.new.self c.loop.place c.loop.total
    c.loop.invariant.so_far.0 c.loop.invariant.so_far.1 c.loop.invariant.so_far.2 (take c.in-Ok.count c.read.new.buf) c.feed-fed.result.frames.items c.deref-in-loop.result.now c.feed-fed.result.fault c.loop.invariant.so_far.3 c.feed-fed.ensures.so_far c.deref-in-loop.ensures.value in
    omega (arith, few.0, c.in-Some.ensures.0, c.in-Ok.ensures.bound.1)

pub behind-place-requires-clause-byte : goal.behind-place-requires-clause-byte
behind-place-requires-clause-byte g c =
    let few = few-frames g.A.Asker.answers c.args.plan.now _ _ c.loop.session c.loop.feeder c.feed-fed.new.self c.loop.place c.loop.total
    c.loop.invariant.so_far.0 c.loop.invariant.so_far.1 c.loop.invariant.so_far.2 (take c.in-Ok.count c.read.new.buf) c.feed-fed.result.frames.items c.deref-in-loop.result.now c.feed-fed.result.fault c.loop.invariant.so_far.3 c.feed-fed.ensures.so_far c.deref-in-loop.ensures.value in
    omega (arith, few.1, c.in-Some.ensures.0, c.in-Ok.ensures.bound.1)

pub returns-in-Some-fault : goal.returns-in-Some-fault
returns-in-Some-fault g c =
    record {
      serves = rw c.stop_of.ensures (piece-ends g.A.Asker.answers c.args.plan.now _ _ _ c.loop.session c.answer_all.new.session c.loop.feeder c.feed-fed.new.self c.loop.place c.behind-place.result c.loop.total
          c.loop.invariant.so_far.0 c.loop.invariant.so_far.1 c.loop.invariant.so_far.2 (take c.in-Ok.count c.read.new.buf) c.feed-fed.result.frames.items c.deref.result.now c.feed-fed.result.fault c.in-Some-fault.fault tt
          c.loop.invariant.so_far.3 c.feed-fed.ensures.so_far c.in-Ok.ensures.bytes.0 c.deref.ensures.value c.in_ok-answer_all.ensures.all (c.behind-place.ensures ∙ ap (moved c.loop.place) (c.deref-in-loop.ensures.value ∙ sym c.deref.ensures.value)) c.in-Some-fault.is);
      gave_up = λ e. absurd (stop-goes_on c.in-Some-fault.fault c.behind-place.result c.stop_of.result c.stop_of.ensures e);
      plan = c.answer_all.ensures.plan ∙ c.loop.invariant.plan;
    }

pub loop-preserved : goal.loop-preserved
loop-preserved g c =
    record {
      so_far = piece-stands g.A.Asker.answers c.args.plan.now _ _ _ c.loop.session c.answer_all.new.session c.loop.feeder c.feed-fed.new.self c.loop.place c.behind-place.result c.loop.total c.in-Some.sum
          c.loop.invariant.so_far.0 c.loop.invariant.so_far.1 c.loop.invariant.so_far.2 (take c.in-Ok.count c.read.new.buf) c.feed-fed.result.frames.items c.deref.result.now c.feed-fed.result.fault tt
          c.loop.invariant.so_far.3 c.feed-fed.ensures.so_far c.in-Ok.ensures.bytes.0 c.deref.ensures.value c.in_ok-answer_all.ensures.all (c.behind-place.ensures ∙ ap (moved c.loop.place) (c.deref-in-loop.ensures.value ∙ sym c.deref.ensures.value)) c.in_default-fault.is
          (omega (arith, c.in-Some.ensures.1, c.in-Ok.ensures.bound.1));
      plan = c.answer_all.ensures.plan ∙ c.loop.invariant.plan;
      same_plan = c.answer_all.ensures.same_plan ∙ c.loop.invariant.same_plan;
      room = omega (arith, c.loop.invariant.room, c.read.auto.buf);
    }

pub returns : goal.returns
returns g c =
    record {
      serves = stops-at_limit g.A.Asker.answers c.args.plan.now _ _ c.loop.session c.loop.feeder c.loop.place c.loop.total c.loop.invariant.so_far.0 c.loop.invariant.so_far.1 c.loop.invariant.so_far.2 c.loop.invariant.so_far.3;
      gave_up = λ e. cc;
      plan = c.loop.invariant.plan;
    }
