use Rattle.std.proofs.Common.{List, ℕ, length, ap, inl, arith, length-append}
use Rattle.std.proofs.lemmas.Result.{err_from_is_err_and}
use Rattle.line_server.specs.declared.fault.LineFault.TheVariants.{Memory}
use Rattle.line_server.proofs.Taking.{stands-answered, stands-passed, halts-between, halts-at, halts-breaks, split-shorter}
use Rattle.line_server.proofs.lines.take_piece.Goals as goal

pub returns-in_err-part : goal.returns-in_err-part
returns-in_err-part g c =
    let p = err_from_is_err_and c.from_residual.result c.from_residual.ensures.1 in
    λ start before unread bytes turns s.
    let t = c.loop-part.invariant.so_far start before unread bytes turns s in rw (p.1, p.2, c.in_err-part.ensures.err) (halts-between {new = c.loop-part.asker} Memory t.1 tt)

pub returns-in_err-answer_line : goal.returns-in_err-answer_line
returns-in_err-answer_line g c =
    let p = err_from_is_err_and c.from_residual-in_err-answer_line.result c.from_residual-in_err-answer_line.ensures.1 in
    let split = rw c.in-Some.is at c.in_ok-part.ensures.fed in
    λ start before unread bytes turns s.
    let t = c.loop-part.invariant.so_far start before unread bytes turns s in
    rw (p.1, p.2) (halts-at {new = c.answer_line.new.self} {texts = c.answer_line.new.waiting.items} c.in_err-answer_line.field-0.0 t.1 (split.line_is, inl (c.in-Some.behind.now, split.whole)) (rw c.line.ensures at c.in_err-answer_line.ensures.err))

pub loop-part-preserved : goal.loop-part-preserved
loop-part-preserved g c =
    let split = rw c.in-Some.is at c.in_ok-part.ensures.fed in
    let passed = c.in-Ok.ensures.ok in record {
      so_far = λ start before unread bytes turns s.
          let t = c.loop-part.invariant.so_far start before unread bytes turns s in
          let more = stands-answered {texts = c.answer_line.new.waiting.items} t.1 split (rw c.line.ensures at c.in_ok-answer_line.ensures.ok) c.clear.ensures in (more.0, stands-passed {turns = more.0} passed.0 more.1 passed.2 passed.1);
      fits = omega (arith, c.loop-part.invariant.fits, split-shorter split, length-append c.loop-part.run.feeder c.loop-part.rest.now, ap (λ (t : List ℕ). length t) c.clear.ensures);
    }

pub returns-in_default-write_full : goal.returns-in_default-write_full
returns-in_default-write_full g c =
    let split = rw c.in-Some.is at c.in_ok-part.ensures.fed in
    let cut = c.in_default-write_full.ensures.err in
    λ start before unread bytes turns s.
    let t = c.loop-part.invariant.so_far start before unread bytes turns s in
    let more = stands-answered {texts = c.answer_line.new.waiting.items} t.1 split (rw c.line.ensures at c.in_ok-answer_line.ensures.ok) c.clear.ensures in
    (halts-breaks {new = c.answer_line.new.self} {turns = more.0} {none = c.write_full.new.waiting.items} cut.0 cut.1 more.1 c.in_default-write_full.ensures.emptied cut.2 cut.3 cut.4)

pub returns : goal.returns
returns g c =
    let fed = rw c.in_default.is at c.in_ok-part.ensures.fed in
    λ start before unread bytes turns s.
    let t = c.loop-part.invariant.so_far start before unread bytes turns s in (t.0, rw fed.0 t.1, fed.1)
