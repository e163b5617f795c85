use Rattle.std.proofs.Common.{sym, ◌∙◌}
use Rattle.std.proofs.lemmas.Result.{err_from_is_err_and}
use Rattle.trail_words.proofs.Printed.{all-printed, cut-damaged, is-trail, memory-begun, no-head, write-begun}
use Rattle.trail_words.proofs.writing.write_trail.Goals as goal

pub returns-in_default-clause-no_trail : goal.returns-in_default-clause-no_trail
returns-in_default-clause-no_trail g c = λ h.
    no-head c.args.file.now c.in_ok-entries.entries.steps.items c.deref.result.now c.in_ok-entries.ensures.entries c.deref.ensures.value c.in_default.ensures

pub returns-in_err-write_steps-clause-write : goal.returns-in_err-write_steps-clause-write
returns-in_err-write_steps-clause-write g c = λ h.
    let p = err_from_is_err_and c.from_residual-in_err-write_steps.result c.from_residual-in_err-write_steps.ensures.1 in
    let trail = is-trail c.args.file.now c.in_ok-entries.entries.steps.items c.deref.result.now c.in-Some.steps.now c.in-Some.head c.in_ok-entries.ensures.entries c.in_ok-entries.ensures.moments c.deref.ensures.value c.in-Some.ensures in
    write-begun c.args.form c.args.wanted.now c.args.file.now c.in-Some.head c.in-Some.steps.now trail (g.W.Write.contents c.args.output.now) (g.W.Write.contents c.write_steps.new.output)
    c.in_err-write_steps.field-0.0 c.in_err-write_steps.ensures (cc (p.1, p.2, h))

pub returns-in_err-write_steps-clause-memory : goal.returns-in_err-write_steps-clause-memory
returns-in_err-write_steps-clause-memory g c = λ h.
    let trail = is-trail c.args.file.now c.in_ok-entries.entries.steps.items c.deref.result.now c.in-Some.steps.now c.in-Some.head c.in_ok-entries.ensures.entries c.in_ok-entries.ensures.moments c.deref.ensures.value c.in-Some.ensures in
    memory-begun c.args.form c.args.wanted.now c.args.file.now c.in-Some.head c.in-Some.steps.now trail (g.W.Write.contents c.args.output.now) (g.W.Write.contents c.write_steps.new.output)
    c.in_err-write_steps.field-0.0 c.in_err-write_steps.ensures

pub returns-then-is_cut-clause-printed : goal.returns-then-is_cut-clause-printed
returns-then-is_cut-clause-printed g c = λ h.
    let trail = is-trail c.args.file.now c.in_ok-entries.entries.steps.items c.deref.result.now c.in-Some.steps.now c.in-Some.head c.in_ok-entries.ensures.entries c.in_ok-entries.ensures.moments c.deref.ensures.value c.in-Some.ensures in
    all-printed c.args.form c.args.wanted.now c.args.file.now c.in-Some.head c.in-Some.steps.now trail (g.W.Write.contents c.args.output.now) (g.W.Write.contents c.write_steps.new.output) c.in_ok-write_steps.ensures

pub returns-clause-ok : goal.returns-clause-ok
returns-clause-ok g c =
    let trail = is-trail c.args.file.now c.in_ok-entries.entries.steps.items c.deref.result.now c.in-Some.steps.now c.in-Some.head c.in_ok-entries.ensures.entries c.in_ok-entries.ensures.moments c.deref.ensures.value c.in-Some.ensures in
    all-printed c.args.form c.args.wanted.now c.args.file.now c.in-Some.head c.in-Some.steps.now trail (g.W.Write.contents c.args.output.now) (g.W.Write.contents c.write_steps.new.output) c.in_ok-write_steps.ensures

pub returns-then-is_cut-clause-damaged : goal.returns-then-is_cut-clause-damaged
returns-then-is_cut-clause-damaged g c = λ h. cut-damaged c.args.file.now c.in_ok-entries.entries.rest.now c.in_ok-entries.ensures.rest (sym c.is_cut.ensures ∙ c.if-is_cut.true)

pub returns-clause-whole : goal.returns-clause-whole
returns-clause-whole g c = (c.in_ok-entries.entries.rest.now, c.in_ok-entries.ensures.rest, sym c.is_cut.ensures ∙ c.if-is_cut.false)
