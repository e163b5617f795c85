use Rattle.std.proofs.lemmas.Result.{err_from_is_err_and}
use Rattle.cosem_axdr.proofs.Fronts.{begins, begins_with_none, length_behind}
use Rattle.cosem_axdr.proofs.FirstFaults.{is_first_fault}
use Rattle.cosem_axdr.proofs.reading.read_data.Goals as goal

pub returns-in_err-value-clause-only : goal.returns-in_err-value-clause-only
returns-in_err-value-clause-only c = λ t front rest is nested whole.
    let p = err_from_is_err_and c.from_residual.result c.from_residual.ensures.1 in
    rw (p.1, p.2) (c.in_err-value.ensures.only t rest (begins c.args.bytes.now t front rest is nested whole))

pub returns-clause-only : goal.returns-clause-only
returns-clause-only c = λ t front rest is nested whole.
    let h = c.in_ok-value.ensures.only t rest (begins c.args.bytes.now t front rest is nested whole) in
    (h.0, length_behind c.args.bytes.now front rest c.in_ok-value.rest.now whole h.1)

pub returns-in_err-value-clause-none : goal.returns-in_err-value-clause-none
returns-in_err-value-clause-none c =
    let p = err_from_is_err_and c.from_residual.result c.from_residual.ensures.1 in
    rw (p.1, p.2) (begins_with_none c.args.bytes.now c.in_err-value.field-0.0 c.in_err-value.ensures.exact)

pub returns-in_err-value-clause-first : goal.returns-in_err-value-clause-first
returns-in_err-value-clause-first c =
    let p = err_from_is_err_and c.from_residual.result c.from_residual.ensures.1 in
    rw (p.1, p.2) (is_first_fault c.args.bytes.now c.in_err-value.field-0.0 c.in_err-value.ensures.exact)
