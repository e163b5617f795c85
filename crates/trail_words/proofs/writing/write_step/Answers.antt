use Rattle.std.proofs.Common.{◌++◌, List, ℕ, [], refl, sym, ◌∙◌}
use Rattle.std.proofs.KnownBytes.{Appends-nil}
use Rattle.std.proofs.lemmas.Result.{err_from_is_err_and}
use Rattle.trail_words.specs.Pieces.{step_text}
use Rattle.trail_words.proofs.writing.write_step.Goals as goal

pub returns-in_err-push_step : goal.returns-in_err-push_step
returns-in_err-push_step g c =
    let p = err_from_is_err_and c.from_residual.result c.from_residual.ensures.1 in
    rw (p.1, p.2) ([], c.args.waiting.now.items ++ step_text c.args.form c.args.is_later c.args.step.now, refl, Appends-nil (g.W.Write.contents c.args.output.now), tt)

pub returns-in_err-write_full : goal.returns-in_err-write_full
returns-in_err-write_full g c =
    let p = err_from_is_err_and c.from_residual-in_err-write_full.result c.from_residual-in_err-write_full.ensures.1 in
    let cut = c.in_err-write_full.ensures.err in
    rw (p.1, p.2) (cut.0, cut.1, sym {A = List ℕ} c.in_ok-push_step.ensures ∙ cut.2, cut.3, cut.4)

pub returns : goal.returns
returns g c =
    let passed = c.in_ok-write_full.ensures.ok in
    (passed.0, sym {A = List ℕ} c.in_ok-push_step.ensures ∙ passed.2, passed.1)
