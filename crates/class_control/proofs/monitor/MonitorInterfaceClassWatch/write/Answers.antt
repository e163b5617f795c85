use Rattle.std.proofs.Common.{◌≡◌, ℕ, length, subst, arith, Err}
use Rattle.std.specs.Prelude.{◌==◌, ◌||◌}
use Rattle.std.proofs.lemmas.Bool.{eq-eqb}
use Rattle.std.proofs.lemmas.Result.{err_from_is_err_and}
use Rattle.cosem_data.specs.View.{tree}
use Rattle.meter_theory.specs.Value.{Thresholds}
use Rattle.cosem_class.specs.Judged.{judged, answer_of}
use Rattle.class_control.proofs.Refused.{refused_as_judged}
use Rattle.class_control.proofs.monitor.MonitorInterfaceClassWatch.write.Goals as goal

pub returns-in_err-judge_thresholds-in-2-clause-refused : goal.returns-in_err-judge_thresholds-in-2-clause-refused
returns-in_err-judge_thresholds-in-2-clause-refused c =
    let p = err_from_is_err_and c.from_residual.result c.from_residual.ensures.1 in
    let actions = c.args.watch.part.now.actions.items in
    let number : c.len.result ≡ length actions = omega arith in
    let P : ℕ → Type 0 = λ n. Err c.in_err-judge_thresholds-in-2.field-0.0 ≡ answer_of (judged (Thresholds n c.args.watch.kind) (tree c.args.value)) in
    rw (p.1, p.2) (refused_as_judged (Thresholds (length actions) c.args.watch.kind) (tree c.args.value) c.in_err-judge_thresholds-in-2.field-0.0 (c.args.index == 2) ((c.args.index == 1) || ((c.args.index == 3) || (c.args.index == 4))) (eq-eqb c.args.index 2 c.in-2.is) (subst P number c.in_err-judge_thresholds-in-2.ensures))
