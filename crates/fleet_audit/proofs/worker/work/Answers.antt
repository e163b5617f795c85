use Rattle.std.proofs.Common.{◌≡◌, ◌+◌, ◌∷◌, [], drop, subst, sym, ap, ◌∙◌, append_assoc, append-nil}
use Rattle.fleet_audit.specs.Audits.{Audits}
use Rattle.fleet_audit.specs.Turns.{every}
use Rattle.fleet_audit.proofs.Dealt.{every-drop, every-from, every-past}
use Rattle.fleet_audit.proofs.worker.work.Goals as goal

pub loop-text-init : goal.loop-text-init
loop-text-init g c = λ rest h.
    rw c.in-Ok.ensures.items (subst (λ texts. Audits texts rest) (sym (every-drop c.args.workers c.args.first c.args.texts.now)) h)

pub loop-text-preserved : goal.loop-text-preserved
loop-text-preserved g c = λ rest h.
    let found = c.in-Some.ensures.lookup in
    let here : every c.args.workers 0 (drop c.loop-text.seat c.args.texts.now) ≡ c.in-Some.text.now ∷ every c.args.workers 0 (drop (c.loop-text.seat + c.args.workers) c.args.texts.now) =
    every-from c.args.workers c.loop-text.seat c.args.texts.now c.in-Some.text.now c.requires.some found.3.0
    ∙ ap (λ text. text ∷ every c.args.workers 0 (drop (c.loop-text.seat + c.args.workers) c.args.texts.now)) (sym found.1) in
    let now : Audits (every c.args.workers 0 (drop c.loop-text.seat c.args.texts.now)) (c.judge-verdict.result ∷ rest) = rw here (c.judge-verdict.ensures, h) in
    rw (c.in-Ok-push.ensures.items, append_assoc) (c.loop-text.invariant (c.judge-verdict.result ∷ rest) now)

pub returns : goal.returns
returns g c =
    let none : every c.args.workers 0 (drop c.loop-text.seat c.args.texts.now) ≡ [] = every-past c.args.workers c.loop-text.seat c.args.texts.now c.in_default-get.ensures.lookup.3 in
    subst (λ verdicts. Audits (every c.args.workers c.args.first c.args.texts.now) verdicts) (append-nil c.loop-text.verdicts.items) (c.loop-text.invariant [] (rw none tt))
