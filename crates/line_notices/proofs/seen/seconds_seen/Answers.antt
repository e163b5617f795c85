use Rattle.std.proofs.Common.{◌≡◌, ℕ, None, arith, sym, subst, ◌∙◌}
use Rattle.meter_core.specs.Moments.{tick_steps}
use Rattle.line_notices.specs.Seen.{first_seen}
use Rattle.line_notices.proofs.Seeing.{no-ticks, ticks-first}
use Rattle.line_notices.proofs.seen.seconds_seen.Goals as goal

pub returns-then-seconds-eq0 : goal.returns-then-seconds-eq0
returns-then-seconds-eq0 c =
    let a = c.args.sight.checked.now in
    let none : c.args.seconds ≡ 0 = omega (arith, c.if-seconds-eq0.true) in
    sym (subst (λ (n : ℕ). first_seen a c.args.sight.client (tick_steps a.plan n) ≡ None) (sym none) (no-ticks a c.args.sight.client a.plan))

pub returns : goal.returns
returns c =
    let a = c.args.sight.checked.now in
    c.seen_behind.ensures ∙ sym (ticks-first a c.args.sight.client a.plan c.args.seconds (omega (arith, c.if-seconds-eq0.false)))
