use Rattle.std.proofs.Common.{◌≡◌, ℕ, zero, suc, ◌*◌, ◌^◌, ◌<◌, ◌≤◌, arith, min, ⊎_elim, ap, sym, ◌∙◌}
use Rattle.std.proofs.lemmas.Bool.{cases_lt}
use Rattle.peer_watch.specs.Waits as waits
use Rattle.peer_watch.proofs.rules.wait_behind.Goals as goal

-- what exceeds 8,000 may be anything above
saturated : (penalty power : ℕ) → min (min (penalty * min power 4_294_967_295) 4_294_967_295) 8_000 ≡ min (penalty * power) 8_000
saturated zero power = omega arith
saturated (suc penalty) power = ⊎_elim
    (λ (small : power < 4_294_967_295). let same : min power 4_294_967_295 ≡ power = omega arith in rw same (omega arith))
    (λ (large : 4_294_967_295 ≤ power). let most : min power 4_294_967_295 ≡ 4_294_967_295 = omega arith in rw most (omega arith))
    (cases_lt power 4_294_967_295)

wait_is : (penalty before refusals : ℕ) → refusals ≡ suc before → min (penalty * 2 ^ before) 8_000 ≡ waits.wait_behind penalty refusals
wait_is penalty before refusals e = ap (waits.wait_behind penalty) (sym e)

pub returns-in-Some : goal.returns-in-Some
returns-in-Some c =
    let one : c.args.refusals ≡ suc c.in-Some.before = omega (arith, c.in-Some.ensures) in
    rw (c.min.ensures, c.saturating_mul.ensures, c.saturating_pow.ensures) (saturated c.args.penalty (2 ^ c.in-Some.before) ∙ wait_is c.args.penalty c.in-Some.before c.args.refusals one)
