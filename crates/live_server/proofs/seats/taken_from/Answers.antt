use Rattle.std.proofs.Common.{◌≡◌, ◌+◌, suc, sym, ◌∙◌, ap, arith}
use Rattle.std.proofs.Math.Dec.{leb-zero}
use Rattle.std.specs.Prelude.{nat_le, Some}
use Rattle.live_server.proofs.Freed.{all_taken, free_next}
use Rattle.live_server.proofs.seats.taken_from.Goals as goal

pub loop-seat-init : goal.loop-seat-init
loop-seat-init c = λ seat within. all_taken 64 seat within ∙ ap Some (sym (leb-zero seat))

pub loop-seat-preserved : goal.loop-seat-preserved
loop-seat-preserved c =
    let first = c.loop-seat.seat in
    let next : suc first ≡ first + 1 = omega arith in
    λ seat within. free_next c.loop-seat.is_taken first seat (c.loop-seat.invariant seat within) ∙ ap (λ n. Some (nat_le n seat)) next
