use Rattle.std.proofs.Common.{◌∷◌, ◌∙◌, ap, arith, drop, length-drop, sym, List, ℕ}
use Rattle.trail_file.proofs.Walks.{counts_more, rest_is}
use Rattle.trail_file.proofs.reading.count_behind.Goals as goal

pub counted-init : goal.counted-init
counted-init c =
    let bytes = c.args.bytes.now in
    let found = c.in-Some.ensures in
    let is = ap (λ (l : List ℕ). 35 ∷ l) (sym (rest_is 1 bytes) ∙ found.0) in
    let one = counts_more (35 ∷ drop 1 bytes) c.in-Some.field-0-0.now c.in-Some.field-0-1.now c.in-Some.rest.now is found.1 found.2 in
    record { counted = one.more; few = omega (arith, one.short, c.in-len1-up.len_at_least, length-drop 1 bytes) }

pub counted-preserved : goal.counted-preserved
counted-preserved c =
    let found = c.in-Some-first_entry.ensures in
    let one = counts_more c.counted.rest.now c.in-Some-first_entry.field-0-0.now c.in-Some-first_entry.field-0-1.now c.in-Some-first_entry.after.now found.0 found.1 found.2 in
    record { counted = omega (arith, c.counted.invariant.counted, one.more); few = omega (arith, c.counted.invariant.few, one.short) }
