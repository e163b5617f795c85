use Rattle.std.proofs.Common.{◌≡◌, ◌++◌, ◌∷◌, [], length, map}
use Rattle.std.proofs.lemmas.Result.{err_from_is_err_and}
use Rattle.std.proofs.lemmas.List.{map_push}
use Rattle.cosem_data.specs.View.{tree}
use Rattle.value_words.specs.WordReading.{parts_at, value_within}
use Rattle.value_words.proofs.Loops.{part_more, part_last, part_stops, part_end_stops, parts_end}
use Rattle.value_words.proofs.reading.+read.Goals as goal

pub parts_of-returns-in_err-part : goal.parts_of-returns-in_err-part
parts_of-returns-in_err-part t c =
    let text = c.args.text.now in
    let value = value_within c.args.depth in
    let p = err_from_is_err_and c.from_residual.result c.from_residual.ensures.1 in
    rw (p.1, p.2) (part_stops value c.in_err-part.field-0.0 (map tree c.loop.parts.items) (length text) c.loop.counter c.loop.rest.now (parts_at value (length text) text) c.loop-test.true c.in_err-part.ensures c.loop.invariant)

pub parts_of-returns-in_err-is_last : goal.parts_of-returns-in_err-is_last
parts_of-returns-in_err-is_last t c =
    let text = c.args.text.now in
    let value = value_within c.args.depth in
    let p = err_from_is_err_and c.from_residual-in_err-is_last.result c.from_residual-in_err-is_last.ensures.1 in
    rw (p.1, p.2) (part_end_stops value c.in_err-is_last.field-0.0 (map tree c.loop.parts.items) (length text) c.loop.counter c.loop.rest.now c.in_ok-part.after.now (tree c.in_ok-part.part) (parts_at value (length text) text) c.loop-test.true c.in_ok-part.ensures c.in_err-is_last.ensures c.loop.invariant)

pub parts_of-returns-then-is_last : goal.parts_of-returns-then-is_last
parts_of-returns-then-is_last t c =
    let text = c.args.text.now in
    let value = value_within c.args.depth in
    let e : map tree c.push.new.self.items ≡ map tree c.loop.parts.items ++ tree c.in_ok-part.part ∷ [] = rw c.in_ok-push.ensures.items (map_push _ c.loop.parts.items c.in_ok-part.part) in
    rw e (part_last value (map tree c.loop.parts.items) (length text) c.loop.counter c.loop.rest.now c.in_ok-part.after.now c.in_ok-is_last.after.now (tree c.in_ok-part.part) c.in_ok-is_last.is_last (parts_at value (length text) text) c.loop-test.true c.in_ok-part.ensures c.in_ok-is_last.ensures c.if-is_last.true c.loop.invariant)

pub parts_of-loop-preserved : goal.parts_of-loop-preserved
parts_of-loop-preserved t c =
    let text = c.args.text.now in
    let value = value_within c.args.depth in
    let e : map tree c.push.new.self.items ≡ map tree c.loop.parts.items ++ tree c.in_ok-part.part ∷ [] = rw c.in_ok-push.ensures.items (map_push _ c.loop.parts.items c.in_ok-part.part) in
    rw e (part_more value (map tree c.loop.parts.items) (length text) c.loop.counter c.loop.rest.now c.in_ok-part.after.now c.in_ok-is_last.after.now (tree c.in_ok-part.part) c.in_ok-is_last.is_last (parts_at value (length text) text) c.loop-test.true c.in_ok-part.ensures c.in_ok-is_last.ensures c.if-is_last.false c.loop.invariant)

pub parts_of-returns : goal.parts_of-returns
parts_of-returns t c =
    let text = c.args.text.now in
    let value = value_within c.args.depth in
    rw c.stop_at.ensures (parts_end value (map tree c.loop.parts.items) (length text) c.loop.counter c.loop.rest.now (parts_at value (length text) text) c.loop-test.false c.loop.invariant)
