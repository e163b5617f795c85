use Rattle.std.proofs.Common.{◌∙◌, ◌++◌, ◌∷◌, [], ap, map, arith}
use Rattle.flow_map.proofs.Ranges.{map-next}
use Rattle.flow_picture.specs.Arrows.{place_of}
use Rattle.flow_picture.proofs.Kept.{places-are}
use Rattle.flow_picture.proofs.drawing.arrows.places_of.Goals as goal

pub loop-number-preserved : goal.loop-number-preserved
loop-number-preserved c =
    map-next (place_of (map (λ cells. cells.items) c.args.boxes.now)) c.loop-number.number _ _ c.loop-number.invariant
    (c.in_ok-push.ensures.items ∙ ap (λ o. c.loop-number.places.items ++ o ∷ []) c.place_of.ensures)

pub returns : goal.returns
returns c =
    places-are c.args.count c.loop-number.number (map (λ cells. cells.items) c.args.boxes.now) c.loop-number.places.items c.requires
    (omega (arith, c.loop-number-test.false, c.loop-number.auto.number-end)) c.loop-number.invariant
