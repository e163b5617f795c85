use Rattle.std.proofs.Common.{refl}
use Rattle.std.proofs.lemmas.Bool.{false≢true}
use Rattle.class_profile.proofs.Objects.{other_element, one_more_element}
use Rattle.class_profile.proofs.menus.are_capture_objects.Goals as goal

pub returns-then-not-is_capture_object : goal.returns-then-not-is_capture_object
returns-then-not-is_capture_object c = (
  λ none. absurd (false≢true none),
  λ same. absurd (other_element c.args.values.now c.args.cells.now c.loop-i.i c.index-values-i.result _ _ _ c.loop-i-test.true c.if-values-cells.false c.index-values-i.is refl c.is_capture_object.result c.is_capture_object.ensures c.if-not-is_capture_object.true same),
)

pub loop-i-preserved : goal.loop-i-preserved
loop-i-preserved c =
    one_more_element c.args.values.now c.args.cells.now c.loop-i.i c.index-values-i.result _ _ _ c.loop-i-test.true c.if-values-cells.false c.index-values-i.is refl c.is_capture_object.result c.is_capture_object.ensures c.if-not-is_capture_object.false c.loop-i.invariant
