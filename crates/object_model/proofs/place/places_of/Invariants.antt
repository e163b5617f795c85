use Rattle.object_model.proofs.Places.{ArePlaced}
use Rattle.object_model.proofs.place.places_of.Given as goal

abbrev pub invariant-loop-object : goal.invariant-loop-object
invariant-loop-object l = ArePlaced l.objects l.places.items l.next l.object-index
