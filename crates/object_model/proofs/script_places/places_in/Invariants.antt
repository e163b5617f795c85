use Rattle.std.proofs.Common.{◌≡◌, map, take, Some}
use Rattle.object_model.specs.Tables.{place_of_script}
use Rattle.object_model.proofs.script_places.places_in.Given as goal

abbrev pub invariant-loop-place : goal.invariant-loop-place
invariant-loop-place l = map Some l.places.items ≡ map (place_of_script l.objects) (take l.place l.scripts)
