use Rattle.std.proofs.Common.{◌≡◌, map, take, Some}
use Rattle.meter_theory.specs.Sound.{scripts_run_by}
use Rattle.object_model.specs.Tables.{place_of_script}
use Rattle.object_model.proofs.script_places.ScriptPlaces.new.Given as goal

abbrev pub invariant-loop-number : goal.invariant-loop-number
invariant-loop-number l =
    map (map Some) (map (λ places. places.items) l.places.items) ≡ map (λ o. map (place_of_script l.objects) (scripts_run_by o.part)) (take l.number l.objects)
