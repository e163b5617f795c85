use Rattle.std.proofs.Common.{[]}
use Rattle.object_model.proofs.Scripted.{table-at}
use Rattle.object_model.proofs.script_places.places_in.Goals as goal

pub place_of-requires-clause-table : goal.place_of-requires-clause-table
place_of-requires-clause-table c =
    table-at c.args.objects.now c.args.scripts.now c.args.tables.now c.loop-place.place (record { table = record { 0 = [] }; script = 0 }) 0 c.requires.tables c.loop-place-test.true
