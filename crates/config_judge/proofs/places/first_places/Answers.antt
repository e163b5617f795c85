use Rattle.std.proofs.Common.{◌≡◌, ◌+◌, ◌-◌, ◌<◌, length, arith}
use Rattle.std.proofs.lemmas.Map.Text.{btree_map_updates_str}
use Rattle.config_judge.proofs.FirstPlace.{first_places_more}
use Rattle.config_judge.proofs.places.first_places.Goals as goal

pub loop-i-preserved : goal.loop-i-preserved
loop-i-preserved g c = λ q.
    let i = c.loop-i.i - 1 in
    let some = c.loop-i-test.true in
    let most = c.loop-i.auto.i in
    let within : i < length c.args.parts.now = omega (arith, some, most) in
    let step : i + 1 ≡ c.loop-i.i = omega (arith, some) in
    let put = btree_map_updates_str c.name.result.now c.loop-i.places c.insert.new.self _ c.in_ok-insert.ensures.updates q in
    first_places_more g.P.Named.name_of c.args.parts.now i c.loop-i.i c.index-parts-i.result c.name.result.now q _ _ within c.index-parts-i.is c.name.ensures step put (c.loop-i.invariant q)
