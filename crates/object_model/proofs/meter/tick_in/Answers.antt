use Rattle.std.proofs.Common.{arith, ◌∙◌, ap, ap₂, sym, flat_map, get_or}
use Rattle.meter_theory.specs.Plan.{clock_time}
use Rattle.meter_theory.specs.Times.{next_second, clock_moment, clock_value}
use Rattle.meter_theory.specs.State.{put, value}
use Rattle.object_model.specs.Stored.{stored_pairs, stores}
use Rattle.object_model.proofs.Positions.{first}
use Rattle.object_model.proofs.Changed.{split, same-name, put-in, value-in}
use Rattle.object_model.proofs.meter.tick_in.Goals as goal

pub index_mut-requires : goal.index_mut-requires
index_mut-requires c = let at = first (stores (clock_time c.args.name)) c.args.objects.now.items c.args.place c.requires.place in omega (arith, at.within)

pub tick-requires : goal.tick-requires
tick-requires c =
    let s = split c.args.objects.now.items (clock_time c.args.name) c.args.place c.index_mut.result.now c.requires.place in
    let name = same-name c.args.objects.now.items (clock_time c.args.name) c.args.place c.index_mut.result.now s c.index_mut.ensures.value in
    ap (λ n. stores (clock_time n) c.index_mut.result.now) name ∙ ap (stores (clock_time c.args.name)) c.index_mut.ensures.value ∙ s.here

pub returns : goal.returns
returns c =
    let x = clock_time c.args.name in
    let ms = c.args.objects.now.items in
    let d = c.index_mut.result.now in
    let s = split ms x c.args.place d c.requires.place in
    let name = same-name ms x c.args.place d s c.index_mut.ensures.value in
    put-in ms x c.args.place d c.tick.new.self (clock_value (next_second (clock_moment (value (flat_map stored_pairs ms) x)))) s
    (c.tick.ensures.put
    ∙ ap₂ (λ m n. put (stored_pairs m) (clock_time n) (clock_value (next_second (clock_moment (value (stored_pairs m) (clock_time n)))))) c.index_mut.ensures.value name
    ∙ ap (λ w. put (stored_pairs (get_or ms c.args.place d)) x (clock_value (next_second (clock_moment w)))) (sym (value-in ms x c.args.place d s)))
