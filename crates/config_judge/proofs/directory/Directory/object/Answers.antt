use Rattle.std.proofs.Common.{◌≡◌, ◌∙◌, option_map, ap}
use Rattle.std.specs.Prelude.{option_and_then}
use Rattle.std.specs.List.{slice_get}
use Rattle.std.specs.Str.{bytes_eq}
use Rattle.config_judge.proofs.FirstPlace.{find_by_place, read_at}
use Rattle.config_judge.proofs.directory.Directory.object.Goals as goal

pub returns-in_err-place : goal.returns-in_err-place
returns-in_err-place c =
    let objects = c.args.self.now.config.now.objects in
    ap (option_map (λ o. o.now)) c.from_residual.ensures
    ∙ (ap (option_and_then (λ i. slice_get objects i)) c.in_err-place.ensures ∙ find_by_place (λ o. bytes_eq o.name c.args.name.now) objects)

pub returns : goal.returns
returns c =
    let objects = c.args.self.now.config.now.objects in
    let same : c.deref.result.now ≡ objects = c.deref.ensures.value ∙ ap (λ config. config.objects) c.config.view_is in
    let lookup = c.get.ensures.lookup in
    read_at c.get.result c.deref.result.now c.in_ok-place.place lookup.0 lookup.1
    ∙ (ap (λ all. slice_get all c.in_ok-place.place) same
    ∙ (ap (option_and_then (λ i. slice_get objects i)) c.in_ok-place.ensures ∙ find_by_place (λ o. bytes_eq o.name c.args.name.now) objects))
