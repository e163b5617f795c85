use Rattle.std.proofs.Common.{◌∙◌, ap, map}
use Rattle.cosem_data.specs.View.{tree}
use Rattle.meter_theory.specs.Selection.{places_between}
use Rattle.meter_theory.specs.Times.{parts_of}
use Rattle.meter_theory.specs.Value.{structure_of}
use Rattle.class_profile.proofs.Places.{map-places_between}
use Rattle.class_profile.proofs.entries.columns_of.Goals as goal

pub returns : goal.returns
returns c =
    let parts = parts_of (tree c.args.row.now) in
    ap (λ values. structure_of (map tree values)) c.places_between.ensures
    ∙ ap structure_of (map-places_between tree c.from.result c.from-2.result c.parts_of.result.now)
    ∙ ap (λ values. structure_of (places_between c.from.result c.from-2.result values)) c.parts_of.ensures
    ∙ ap (λ from. structure_of (places_between from c.from-2.result parts)) c.from.ensures
    ∙ ap (λ to. structure_of (places_between c.args.places.0 to parts)) c.from-2.ensures
