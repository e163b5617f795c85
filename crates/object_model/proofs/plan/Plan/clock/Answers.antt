use Rattle.std.proofs.Common.{◌==◌, ◌∙◌, ap, refl, sym, arith, get_or, Some}
use Rattle.std.specs.Prelude.{option_map}
use Rattle.std.proofs.lemmas.Option.{slice_get_read}
use Rattle.meter_theory.specs.Plan.{class_of, clock_object}
use Rattle.object_model.proofs.Positions.{first, first-none}
use Rattle.object_model.proofs.plan.Plan.clock.Goals as goal

pub index-requires : goal.index-requires
index-requires c =
    let at = first (λ o. class_of o.part == 8) c.self.inside.objects.items c.in-Some.number (sym c.self.invariant.clocked ∙ c.in-Some.is) in
    omega (arith, at.within, c.from.ensures)

pub returns-in-Some : goal.returns-in-Some
returns-in-Some c =
    let os = c.self.inside.objects.items in
    let at = first (λ o. class_of o.part == 8) os c.in-Some.number (sym c.self.invariant.clocked ∙ c.in-Some.is) in
    ap Some c.name.ensures
    ∙ ap (option_map (λ o. o.name)) (sym (slice_get_read os _ c.in-Some.number c.index.result.now refl at.within (c.index.ensures ∙ ap (λ k. get_or os k c.index.result.now) c.from.ensures)))
    ∙ ap (option_map (λ o. o.name)) (sym at.found)
    ∙ ap (λ P. option_map (λ o. o.name) (clock_object P)) c.self.view_is

pub returns-in-None : goal.returns-in-None
returns-in-None c =
    ap (option_map (λ o. o.name)) (sym (first-none (λ o. class_of o.part == 8) c.self.inside.objects.items (sym c.self.invariant.clocked ∙ c.in-None.is)))
    ∙ ap (λ P. option_map (λ o. o.name) (clock_object P)) c.self.view_is
