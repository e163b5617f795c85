use Rattle.std.proofs.Common.{◌≡◌, ◌∙◌, ap, sym, arith, length, map, flat_map, Some}
use Rattle.class_profile.specs.PartView.{captures_of_part}
use Rattle.object_model.specs.Grants.{place_in}
use Rattle.object_model.proofs.Columns.{numbers-all, numbers-first}
use Rattle.object_model.proofs.menus.configured_columns.Goals as goal

pub returns-clause-numbers : goal.returns-clause-numbers
returns-clause-numbers c =
    let P = c.args.profile.now.plan in
    let captured = captures_of_part c.args.part.now in
    let size : c.len.result ≡ length c.args.part.now.captured.items = omega arith in
    ap (map Some) c.split_at.ensures.front
    ∙ numbers-first P captured.configured (flat_map (λ xs. xs) captured.menu) c.references.result.now
    (numbers-all P c.args.profile.now.name c.args.part.now c.references.result.now c.requires c.references.ensures) c.len.result size
    ∙ ap (λ cells. map (place_in (map (λ o. o.name) P.objects)) (map (λ x. x.name) cells)) (sym c.deref.ensures.value)
