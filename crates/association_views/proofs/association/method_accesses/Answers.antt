use Rattle.cosem_data.specs.Tree.{Tree}
use Rattle.std.specs.Prelude.{ℕ, ◌∷◌, [], ◌++◌, map}
use Rattle.std.specs.List.{range_with_len}
use Rattle.std.proofs.Common.{sym, ap, ◌∙◌}
use Rattle.std.proofs.lemmas.List.{map_push}
use Rattle.cosem_data.specs.View.{tree}
use Rattle.cosem_data.specs.Cells.{cell}
use Rattle.meter_theory.specs.Fixed.{method_access}
use Rattle.association_views.proofs.Shapes.{one_more}
use Rattle.association_views.proofs.association.method_accesses.Goals as goal

pub loop-place-preserved : goal.loop-place-preserved
loop-place-preserved c =
    ap (map tree) c.in_ok-push.ensures.items
    ∙ (map_push tree c.loop-place.all.items c.in_ok-method_access.field-0
    ∙ (ap (λ ts. ts ++ tree c.in_ok-method_access.field-0 ∷ []) c.loop-place.invariant
    ∙ (ap (λ t. map access (range_with_len 1 c.loop-place.place) ++ t ∷ []) (c.in_ok-method_access.ensures c.args.interface.class_id)
    ∙ sym (one_more access c.loop-place.place))))
  where
    access : ℕ → Tree
    access k = method_access c.args.instance.now.plan c.args.client (cell c.args.interface.class_id c.args.instance.now.name k)
