use Rattle.std.proofs.Common.{◌+◌, arith, sym, ap, subst, ◌∙◌}
use Rattle.object_model.specs.Index.{IsIndexOf}
use Rattle.object_model.proofs.Searches.{grows, stays}
use Rattle.object_model.proofs.index.numbers_of.Goals as goal
use Rattle.object_model.proofs.index.numbers_of.Goals.{in-Err+in_ok-insert-in-Err, in-Ok}

pub loop-number-preserved : goal.loop-number-preserved
loop-number-preserved c =
    elim c.match-place.branch [
      | in-Ok w ↦
          (let at = rw (w.in-Ok.is, c.deref.ensures.value) at c.search-place.ensures.found in
          subst (λ numbers. IsIndexOf c.args.names.now numbers (c.loop-number.number + 1)) (sym (ap (λ v. v.items) w.numbers-is))
          (stays c.args.names.now c.loop-number.numbers.items c.loop-number.number w.in-Ok.field-0 c.loop-number.invariant at.0 at.1))
      | in-Err+in_ok-insert-in-Err w ↦
          (let at = rw (w.in-Err.is, c.deref.ensures.value) at c.search-place.ensures.absent in
          subst (λ numbers. IsIndexOf c.args.names.now numbers (c.loop-number.number + 1)) (sym (ap (λ v. v.items) w.numbers-is ∙ w.in_ok-insert-in-Err.ensures.items))
          (grows c.args.names.now c.loop-number.numbers.items c.loop-number.number w.in-Err.place c.loop-number.invariant
          c.loop-number-test.true (omega (arith, c.loop-number-test.true, c.requires)) at.0 at.1 at.2))
    ]
