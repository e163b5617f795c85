use Rattle.std.proofs.Common.{◌≡◌, ◌∙◌, ◌++◌, ◌∷◌, [], ap, arith}
use Rattle.std.specs.Prelude.{replicate}
use Rattle.std.proofs.lemmas.List.{append_assoc, replicate_more}
use Rattle.object_model.proofs.plan.push_times.Goals as goal

pub loop-preserved : goal.loop-preserved
loop-preserved c =
    let old = c.args.numbers.now.items in
    c.in_ok-push.ensures.items
    ∙ ap (λ ns. ns ++ c.args.number ∷ []) c.loop.invariant
    ∙ append_assoc old (replicate c.loop.counter c.args.number) (c.args.number ∷ [])
    ∙ ap (λ ns. old ++ ns) (replicate_more c.loop.counter c.args.number)

pub returns : goal.returns
returns c =
    let whole : c.loop.counter ≡ c.args.times = omega (arith, c.loop-test.false, c.loop.auto.counter-end) in
    c.loop.invariant ∙ ap (λ n. c.args.numbers.now.items ++ replicate n c.args.number) whole
