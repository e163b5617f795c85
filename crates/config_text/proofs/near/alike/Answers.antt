use Rattle.std.proofs.Common.{◌≡◌, ◌∙◌, ◌∷◌, [], ap, arith, drop, List, refl, ℕ}
use Rattle.std.proofs.lemmas.List.{drop_all}
use Rattle.config_text.specs.Near as spec
use Rattle.config_text.proofs.near.alike.Goals as goal

-- nothing is alike at the end of the other text
none-alike : (one : List ℕ) → spec.alike one [] ≡ 0
none-alike [] = refl
none-alike (x ∷ one) = refl

pub returns-else-count-other-clause-alike : goal.returns-else-count-other-clause-alike
returns-else-count-other-clause-alike c =
    let one = drop c.loop-count.count c.args.one.now in
    let none = ap (spec.alike one) (drop_all c.loop-count.count c.args.other.now c.if-count-other.false) ∙ none-alike one in
    omega (arith, c.loop-count.invariant.alike, none)
