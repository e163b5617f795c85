use Rattle.std.proofs.Common.{◌≡◌, ℕ, ◌+◌, ◌<◌, List, ◌++◌, arith, flat_map, get_or, length, take}
use Rattle.std.proofs.lemmas.Grind.{common_steps}
use Rattle.shown_text.specs.Pieces.{Fact, facts, rendered}
use Rattle.flow_page.specs.Page.{Says}
use Rattle.flow_page.proofs.page_text.push_parts.Goals as goal

-- one part more
says_more : {X : Type 0} (f : X → List Fact) (xs : List X) (i : ℕ) (d : X) (start was now : List ℕ) →
    i < length xs → Says (flat_map f (take i xs)) start was → Says (f (get_or xs i d)) was now →
    Says (flat_map f (take (i + 1) xs)) start now
says_more f xs i d start was now less before one =
    let says : facts (before.0 ++ one.0) ≡ flat_map f (take (i + 1) xs) = grind (arith, common_steps, before.1, one.1) in
    let is : now ≡ start ++ rendered (before.0 ++ one.0) = grind (arith, common_steps, before.2, one.2) in
    (before.0 ++ one.0, says, is)

pub loop-part-preserved : goal.loop-part-preserved
loop-part-preserved c = says_more _ _ _ _ _ _ _ c.loop-part-test.true c.loop-part.invariant c.in_ok-push_part.ensures
