use Rattle.std.proofs.Common.{◌≡◌, ℕ, List, drop}
use Rattle.std.specs.BTreeMap as tree
use Rattle.std.specs.Cmp.Lexicographic.{slice_cmp}
use Rattle.std.specs.List.{position_from}
use Rattle.std.specs.Ordering.{nat_cmp}
use Rattle.std.specs.Str.{bytes_eq}
use Rattle.config_judge.proofs.places.first_places.Given as goal

-- the names from here on have their first places
abbrev pub invariant-loop-i : goal.invariant-loop-i
invariant-loop-i g l = (q : List ℕ) →
    tree.get_by (λ k. slice_cmp nat_cmp q k.now) l.places ≡ position_from (λ p. bytes_eq (g.P.Named.name_of p) q) l.i (drop l.i l.parts)
