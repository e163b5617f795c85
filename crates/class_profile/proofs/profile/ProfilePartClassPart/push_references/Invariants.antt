use Rattle.std.proofs.Common.{◌≡◌, map, take, ◌++◌}
use Rattle.std.specs.List.{flat_map}
use Rattle.class_profile.proofs.profile.ProfilePartClassPart.push_references.Given as goal

abbrev pub invariant-loop-captured : goal.invariant-loop-captured
invariant-loop-captured l =
    l.names.items ≡ l.initial.names.items ++ map (λ x. x.name) (flat_map (λ xs. xs) (map (λ cells. cells.items) (take l.captured-index l.captured-items)))
