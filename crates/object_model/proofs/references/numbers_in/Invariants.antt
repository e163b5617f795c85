use Rattle.std.proofs.Common.{◌≡◌, map, take, Some}
use Rattle.std.specs.Prelude.{IfSome}
use Rattle.object_model.specs.Grants.{place_in}
use Rattle.object_model.proofs.references.numbers_in.Given as goal

-- the numbers so far, and that of the name before
abbrev pub invariant-loop-name : goal.invariant-loop-name
invariant-loop-name l = record {
  numbers : map Some l.numbers.items ≡ map (place_in l.index) (take l.name-index l.names);
  before : IfSome l.before (λ b. place_in l.index b.0 ≡ Some b.1);
}
