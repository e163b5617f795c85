-- The words of what clients may do with cells. Texts are lists of bytes. All of it is own profile.
use Rattle.std.specs.Prelude.{ℕ, List, codes}
use Rattle.meter_theory.specs.declared.flow.Access.{Access}
use Rattle.meter_theory.specs.declared.flow.Access.TheVariants as accesses
use Rattle.meter_theory.specs.declared.flow.Reach.{Reach}
use Rattle.meter_theory.specs.declared.flow.Reach.TheVariants.{Influence, Learn}

abbrev pub reach_word : Reach → List ℕ
reach_word Influence = codes "influence"
reach_word Learn = codes "learn"

abbrev pub access_word : Access → List ℕ
access_word accesses.Get = codes "get"
access_word accesses.Set = codes "set"
access_word accesses.Act = codes "act"
