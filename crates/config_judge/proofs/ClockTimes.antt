-- What a clock may be set to, and the text of the moment at which it starts.
use Rattle.std.proofs.Common.{◌≡◌, Bool, true, false, is_some, is_ok, Result, Ok, Err, refl, sym}
use Rattle.std.specs.Result.{result_ok}
use Rattle.cosem_data.specs.Tree.{Tree}
use Rattle.meter_theory.specs.Times.{Moment}
use Rattle.meter_theory.specs.Value.{ClockTime, meets}
use Rattle.cosem_class.specs.Judged.{meets_of_judged, judged_of_meets}
use Rattle.cosem_class.specs.declared.class.ClassFault.{ClassFault}
use Rattle.class_control.specs.ClockClass.{IsJudged}

-- a value in which the judge of a clock finds no fault is one that meets the rule
pub judged_time : (v : Tree) (r : Result Moment ClassFault) → IsJudged v r → is_ok r ≡ meets ClockTime v
judged_time v (Ok t) h = sym (meets_of_judged ClockTime v h.0)
judged_time v (Err fault) h = at (meets ClockTime v) refl
  where
    at : (b : Bool) → meets ClockTime v ≡ b → false ≡ b
    at true e = let none = judged_of_meets ClockTime v e in absurd cc
    at false e = refl

-- what was read is there
pub read_there : {A E : Type 0} (r : Result A E) → is_ok r ≡ is_some (result_ok r)
read_there (Ok x) = refl
read_there (Err fault) = refl
