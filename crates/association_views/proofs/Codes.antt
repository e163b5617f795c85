-- The answer of a rule as the code of the last places of a SET.
use Rattle.std.specs.Prelude.{◌≡◌, Bool, true, false, cond, Option, Some, None, Ok, Err, if◌then◌else◌, not}
use Rattle.std.proofs.Common.{refl}
use Rattle.cosem_data.specs.Tree.{Tree}
use Rattle.meter_theory.specs.declared.access.AccessCode.{AccessCode}
use Rattle.meter_theory.specs.declared.access.AccessCode.TheVariants as codes
use Rattle.meter_theory.specs.Value.{Rule, valid_tag, meets}
use Rattle.meter_theory.specs.Rights.{Given, first_place}
use Rattle.cosem_class.specs.Judged.{rule_answer}
use Rattle.association_views.specs.Permits.{named_places, permitted, value_code}

pub rule_permits : (rule : Option Rule) (value : Tree) → rule_answer rule value ≡ permitted (value_code rule (Given value))
rule_permits None value = refl
rule_permits (Some rule) value = at (valid_tag rule value) (meets rule value)
  where
    at : (tag fits : Bool) → (if tag then (if fits then Ok (tt {0}) else Err codes.OtherReason) else Err codes.TypeUnmatched)
        ≡ permitted (if not tag then codes.TypeUnmatched else if not fits then codes.OtherReason else codes.Success)
    at true true = refl
    at true false = refl
    at false fits = refl

-- what passes the first places of a request is in view and of the class
pub named : (seen of_class : Bool) → Ok (tt {0}) ≡ permitted (first_place (named_places seen of_class)) → (seen ≡ true) × (of_class ≡ true)
named true true h = (refl, refl)
named true false h = cc
named false of_class h = cc

-- a SET that passes the places before the value has the code of the value
pub all_passed : {seen of_class has may selected : Bool} {code : AccessCode} → seen ≡ true → of_class ≡ true → has ≡ true → may ≡ true → selected ≡ false
    → code ≡ cond (not seen) codes.ObjectUndefined (cond (not of_class) codes.ObjectClassInconsistent (cond (not has) codes.ObjectUndefined (cond (not may) codes.ReadWriteDenied (cond selected codes.ScopeOfAccessViolated code))))
all_passed a b c d e = cc
