-- Whether a value may stand in a cell, and why not.
use Rattle.std.specs.Prelude.{◌≡◌, Bool, true, false, ◌&&◌, Option, Some, None, Result, Ok, Err, if◌then◌else◌}
use Rattle.std.proofs.Common.{refl}
use Rattle.cosem_data.specs.Tree.{Tree}
use Rattle.meter_theory.specs.Value.{Rule, valid_tag, valid_content, is_within_limits, meets}
use Rattle.cosem_class.specs.declared.class.ClassFault.{ClassFault}
use Rattle.cosem_class.specs.declared.class.ClassFault.TheVariants as faults
use Rattle.meter_theory.specs.declared.access.AccessCode.{AccessCode}
use Rattle.meter_theory.specs.declared.access.AccessCode.TheVariants as codes

-- Another tag is a fault of the kind, and the right tag with anything else against the rule is one of the rule (own
-- profile).
abbrev pub judged : Rule → Tree → Option ClassFault
judged rule value =
    if valid_tag rule value then (if meets rule value then None else Some faults.Rule) else Some faults.Kind

-- no fault as an answer
abbrev pub answer_of : Option ClassFault → Result (Unit {0}) ClassFault
answer_of None = Ok tt
answer_of (Some fault) = Err fault

-- a value that is judged without fault meets the rule
pub meets_of_judged : (rule : Rule) (value : Tree) → judged rule value ≡ None → meets rule value ≡ true
meets_of_judged rule value h = at (valid_tag rule value) (meets rule value) h
  where
    at : (tag fits : Bool) → (if tag then (if fits then None else Some faults.Rule) else Some faults.Kind) ≡ None → fits ≡ true
    at true true e = refl
    at true false e = cc
    at false fits e = cc

-- and the other way round
pub judged_of_meets : (rule : Rule) (value : Tree) → meets rule value ≡ true → judged rule value ≡ None
judged_of_meets rule value h = at (valid_tag rule value) (is_within_limits value && valid_content rule value) h
  where
    at : (tag rest : Bool) → (tag && rest) ≡ true → (if tag then (if tag && rest then None else Some faults.Rule) else Some faults.Kind) ≡ None
    at true true e = refl
    at true false e = cc
    at false rest e = cc

-- the fault of a write: that of the value where the index is settable, else one of the index
abbrev pub write_fault : Bool → Bool → Option ClassFault → Option ClassFault
write_fault settable named fault =
    if settable then fault else if named then Some faults.NotSettable else Some faults.NoIndex

-- a write that is not refused is of the settable index
pub settable_of_accepted : (settable named : Bool) (fault : Option ClassFault) → write_fault settable named fault ≡ None → settable ≡ true
settable_of_accepted true named fault accepted = refl
settable_of_accepted false true fault accepted = cc
settable_of_accepted false false fault accepted = cc

-- and of a value without fault
pub fault_of_accepted : (settable named : Bool) (fault : Option ClassFault) → write_fault settable named fault ≡ None → fault ≡ None
fault_of_accepted true named fault accepted = accepted
fault_of_accepted false true fault accepted = cc
fault_of_accepted false false fault accepted = cc

-- The code of a value that is put where this rule holds: another tag, and a place without a rule, is type-unmatched, and
-- the right tag against the rest of the rule is other-reason (own profile).
abbrev pub rule_answer : Option Rule → Tree → Result (Unit {0}) AccessCode
rule_answer None value = Err codes.TypeUnmatched
rule_answer (Some rule) value =
    if valid_tag rule value then (if meets rule value then Ok tt else Err codes.OtherReason) else Err codes.TypeUnmatched

-- the code that tells of a class's fault (IEC 62056-5-3, Data-Access-Result)
abbrev pub access_of : ClassFault → AccessCode
access_of faults.Rule = codes.OtherReason
access_of faults.UnknownScript = codes.OtherReason
access_of faults.Memory = codes.TemporaryFailure
access_of _ = codes.TypeUnmatched

-- the answer with a fault's code
abbrev pub coded_answer : Result (Unit {0}) ClassFault → Result (Unit {0}) AccessCode
coded_answer (Ok unit) = Ok tt
coded_answer (Err fault) = Err (access_of fault)

-- a value that is judged has the code of its rule
pub coded_answer-judged : (rule : Rule) (value : Tree) → coded_answer (answer_of (judged rule value)) ≡ rule_answer (Some rule) value
coded_answer-judged rule value = at (valid_tag rule value) (meets rule value)
  where
    at : (tag fits : Bool) → coded_answer (answer_of (if tag then (if fits then None else Some faults.Rule) else Some faults.Kind))
        ≡ (if tag then (if fits then Ok tt else Err codes.OtherReason) else Err codes.TypeUnmatched)
    at true true = refl
    at true false = refl
    at false fits = refl
