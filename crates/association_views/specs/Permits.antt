-- A code as a permit, and the code of a value.
use Rattle.std.specs.Prelude.{not, [], ◌∷◌, Bool, List, Option, Result, Ok, Err}
use Rattle.meter_theory.specs.declared.access.AccessCode.{AccessCode}
use Rattle.meter_theory.specs.declared.access.AccessCode.TheVariants.{Success, ObjectUndefined, ObjectClassInconsistent, TypeUnmatched, OtherReason}
use Rattle.meter_theory.specs.Value.{Rule}
use Rattle.meter_theory.specs.Rights.{Argument, first_place, has_valid_tag, meets_rule}

-- a request is permitted where its code is success, and else refused with its code
abbrev pub permitted : AccessCode → Result (Unit {0}) AccessCode
permitted Success = Ok tt
permitted code = Err code

-- the code of a SET whose places before the value are passed
abbrev pub value_code : Option Rule → Argument → AccessCode
value_code rule v = first_place ((not (has_valid_tag rule v), TypeUnmatched) ∷ (not (meets_rule rule v), OtherReason) ∷ [])

-- the places that each request has first: whether the name is in the client's view, and whether the class of what stands there is the one that is named
abbrev pub named_places : Bool → Bool → List (Bool × AccessCode)
named_places seen of_class = (not seen, ObjectUndefined) ∷ (not of_class, ObjectClassInconsistent) ∷ []
