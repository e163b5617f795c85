-- The tables of indexes by class are those of the interfaces.
use Rattle.std.proofs.Common.{◌≡◌, ℕ, Bool, true, List, [], ◌∷◌, refl, sym, ◌∙◌}
use Rattle.std.specs.List.{list_all}
use Rattle.std.proofs.lemmas.Bool.{and_parts, and_from}
use Rattle.meter_theory.specs.Classes.{is_up_to, has_attribute, has_method}
use Rattle.meter_theory.specs.Plan.{Part, class_of, interface_of}
use Rattle.meter_theory.specs.Sound.{are_indexes, highest_method}
use Rattle.meter_theory.proofs.ClassTable.{attributes_are, methods_are}

attribute_of : (part : Part) (index : ℕ) → has_attribute (class_of part) index ≡ true → is_up_to (interface_of part).attributes index ≡ true
attribute_of part index h = sym (attributes_are part index) ∙ h

pub method_of : (part : Part) (index : ℕ) → has_method (class_of part) index ≡ true → is_up_to (highest_method part) index ≡ true
method_of part index h = sym (methods_are part index) ∙ h

-- a list whose elements pass one test passes another that this implies
pub implied : {A : Type 0} (test other : A → Bool) → ((x : A) → test x ≡ true → other x ≡ true) → (xs : List A) → list_all test xs ≡ true → list_all other xs ≡ true
implied test other does [] h = refl
implied test other does (x ∷ xs) h =
    let parts = and_parts (test x) (list_all test xs) h in
    and_from (other x) (list_all other xs) (does x parts.0) (implied test other does xs parts.1)

pub attributes_of : (part : Part) (indexes : List ℕ) → list_all (has_attribute (class_of part)) indexes ≡ true →
    are_indexes (interface_of part).attributes indexes ≡ true
attributes_of part = implied (has_attribute (class_of part)) (is_up_to (interface_of part).attributes) (attribute_of part)

pub methods_of : (part : Part) (indexes : List ℕ) → list_all (has_method (class_of part)) indexes ≡ true → are_indexes (highest_method part) indexes ≡ true
methods_of part = implied (has_method (class_of part)) (is_up_to (highest_method part)) (method_of part)
