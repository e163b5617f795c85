-- The parts of a text.
use Rattle.std.proofs.Common.{◌≡◌, ℕ, ◌+◌, ◌<◌, Bool, true, false, cond, ltb, eqb, List, [], ◌∷◌, length, take, drop, refl, ap, ◌∙◌, arith, Some, None}
use Rattle.std.specs.Prelude.{position}
use Rattle.std.specs.List.{slice_split, position_or_len}
use Rattle.std.proofs.lemmas.Bool.{ltb-true, ltb-false}
use Rattle.std.proofs.lemmas.List.Sums.{fails_before_first}
use Rattle.std.proofs.lemmas.List.Splits.{slice_split_none, slice_split_first, length-slice_split}
use Rattle.std.proofs.lemmas.Option.{cond_some}
use Rattle.label_certificate.specs.LabelLine.{parts, three}

-- the first part ends at the first separator
pub parts-first : (separator : ℕ) (text : List ℕ) (k : ℕ) → position (λ b. eqb b separator) text ≡ Some k → parts separator text ≡ take k text ∷ parts separator (drop (k + 1) text)
parts-first separator text k e =
    let p = λ (b : ℕ). eqb b separator in
    let at : (ltb (position_or_len p text) (length text) ≡ true) × (position_or_len p text ≡ k) = cond_some (ltb (position_or_len p text) (length text)) (position_or_len p text) k e in
    slice_split_first p text 0 (ltb-true (position_or_len p text) (length text) at.0)
    ∙ ap (λ n. take n text ∷ slice_split p (drop (n + 1) text)) at.1

-- without a separator there is one part
pub parts-none : (separator : ℕ) (text : List ℕ) → position (λ b. eqb b separator) text ≡ None → parts separator text ≡ text ∷ []
parts-none separator text e = at (ltb (position_or_len p text) (length text)) refl e
  where
    p : ℕ → Bool
    p b = eqb b separator

    at : (b : Bool) → ltb (position_or_len p text) (length text) ≡ b → cond b (Some (position_or_len p text)) None ≡ None → slice_split p text ≡ text ∷ []
    at true less h = cc
    at false more h = slice_split_none p text (λ k d l. fails_before_first p text k d (omega (arith, ltb-false (position_or_len p text) (length text) more, l)))

-- there is a part
pub parts-some : (separator : ℕ) (text : List ℕ) → 0 < length (parts separator text)
parts-some separator text = omega (arith, length-slice_split (λ b. eqb b separator) text)

-- more than three parts are not three
pub three-more : (a b c : List ℕ) (more : List (List ℕ)) → 0 < length more → three (a ∷ b ∷ c ∷ more) ≡ None
three-more a b c [] h = absurd (omega arith)
three-more a b c (d ∷ more) h = refl
