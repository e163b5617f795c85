-- What follows from the grammar of steps in words.
use Rattle.std.specs.Prelude.{◌≡◌, ℕ, List, Ok}
use Rattle.step_words.specs.Texts.{encoded, decoded}

-- what is made of steps in words is made into the same words again, so that each step has one form in words (own profile)
abbrev pub EncodedIsDecoded : Type 0
EncodedIsDecoded = (text made : List ℕ) → encoded text ≡ Ok made → decoded made ≡ Ok text
