-- What is told of a line, case by case.
use Rattle.std.proofs.Common.{◌≡◌, ℕ, ◌==◌, true, false, List, [], ◌∷◌, ◌++◌, length, Result, Ok, Err, refl, arith, eqb-true}
use Rattle.std.specs.Prelude.{codes, is_ok}
use Rattle.std.specs.Result.{result_unwrap_or}
use Rattle.std.proofs.lemmas.Bool.{false≢true}
use Rattle.line_words.specs.Lines.{cut}
use Rattle.line_words.specs.Telling.{answered_words, answered_text, line_text, or_nothing, told_with}

pub none_answered : (words : List ℕ) → (length words == 0) ≡ true → answered_words words ≡ []
none_answered [] h = refl
none_answered (c ∷ words) h = let e = eqb-true (length (c ∷ words)) 0 h in absurd (omega (arith, e))

pub some_answered : (words : List ℕ) → (length words == 0) ≡ false → answered_words words ≡ cut (codes "  answered " ++ words)
some_answered [] h = cc
some_answered (c ∷ words) h = refl

pub none_changed : (lines : List ℕ) → (length lines == 0) ≡ true → or_nothing lines ≡ codes "  nothing changed\n"
unfolding or_nothing
none_changed [] h = refl
none_changed (c ∷ lines) h = let e = eqb-true (length (c ∷ lines)) 0 h in absurd (omega (arith, e))

pub some_changed : (lines : List ℕ) → (length lines == 0) ≡ false → or_nothing lines ≡ lines
unfolding or_nothing
some_changed [] h = cc
some_changed (c ∷ lines) h = refl

pub told_words : {E : Type 0} (number : ℕ) (step : Result (List ℕ) E) (reply changes : List ℕ) → is_ok step ≡ true →
    told_with number step reply changes ≡ line_text number (result_unwrap_or step []) ++ (answered_text reply ++ or_nothing changes)
unfolding told_with
told_words number (Ok words) reply changes h = refl
told_words number (Err e) reply changes h = absurd (false≢true h)

pub told_nothing : {E : Type 0} (number : ℕ) (step : Result (List ℕ) E) (reply changes : List ℕ) → is_ok step ≡ false → told_with number step reply changes ≡ []
unfolding told_with
told_nothing number (Ok words) reply changes h = cc
told_nothing number (Err e) reply changes h = refl
