-- What is told of a step line: what it asked, what was answered and what changed (own profile). Texts are lists of bytes.
use Rattle.std.specs.Prelude.{ℕ, List, [], ◌∷◌, ◌++◌, codes, Result, Ok, Err}
use Rattle.std.specs.Fmt.{decimal}
use Rattle.std.specs.Result.{result_unwrap_or}
use Rattle.meter_theory.specs.State.{State}
use Rattle.step_words.specs.Texts.{decoded}
use Rattle.line_words.specs.Changes.{change_lines}
use Rattle.line_words.specs.Lines.{cut}

-- `line N: ` and the words of the line (own profile)
unfoldable pub line_text : ℕ → List ℕ → List ℕ
line_text number words = cut (codes "line " ++ (decimal number ++ (codes ": " ++ (words ++ 10 ∷ []))))

-- `  answered ` and these words, with the newline that ends them; nothing where there are none (own profile)
abbrev pub answered_words : List ℕ → List ℕ
answered_words [] = []
answered_words (c ∷ words) = cut (codes "  answered " ++ c ∷ words)

-- the same of the text that was written for the line (own profile)
unfoldable pub answered_text : List ℕ → List ℕ
answered_text reply = answered_words (result_unwrap_or (decoded reply) [])

-- these lines, or `  nothing changed` where there are none (own profile)
unfoldable pub or_nothing : List ℕ → List ℕ
or_nothing [] = codes "  nothing changed\n"
or_nothing (c ∷ lines) = c ∷ lines

-- what is told of a line that has words, by its number, its words, the text that was written for it and the lines of what changed; nothing of any other line (own profile)
unfoldable pub told_with : {E : Type 0} → ℕ → Result (List ℕ) E → List ℕ → List ℕ → List ℕ
told_with number (Ok words) reply changes = line_text number words ++ (answered_text reply ++ or_nothing changes)
told_with number (Err e) reply changes = []

-- the same by the states before and after the line (own profile)
unfoldable pub told_text : {E : Type 0} → ℕ → Result (List ℕ) E → List ℕ → State → State → List ℕ
told_text number words reply before after = told_with number words reply (change_lines before after)
