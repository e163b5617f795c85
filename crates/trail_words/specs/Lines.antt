-- The steps of a trail, each in a line. All of it is own profile.
use Rattle.std.specs.Prelude.{ℕ, Bool, List, [], ◌∷◌, ◌++◌, codes, Option, None, Some, is_some}
use Rattle.std.specs.Result.{result_unwrap_or}
use Rattle.hex.specs.Hex.{encode_lower}
use Rattle.shown_text.specs.Printable.{printable}
use Rattle.step_words.specs.StepLines.{decoded_step}
use Rattle.trail_file.specs.Versions.{version_text}
use Rattle.trail_file.specs.declared.head.Head.{Head}
use Rattle.trail_words.specs.Notes.{moment_in, result_in, taker_in, unspaced}
use Rattle.trail_words.specs.declared.steps.TrailStep.{TrailStep}

-- the step of a line in words; a line that is no step line stands as it is
abbrev pub words_of : (line : List ℕ) → List ℕ
words_of line = result_unwrap_or (decoded_step line) line

-- the same as a terminal shows it
abbrev pub line_words : (line : List ℕ) → List ℕ
line_words line = printable (words_of line)

-- the moment as the note tells it, or - where none is known
abbrev pub moment_words : (moment : Option (List ℕ)) → List ℕ
moment_words None = codes "-"
moment_words (Some moment) = printable moment

-- when a step was taken and by whom; a note of another form stands whole
abbrev pub told_by : (note : List ℕ) → (tells_moment : Bool) → (taker : Option (List ℕ)) → List ℕ
told_by note tells_moment None = printable (unspaced note)
told_by note tells_moment (Some taker) = moment_words (moment_in note tells_moment) ++ 32 ∷ printable taker

abbrev pub told_words : TrailStep → List ℕ
told_words s = told_by s.note.now (is_some s.seconds) (taker_in s.note.now (is_some s.seconds))

-- an arrow and the result, if one is told
abbrev pub result_words : Option (List ℕ) → List ℕ
result_words None = []
result_words (Some result) = codes " -> " ++ printable result

-- `MOMENT WHO: STEP -> RESULT`
abbrev pub step_line : TrailStep → List ℕ
step_line s =
    told_words s
    ++ codes ": "
    ++ line_words s.line.now
    ++ result_words (result_in s.note.now (is_some s.seconds))
    ++ codes "\n"

-- the digest of the configuration, in lower case
abbrev pub digest_text : Head → List ℕ
digest_text head = encode_lower head.digest

-- `# cosem-flow VERSION, configuration DIGEST`
abbrev pub head_line : Head → List ℕ
head_line head = codes "# cosem-flow " ++ (version_text head.version ++ (codes ", configuration " ++ (digest_text head ++ codes "\n")))
