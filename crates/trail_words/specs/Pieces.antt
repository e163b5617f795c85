-- How what is printed of a trail is put together, for the clauses of functions that other crates don't see. All of it is own profile.
use Rattle.std.specs.Prelude.{◌≡◌, ◌<◌, ℕ, Bool, true, List, [], ◌∷◌, ◌++◌, codes, length, Option, Result, Ok, Err}
use Rattle.std.specs.Io.KnownBytes.{Appends}
use Rattle.serde_json.specs.Data.{string}
use Rattle.serde_json.specs.Written.{comma_if, compact_text}
use Rattle.trail_file.specs.Versions.{version_text}
use Rattle.trail_file.specs.declared.head.Head.{Head}
use Rattle.trail_words.specs.Json.{step_data}
use Rattle.trail_words.specs.Lines.{digest_text, head_line, step_line}
use Rattle.trail_words.specs.declared.fault.TrailTextFault.{TrailTextFault}
use Rattle.trail_words.specs.declared.fault.TrailTextFault.TheVariants.{NoTrail, Memory, Write, Damaged}
use Rattle.trail_words.specs.declared.form.TrailForm.{TrailForm}
use Rattle.trail_words.specs.declared.form.TrailForm.TheVariants.{Lines, Json}
use Rattle.trail_words.specs.declared.steps.TrailStep.{TrailStep}

-- What is written of a text

-- what a fault leaves of a text: of a write that failed, something
abbrev pub Leaves : TrailTextFault → List ℕ → Type 0
Leaves Write left = 0 < length left
Leaves Memory left = Unit {0}
Leaves NoTrail left = ⊥
Leaves Damaged left = ⊥

-- a text was written, or a beginning of it, behind which a fault stopped it
abbrev pub WritesText : List ℕ → (before after : Option (List ℕ)) → Result (Unit {0}) TrailTextFault → Type 0
WritesText text before after (Ok u) = Appends before after text
WritesText text before after (Err fault) = (front : List ℕ) × (left : List ℕ) × (text ≡ front ++ left) × Appends before after front × Leaves fault left

-- a text came behind one that waits: a front of both was written, and the rest waits now; or a fault stopped it
abbrev pub PassesText : List ℕ → (waited waits : List ℕ) → (before after : Option (List ℕ)) → Result (Unit {0}) TrailTextFault → Type 0
PassesText text waited waits before after (Ok u) = (front : List ℕ) × (waited ++ text ≡ front ++ waits) × Appends before after front
PassesText text waited waits before after (Err fault) = WritesText (waited ++ text) before after (Err fault)

-- The pieces of a text

-- what stands before the steps
abbrev pub front_text : TrailForm → Head → List ℕ
front_text Lines head = head_line head
front_text Json head = codes "{\"configuration\":" ++ compact_text (string (digest_text head)) ++ codes ",\"program\":\"cosem-flow\",\"steps\":["

-- a step, behind others or not
abbrev pub step_text : TrailForm → (is_later : Bool) → TrailStep → List ℕ
step_text Lines is_later s = step_line s
step_text Json is_later s = comma_if is_later ++ compact_text (step_data s)

-- steps, behind others or not
abbrev pub steps_text : TrailForm → (is_later : Bool) → List TrailStep → List ℕ
steps_text form is_later [] = []
steps_text form is_later (s ∷ steps) = step_text form is_later s ++ steps_text form true steps

-- what stands behind the steps
abbrev pub foot_text : TrailForm → Head → List ℕ
foot_text Lines head = []
foot_text Json head = codes "],\"version\":" ++ compact_text (string (version_text head.version)) ++ codes "}\n"
