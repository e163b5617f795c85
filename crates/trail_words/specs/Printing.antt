-- What is printed of a trail's file. All of it is own profile.
use Rattle.std.specs.Prelude.{◌≡◌, ◌≢◌, ◌⊎◌, ◌≤◌, ◌==◌, ℕ, Bool, false, List, [], ◌∷◌, ◌++◌, flat_map, length, Option}
use Rattle.std.specs.Io.KnownBytes.{Appends}
use Rattle.trail_file.specs.Heads.{IsHead, head_entry}
use Rattle.trail_file.specs.Rest.{IsFront}
use Rattle.trail_file.specs.Text.{Entry, recovered}
use Rattle.trail_file.specs.declared.head.Head.{Head}
use Rattle.trail_words.specs.Json.{trail_json}
use Rattle.trail_words.specs.Lines.{head_line, step_line}
use Rattle.trail_words.specs.Wanting.{IsTrail, wanted_of}
use Rattle.trail_words.specs.declared.form.TrailForm.{TrailForm}
use Rattle.trail_words.specs.declared.form.TrailForm.TheVariants.{Lines, Json}
use Rattle.trail_words.specs.declared.steps.TrailStep.{TrailStep}
use Rattle.trail_words.specs.declared.wanted.Wanted.{Wanted}

-- what is printed of a head and of steps
abbrev pub trail_text : TrailForm → Head → List TrailStep → List ℕ
trail_text Lines head steps = head_line head ++ flat_map step_line steps
trail_text Json head steps = trail_json head steps

-- a text is what is printed of the wanted steps of a trail's file
pub record IsTextOfTrail (form : TrailForm) (wanted : Wanted) (file : List ℕ) (text : List ℕ) : Type 0 where
  pub head : Head
  pub steps : List TrailStep
  pub is_trail : IsTrail file head steps
  pub text_is : text ≡ trail_text form head (wanted_of wanted steps)

-- all of it was written
abbrev pub IsPrinted : TrailForm → Wanted → (file : List ℕ) → (before after : Option (List ℕ)) → Type 0
IsPrinted form wanted file before after = (text : List ℕ) × IsTextOfTrail form wanted file text × Appends before after text

-- a beginning of it was written, and this much at least is left
abbrev pub IsBegun : TrailForm → Wanted → (file : List ℕ) → (at_least : ℕ) → (before after : Option (List ℕ)) → Type 0
IsBegun form wanted file at_least before after =
    (front : List ℕ) × (left : List ℕ) × IsTextOfTrail form wanted file (front ++ left) × Appends before after front × (at_least ≤ length left)

-- the same, or nothing at all
abbrev pub IsBegunOrNone : TrailForm → Wanted → (file : List ℕ) → (before after : Option (List ℕ)) → Type 0
IsBegunOrNone form wanted file before after = Appends before after [] ⊎ IsBegun form wanted file 0 before after

-- no head is the first of these entries
abbrev pub HasNoHead : List Entry → Type 0
HasNoHead entries = (head : Head) → (others : List Entry) → IsHead head → entries ≢ head_entry head ∷ others

-- an open latch, 35, and something behind it
abbrev pub is_cut : List ℕ → Bool
is_cut (latch ∷ next ∷ tail) = latch == 35
is_cut behind = false

-- what stands behind the whole entries of a file
pub record IsRest (file : List ℕ) (rest : List ℕ) : Type 0 where
  pub front : List ℕ
  pub is : file ≡ front ++ rest
  pub whole : IsFront front (recovered file)
  pub none : recovered rest ≡ []

-- behind its whole entries a file has no beginning of another that counts
abbrev pub EndsWhole : (file : List ℕ) → Type 0
EndsWhole file = (rest : List ℕ) × IsRest file rest × (is_cut rest ≡ false)
