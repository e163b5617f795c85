-- Which steps of a trail are wanted. All of it is own profile.
use Rattle.std.specs.Prelude.{◌≡◌, ℕ, pos, Bool, true, false, ◌&&◌, int_le, List, [], ◌∷◌, All, map, Option, None, Some, option_map, if◌then◌else◌}
use Rattle.std.specs.Str.{bytes_eq}
use Rattle.utc_moment.specs.Moments.{seconds_of}
use Rattle.utc_moment.specs.declared.moment.UtcMoment.{UtcMoment}
use Rattle.trail_file.specs.Heads.{IsHead, head_entry}
use Rattle.trail_file.specs.Text.{Entry, recovered}
use Rattle.trail_file.specs.declared.head.Head.{Head}
use Rattle.trail_words.specs.Notes.{IsMomentOf, first_word}
use Rattle.trail_words.specs.declared.steps.TrailStep.{TrailStep}
use Rattle.trail_words.specs.declared.wanted.Wanted.{Wanted}

-- The steps of a trail

-- the entry of a step
abbrev pub entry_of : TrailStep → Entry
entry_of s = (s.note.now, s.line.now)

-- its moment is the one that its note tells
abbrev pub HasMoment : TrailStep → Type 0
HasMoment s = IsMomentOf s.note.now s.seconds

-- the first of entries is this head, and these stand behind it
pub record IsHeaded (entries : List TrailStep) (head : Head) (steps : List TrailStep) : Type 0 where
  pub is_head : IsHead head
  pub first : TrailStep
  pub is : entries ≡ first ∷ steps
  pub tells_head : entry_of first ≡ head_entry head

-- a trail's file begins with this head, and has these steps behind it
pub record IsTrail (file : List ℕ) (head : Head) (steps : List TrailStep) : Type 0 where
  pub is_head : IsHead head
  pub entries : recovered file ≡ head_entry head ∷ map entry_of steps
  pub moments : All HasMoment steps

-- Which of them

-- whether a moment isn't before another, by its seconds; where none is told, what else is so
abbrev pub is_from : (since : UtcMoment) → (seconds : Option ℕ) → (else_is : Bool) → Bool
is_from since None else_is = else_is
is_from since (Some seconds) else_is = int_le (seconds_of since) (pos seconds)

-- the first of these steps that tells a moment tells one that isn't before this one
abbrev pub is_since : UtcMoment → List TrailStep → Bool
is_since since [] = false
is_since since (s ∷ steps) = is_from since s.seconds (is_since since steps)

-- the first of these steps isn't too old: a step that tells no moment is as old as the next that tells one
abbrev pub is_new : Option UtcMoment → List TrailStep → Bool
is_new None steps = true
is_new (Some since) steps = is_since since steps

-- the line's first word is the name of the client that is wanted
abbrev pub is_by : (client : Option (List ℕ)) → (line : List ℕ) → Bool
is_by None line = true
is_by (Some name) line = bytes_eq (first_word line) name

-- the name of the client that is wanted, if one alone is
abbrev pub client_wanted : Wanted → Option (List ℕ)
client_wanted w = option_map (λ name. name.now) w.client

-- the steps that are wanted, in their order
abbrev pub wanted_of : Wanted → List TrailStep → List TrailStep
wanted_of w [] = []
wanted_of w (s ∷ steps) =
    if is_new w.since (s ∷ steps) && is_by (client_wanted w) s.line.now then s ∷ wanted_of w steps
    else wanted_of w steps
