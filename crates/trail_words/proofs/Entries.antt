-- Entries that are read from a file, one behind another.
use Rattle.std.proofs.Common.{◌≡◌, ℕ, zero, suc, List, [], ◌∷◌, ◌++◌, All, true, map, sym, ap, subst, ◌∙◌, append_assoc, arith}
use Rattle.std.proofs.lemmas.List.{append-nil, map-append}
use Rattle.std.proofs.lemmas.List.Elements.{All-append}
use Rattle.trail_file.specs.Text.{Entry, block, is_one_line, recovered}
use Rattle.trail_file.specs.Rest.{IsFront}
use Rattle.trail_file.proofs.Walks.{front_more}
use Rattle.trail_words.specs.Wanting.{HasMoment, entry_of}
use Rattle.trail_words.specs.declared.steps.TrailStep.{TrailStep}

-- a file with one entry more read of it
pub block-read : (file front rest note line after : List ℕ) → file ≡ front ++ rest → rest ≡ 35 ∷ (note ++ 10 ∷ (line ++ 10 ∷ after)) → file ≡ (front ++ block note line) ++ after
block-read file front rest note line after is entry = is ∙ ap (λ (l : List ℕ). front ++ l) entry ∙ sym (simp append_assoc)

-- the entries of one step more
pub step-read : (front : List ℕ) (old new : List TrailStep) (s : TrailStep) → new ≡ old ++ s ∷ [] → IsFront front (map entry_of old) → is_one_line s.note.now ≡ true → is_one_line s.line.now ≡ true
    → IsFront (front ++ block s.note.now s.line.now) (map entry_of new)
step-read front old new s more whole note line =
    subst (λ (es : List Entry). IsFront (front ++ block s.note.now s.line.now) es)
    (sym (ap (map entry_of) more ∙ map-append entry_of old (s ∷ [])))
    (front_more front (map entry_of old) s.note.now s.line.now whole note line)

one-moment : (s : TrailStep) → HasMoment s → All HasMoment (s ∷ [])
one-moment s h zero d less = h
one-moment s h (suc k) d less = absurd (omega arith)

pub moments-read : (old new : List TrailStep) (s : TrailStep) → new ≡ old ++ s ∷ [] → All HasMoment old → HasMoment s → All HasMoment new
moments-read old new s more have has = subst (All HasMoment) (sym more) (All-append HasMoment old (s ∷ []) have (one-moment s has))

-- where nothing is left to read, the entries are those of the file
pub all-read : (file front rest : List ℕ) (entries : List Entry) → file ≡ front ++ rest → IsFront front entries → recovered rest ≡ [] → recovered file ≡ entries
all-read file front rest entries is whole none = ap recovered is ∙ whole rest ∙ ap (λ (es : List Entry). entries ++ es) none ∙ append-nil entries
