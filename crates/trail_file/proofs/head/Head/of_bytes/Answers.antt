use Rattle.std.proofs.Common.{◌≡◌, ◌==◌, ℕ, true, List, [], ◌∷◌, ◌++◌, length, sym, ◌∙◌, ap}
use Rattle.std.proofs.lemmas.Bool.{true≢false}
use Rattle.trail_file.specs.Text.{Entry, is_one_line}
use Rattle.trail_file.specs.Heads.{IsHead, head_entry, head_line, head_note, head_text}
use Rattle.trail_file.specs.declared.head.Head.{Head}
use Rattle.trail_file.proofs.Heads.{head_recovered, line_one_line, note_one_line}
use Rattle.trail_file.proofs.Lacking.{same_parts, tail_of}
use Rattle.trail_file.proofs.head.Head.of_bytes.Goals as goal

record Parts (note line rest : List ℕ) (h : Head) : Type 0 where
  note_is : note ≡ head_note h
  line_is : line ≡ head_line h
  rest_is : rest ≡ []

parts : (text note line rest : List ℕ) (h : Head) → IsHead h → text ≡ head_text h → text ≡ 35 ∷ (note ++ 10 ∷ (line ++ 10 ∷ rest)) → is_one_line note ≡ true → is_one_line line ≡ true → Parts note line rest h
parts text note line rest h is text_is split one two =
    let behind = tail_of 35 35 (note ++ 10 ∷ (line ++ 10 ∷ rest)) (head_note h ++ 10 ∷ (head_line h ++ 10 ∷ [])) (sym split ∙ text_is) in
    let first = same_parts 10 note (line ++ 10 ∷ rest) (head_note h) (head_line h ++ 10 ∷ []) behind one (note_one_line h is) in
    let second = same_parts 10 line rest (head_line h) [] first.1 two (line_one_line h) in
    record { note_is = first.0; line_is = second.0; rest_is = second.1 }

something : (e : Entry) → (e ∷ []) ≡ [] → ⊥
something e same = cc

pub returns-in_err-note-clause-exact : goal.returns-in_err-note-clause-exact
returns-in_err-note-clause-exact c h is text_is =
    absurd (something (head_entry h) (sym (head_recovered c.args.text.now h is text_is) ∙ c.in_err-note.ensures))

pub returns-then-not-is_empty-clause-exact : goal.returns-then-not-is_empty-clause-exact
returns-then-not-is_empty-clause-exact c h is text_is =
    let it = c.in_ok-note.ensures in
    let all = parts c.args.text.now c.in_ok-note.note.now c.in_ok-note.line.now c.in_ok-note.rest.now h is text_is it.0 it.1 it.2 in
    absurd (true≢false (ap (λ (l : List ℕ). length l == 0) (sym all.rest_is) ∙ sym c.is_empty.ensures ∙ c.if-not-is_empty.true))

pub returns-clause-exact : goal.returns-clause-exact
returns-clause-exact c h is text_is =
    let it = c.in_ok-note.ensures in
    let all = parts c.args.text.now c.in_ok-note.note.now c.in_ok-note.line.now c.in_ok-note.rest.now h is text_is it.0 it.1 it.2 in
    c.of_entry.ensures.exact h is all.note_is all.line_is
