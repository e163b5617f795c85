-- The entries of a trail's file, read one after another.
use Rattle.std.proofs.Common.{◌≡◌, ◌∙◌, ℕ, ◌+◌, ◌<◌, List, [], ◌∷◌, ◌++◌, Err, Result, ap, append_assoc, arith, drop, false, get_or, length, map, refl, subst, sym, take, true}
use Rattle.std.proofs.lemmas.List.{length-map, length-take-le, map-append, take-append-drop, take_more}
use Rattle.std.proofs.lemmas.List.Elements.{All-push}
use Rattle.meter_theory.specs.Plan.{Plan}
use Rattle.meter_theory.specs.Steps.{Step}
use Rattle.trail_file.specs.Text.{Entry, entry_of}
use Rattle.trail_file.specs.declared.entry.Entry as held
use Rattle.line_server.specs.Answering.{Take, steps_of}
use Rattle.step_keeping.specs.Keeping.{ticks}
use Rattle.trail_lines.specs.Reading.{says, trail_line_of, trail_tasks}
use Rattle.trail_lines.specs.declared.line.TrailLine.TheVariants.{MoveClock}
use Rattle.trail_store.specs.Past.{AreKeptLines, IsFirstUnkept, is_kept_line}
use Rattle.trail_store.specs.Stored.{steps_in}
use Rattle.trail_store.specs.declared.past.PastFault.{PastFault}
use Rattle.trail_store.specs.declared.past.PastFault.TheVariants.{Unreadable}
use Rattle.trail_store.proofs.Kept.{steps-more, steps-of-one}

-- the entries up to one more
one-more : (entries : List held.Entry) (i : ℕ) (e : held.Entry) → i < length entries → e ≡ get_or entries i e →
    map entry_of (take (i + 1) entries) ≡ map entry_of (take i entries) ++ entry_of e ∷ []
one-more entries i e within is =
    ap (map entry_of) (take_more entries i e within ∙ ap (λ x. take i entries ++ x ∷ []) (sym is)) ∙ map-append entry_of (take i entries) (e ∷ [])

module _ (P : Plan) (entries : List held.Entry) (i : ℕ) (e : held.Entry) (within : i < length entries) (is : e ≡ get_or entries i e) where
  pub steps-put : (before after : List Step) → before ≡ steps_in P (map entry_of (take i entries)) → after ≡ before ++ says P e.line.items →
      after ≡ steps_in P (map entry_of (take (i + 1) entries))
  steps-put before after so_far put =
      put ∙ ap (λ ss. ss ++ says P e.line.items) so_far
      ∙ ap (λ ss. steps_in P (map entry_of (take i entries)) ++ ss) (sym (steps-of-one P e.note.items e.line.items))
      ∙ sym (steps-more P (map entry_of (take i entries)) (entry_of e ∷ []))
      ∙ ap (steps_in P) (sym (one-more entries i e within is))

  pub each-put : AreKeptLines P (map entry_of (take i entries)) → is_kept_line P e.line.items ≡ true → AreKeptLines P (map entry_of (take (i + 1) entries))
  each-put so_far kept =
      subst (AreKeptLines P) (sym (one-more entries i e within is))
      (All-push (λ (x : Entry). is_kept_line P x.1 ≡ true) (map entry_of (take i entries)) (entry_of e) so_far kept)

  pub first-unkept : AreKeptLines P (map entry_of (take i entries)) → is_kept_line P e.line.items ≡ false → IsFirstUnkept P (map entry_of entries) (i + 1)
  first-unkept so_far unkept = record {
    front = map entry_of (take i entries);
    entry = entry_of e;
    behind = map entry_of (drop (i + 1) entries);
    whole =
        ap (map entry_of) (sym (take-append-drop (i + 1) entries)) ∙ map-append entry_of (take (i + 1) entries) (drop (i + 1) entries)
        ∙ ap (λ es. es ++ map entry_of (drop (i + 1) entries)) (one-more entries i e within is)
        ∙ append_assoc (map entry_of (take i entries)) (entry_of e ∷ []) (map entry_of (drop (i + 1) entries));
    kept = so_far;
    unkept = unkept;
    number_is = ap (λ n. n + 1) (sym (length-map (take i entries) entry_of ∙ length-take-le i entries (omega (arith, within))));
  }

taken : (steps : List Step) → steps_of (map Take steps) ≡ steps
taken [] = refl
taken (step ∷ steps) = ap (λ ss. step ∷ ss) (taken steps)

-- what a line says of seconds
pub seconds-said : (P : Plan) (line : List ℕ) (n : ℕ) → trail_line_of P line ≡ MoveClock n → says P line ≡ ticks n
seconds-said P line n is = ap (λ l. steps_of (trail_tasks P l)) is ∙ taken (ticks n)

pub same-number : {A : Type 0} (m n : ℕ) → ◌≡◌ {A = Result A PastFault} (Err (Unreadable m)) (Err (Unreadable n)) → m ≡ n
same-number m n e = cc
