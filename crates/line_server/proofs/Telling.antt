-- What is written for lines, over whatever answers them.
use Rattle.std.proofs.Common.{◌≡◌, ℕ, ◌+◌, ◌<◌, List, [], ◌∷◌, ◌++◌, length, Result, Ok, Err, sym, ap, subst, ◌∙◌, append-nil, inl, inr, arith, length-append, All}
use Rattle.std.proofs.lemmas.List.Elements.{All-head, All-tail}
use Rattle.std.proofs.lemmas.List.{length-map}
use Rattle.std.specs.Io.KnownBytes.{Appends}
use Rattle.meter_theory.specs.Plan.{Plan}
use Rattle.line_server.specs.declared.reason.Reason.{Reason}
use Rattle.line_server.specs.declared.fault.LineFault.{LineFault}
use Rattle.line_server.specs.declared.fault.LineFault.TheVariants.{Read, Write, Line, Memory}
use Rattle.line_server.specs.Spelling.{unreadable_text}
use Rattle.line_server.specs.Lines.{Answering, Stopping, Moment, StandsWhole, Turn, lines_of, texts_of, Leads, Hears, StopsBy, Ends, IsTextFor, Breaks, AnswersAll}
use Rattle.line_server.specs.Running.{IsReadable, Telling, Heard, StopsTelling, RunsTelling}
use Rattle.line_server.specs.Running as running
use Rattle.line_server.specs.LineMeter.{StopsOver}
use Rattle.line_server.proofs.Taking.{Leads-push, lines-push, texts-push}

-- what is true of all is true of the last
last-of : {X : Type 0} (P : X → Type 0) (xs : List X) (x : X) → All P (xs ++ x ∷ []) → P x
last-of P [] x a = All-head P x [] a
last-of P (y ∷ ys) x a = last-of P ys x (All-tail P y (ys ++ x ∷ []) a)

-- from this start on, whatever answers lines of a plan writes this for them
pub record IsTelling {A : Type 0} (answers : Answering A) (stops : Stopping A) (start : A) (plan : Plan) (telling : Telling) : Type 0 where
  pub texts : (turns : List Turn) (now : A) → Leads answers start 0 turns now → texts_of turns ≡ telling (lines_of turns)
  pub readable : (turns : List Turn) (now : A) → Leads answers start 0 turns now → All (IsReadable plan) (lines_of turns)
  pub faults : (turns : List Turn) (now : A) (number : ℕ) (line text : List ℕ) (fault : LineFault) → Leads answers start 0 turns now → stops now number line text fault
      → StopsOver plan number line text fault

module _ {A : Type 0} (answers : Answering A) (stops : Stopping A) (start : A) (plan : Plan) (telling : Telling) (tells : IsTelling answers stops start plan telling) where
  -- one line more was answered
  pushed : (turns : List Turn) (now next : A) (line text : List ℕ) → Leads answers start 0 turns now → answers now (length turns + 1) line text next
      → Leads answers start 0 (turns ++ record { line = line; text = text } ∷ []) next
  pushed turns now next line text l a = Leads-push answers start now next 0 (length turns + 1) turns (record { line = line; text = text }) l a (omega arith)

  more-told : (turns : List Turn) (now next : A) (line text : List ℕ) → Leads answers start 0 turns now → answers now (length turns + 1) line text next
      → telling (lines_of turns ++ line ∷ []) ≡ texts_of turns ++ text
  more-told turns now next line text l a =
      let turn : Turn = record { line = line; text = text } in
      ap telling (sym (lines-push turns turn)) ∙ sym (tells.texts (turns ++ turn ∷ []) next (pushed turns now next line text l a)) ∙ texts-push turns turn

  more-readable : (turns : List Turn) (now next : A) (line text : List ℕ) → Leads answers start 0 turns now → answers now (length turns + 1) line text next → IsReadable plan line
  more-readable turns now next line text l a =
      let turn : Turn = record { line = line; text = text } in
      last-of (IsReadable plan) (lines_of turns) line
      (subst (All (IsReadable plan)) (lines-push turns turn) (tells.readable (turns ++ turn ∷ []) next (pushed turns now next line text l a)))

  heard : (before after : Moment) (now : A) (turns : List Turn) (rest text out : List ℕ) → Hears answers start now before.unread after.unread turns rest
      → Appends before.written after.written text → text ≡ out → Heard plan before after (lines_of turns) rest out
  heard before after now turns rest text out h a e = record {
    each = h.each;
    readable = tells.readable turns now h.led;
    read = h.read;
    wrote = subst (Appends before.written after.written) e a;
  }

  -- what is written for a line behind turns is what it adds, or that it is unreadable
  text-for : (turns : List Turn) (now : A) (line text : List ℕ) → Leads answers start 0 turns now → 0 < length text
      → IsTextFor answers stops now (length turns + 1) line text → running.IsTextFor plan telling (lines_of turns) line text
  text-for turns now line text l some (inl answered) =
      inl (more-told turns now answered.0 line text l answered.1 ∙ ap (λ (t : List ℕ). t ++ text) (tells.texts turns now l))
  text-for turns now line text l some (inr (fault, s)) = by fault (tells.faults turns now (length turns + 1) line text fault l s)
    where
      by : (fault : LineFault) → StopsOver plan (length turns + 1) line text fault → running.IsTextFor plan telling (lines_of turns) line text
      by Read s = absurd s
      by Write s = absurd s
      by (Line n why) s = inr (why, s.0, s.2 ∙ ap (λ (k : ℕ). unreadable_text (k + 1)) (sym (length-map turns (λ (t : Turn). t.line))))
      by Memory s = absurd (omega (arith, some, ap (λ (t : List ℕ). length t) s))

  -- the texts of turns, where nothing follows them
  texts-alone : (turns : List Turn) (now : A) (tail text : List ℕ) → Leads answers start 0 turns now → text ≡ texts_of turns ++ tail → tail ≡ [] → text ≡ telling (lines_of turns)
  texts-alone turns now tail text l t none = t ∙ ap (λ (u : List ℕ). texts_of turns ++ u) none ∙ append-nil (texts_of turns) ∙ tells.texts turns now l

  ends-line : (before after : Moment) (turns : List Turn) (rest : List ℕ) (now : A) (tail text line : List ℕ) (n : ℕ) (why : Reason)
      → Hears answers start now before.unread after.unread turns rest → text ≡ texts_of turns ++ tail → StandsWhole after.unread line rest
      → StopsOver plan (length turns + 1) line tail (Line n why) → Appends before.written after.written text → StopsTelling plan telling before after (Line n why)
  ends-line before after turns rest now tail text line n why h t stands (bad, number, is) a = (
    lines_of turns,
    rest,
    line,
    heard before after now turns rest text (telling (lines_of turns) ++ unreadable_text n) h a
        (t ∙ ap (λ (u : List ℕ). texts_of turns ++ u) (is ∙ ap unreadable_text (sym number)) ∙ ap (λ (u : List ℕ). u ++ unreadable_text n) (tells.texts turns now h.led)),
    stands,
    bad,
    number ∙ ap (λ (k : ℕ). k + 1) (sym (length-map turns (λ (u : Turn). u.line))),
  )

  stopped : (before after : Moment) (turns : List Turn) (rest : List ℕ) (now : A) (tail text : List ℕ) (fault : LineFault)
      → Hears answers start now before.unread after.unread turns rest → text ≡ texts_of turns ++ tail → StopsBy stops now after.unread turns rest tail fault
      → Appends before.written after.written text → StopsTelling plan telling before after fault
  stopped before after turns rest now tail text Read h t (inl s) a =
      (lines_of turns, rest, heard before after now turns rest text (telling (lines_of turns)) h a (texts-alone turns now tail text h.led t s.1), s.0)
  stopped before after turns rest now tail text Read h t (inr s) a = absurd (tells.faults turns now (length turns + 1) s.0 tail Read h.led s.2)
  stopped before after turns rest now tail text Write h t (inl s) a = absurd s.0
  stopped before after turns rest now tail text Write h t (inr s) a = absurd (tells.faults turns now (length turns + 1) s.0 tail Write h.led s.2)
  stopped before after turns rest now tail text (Line n why) h t (inl s) a = absurd s.0
  stopped before after turns rest now tail text (Line n why) h t (inr s) a =
      ends-line before after turns rest now tail text s.0 n why h t s.1 (tells.faults turns now (length turns + 1) s.0 tail (Line n why) h.led s.2) a
  stopped before after turns rest now tail text Memory h t s a =
      let none : tail ≡ [] = elim s [ inl k ↦ k.1 | inr k ↦ tells.faults turns now (length turns + 1) k.0 tail Memory h.led k.2 ] in
      (lines_of turns, rest, heard before after now turns rest text (telling (lines_of turns)) h a (texts-alone turns now tail text h.led t none))

  breaks-off : (before after : Moment) (text : List ℕ) → Breaks answers stops start before.unread after.unread text
      → Appends before.written after.written text → StopsTelling plan telling before after Write
  breaks-off before after text b a = (
    lines_of b.turns,
    b.rest,
    b.line,
    b.front,
    b.behind,
    heard before after b.now b.turns b.rest text (telling (lines_of b.turns) ++ b.front) b.heard a (b.text_is ∙ ap (λ (t : List ℕ). t ++ b.front) (tells.texts b.turns b.now b.heard.led)),
    b.stands,
    text-for b.turns b.now b.line (b.front ++ b.behind) b.heard.led (omega (arith, b.some, length-append b.front b.behind)) b.is_for,
    b.some,
  )

  ends : (before after : Moment) (new : A) (r : Result ℕ LineFault) (text : List ℕ) → Ends answers stops start new before.unread after.unread r text
      → Appends before.written after.written text → RunsTelling plan telling before after r
  ends before after new (Ok count) text (turns, [], now, tail, h, t, n, l, end, c) a =
      (lines_of turns, [], heard before after now turns [] text (telling (lines_of turns)) h a (texts-alone turns now tail text h.led t n.0), l, λ why bad. cc, end, c)
  ends before after new (Ok count) text (turns, b ∷ bs, now, tail, h, t, n, l, end, c) a = (
    lines_of turns,
    b ∷ bs,
    heard before after now turns (b ∷ bs) text (telling (lines_of turns ++ (b ∷ bs) ∷ [])) h a (t ∙ sym (more-told turns now new (b ∷ bs) tail h.led n)),
    l,
    more-readable turns now new (b ∷ bs) tail h.led n,
    end,
    c,
  )
  ends before after new (Err fault) text (turns, rest, now, tail, h, t, s) a = stopped before after turns rest now tail text fault h t s a

-- all lines, over whatever answers them
pub runs-telling : {A : Type 0} {answers : Answering A} {stops : Stopping A} {start new : A} {plan : Plan} {telling : Telling} {before after : Moment} (r : Result ℕ LineFault)
    → IsTelling answers stops start plan telling → AnswersAll answers stops start new before after r → RunsTelling plan telling before after r
runs-telling {answers = answers} {stops = stops} {start = start} {new = new} {plan = plan} {telling = telling} {before = before} {after = after} r tells h = elim h.ends [
  | inl e ↦ ends answers stops start plan telling tells before after new r h.text e h.wrote
  | inr b ↦ subst (RunsTelling plan telling before after) (sym b.0) (breaks-off answers stops start plan telling tells before after h.text b.1 h.wrote)
]
