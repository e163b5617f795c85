-- The line in whose text a write broke off.
use Rattle.std.proofs.Common.{◌≡◌, ℕ, ◌+◌, ◌<◌, List, [], ◌∷◌, ◌++◌, length, Option, Result, Ok, Err, refl, sym, ap, subst, ◌∙◌, append_assoc, inl, inr, ◌⊎◌, arith, length-append, All}
use Rattle.std.proofs.lemmas.List.Concat.{flat_map-append}
use Rattle.std.proofs.lemmas.List.Elements.{All-cons, All-head, All-tail, All-nil}
use Rattle.std.proofs.lemmas.List.{map-append}
use Rattle.std.proofs.KnownBytes.{Appends-trans}
use Rattle.std.specs.Io.KnownBytes.{Consumes, Appends}
use Rattle.line_server.specs.declared.fault.LineFault.{LineFault}
use Rattle.line_server.specs.declared.fault.LineFault.TheVariants.{Write}
use Rattle.line_server.specs.Lines.{IsLine, ended, text_of_lines, Moment, StandsWhole, Answering, Stopping, Turn, lines_of, texts_of, Leads, Hears, Ends, IsTextFor, Breaks, AnswersAll}
use Rattle.line_server.specs.Pieces.{Halts, moment}

-- two texts, one behind the other, were cut: in the first or in the second
cut_two : (xs ys front left : List ℕ) → xs ++ ys ≡ front ++ left
    → ((l : List ℕ) × (xs ≡ front ++ l) × (0 < length l)) ⊎ ((f : List ℕ) × (front ≡ xs ++ f) × (ys ≡ f ++ left))
cut_two [] ys front left e = inr (front, refl, e)
cut_two (x ∷ xs) ys [] left e = inl (x ∷ xs, refl, omega arith)
cut_two (x ∷ xs) ys (c ∷ front) left e =
    let same : x ≡ c = cc in
    let more : xs ++ ys ≡ front ++ left = cc in
    elim (cut_two xs ys front left more) [
      | inl h ↦ inl (h.0, ap (λ (t : List ℕ). x ∷ t) h.1 ∙ ap (λ (y : ℕ). y ∷ (front ++ h.0)) same, h.2)
      | inr h ↦ inr (h.0, ap (λ (y : ℕ). y ∷ front) (sym same) ∙ ap (λ (t : List ℕ). x ∷ t) h.1, h.2)
    ]

-- of what is written for these turns, behind so many lines, this is a front that ends in the text of one of them
record EndsInTurn {A : Type 0} (answers : Answering A) (old : A) (count : ℕ) (turns : List Turn) (front : List ℕ) : Type 0 where
  before : List Turn
  turn : Turn
  behind : List Turn
  now : A
  next : A
  begun : List ℕ
  left : List ℕ
  turns_are : turns ≡ before ++ turn ∷ behind
  each : All IsLine (lines_of before)
  line_is : IsLine turn.line
  led : Leads answers old count before now
  answered : (k : ℕ) → k ≡ count + length before → answers now (k + 1) turn.line turn.text next
  front_is : front ≡ texts_of before ++ begun
  text : turn.text ≡ begun ++ left
  some : 0 < length left

-- what is written for turns, and a text behind it, were cut: in the text of a turn, or in the text behind
cut_turns : {A : Type 0} (answers : Answering A) (old new : A) (count : ℕ) (turns : List Turn) (tail front left : List ℕ) → All IsLine (lines_of turns) → Leads answers old count turns new
    → texts_of turns ++ tail ≡ front ++ left → EndsInTurn answers old count turns front ⊎ ((f : List ℕ) × (front ≡ texts_of turns ++ f) × (tail ≡ f ++ left))
cut_turns answers old new count [] tail front left a l e = inr (front, refl, e)
cut_turns answers old new count (turn ∷ ts) tail front left a l e =
    elim (cut_two turn.text (texts_of ts ++ tail) front left (sym (append_assoc turn.text (texts_of ts) tail) ∙ e)) [
      | inl h ↦ inl (record {
        before = [];
        turn = turn;
        behind = ts;
        now = old;
        next = l.0;
        begun = front;
        left = h.0;
        turns_are = refl;
        each = All-nil IsLine;
        line_is = All-head IsLine turn.line (lines_of ts) a;
        led = refl;
        answered = λ k f. subst (λ (i : ℕ). answers old i turn.line turn.text l.0) (omega (arith, f)) l.1;
        front_is = refl;
        text = h.1;
        some = h.2;
      })
      | inr h ↦ elim (cut_turns answers l.0 new (count + 1) ts tail h.0 left (All-tail IsLine turn.line (lines_of ts) a) l.2 h.2) [
        | inl k ↦ inl (record {
          before = turn ∷ k.before;
          turn = k.turn;
          behind = k.behind;
          now = k.now;
          next = k.next;
          begun = k.begun;
          left = k.left;
          turns_are = ap (λ (t : List Turn). turn ∷ t) k.turns_are;
          each = All-cons IsLine turn.line (lines_of k.before) (All-head IsLine turn.line (lines_of ts) a) k.each;
          line_is = k.line_is;
          led = (l.0, l.1, k.led);
          answered = λ i f. k.answered i (omega (arith, f));
          front_is = h.1 ∙ ap (λ (t : List ℕ). turn.text ++ t) k.front_is ∙ sym (append_assoc turn.text (texts_of k.before) k.begun);
          text = k.text;
          some = k.some;
        })
        | inr k ↦ inr (k.0, h.1 ∙ ap (λ (t : List ℕ). turn.text ++ t) k.1 ∙ sym (append_assoc turn.text (texts_of ts) k.0), k.2)
      ]
    ]

-- the bytes of turns and a rest, from one of the turns on
bytes-from : (turns before : List Turn) (turn : Turn) (behind : List Turn) (rest : List ℕ) → turns ≡ before ++ turn ∷ behind
    → text_of_lines (lines_of turns) ++ rest ≡ text_of_lines (lines_of before) ++ (ended turn.line ++ (text_of_lines (lines_of behind) ++ rest))
bytes-from turns before turn behind rest e =
    ap (λ (ts : List Turn). text_of_lines (lines_of ts) ++ rest) e
    ∙ ap (λ (ls : List (List ℕ)). text_of_lines ls ++ rest) (map-append (λ (t : Turn). t.line) before (turn ∷ behind))
    ∙ ap (λ (t : List ℕ). t ++ rest) (flat_map-append ended (lines_of before) (lines_of (turn ∷ behind)))
    ∙ append_assoc (text_of_lines (lines_of before)) (ended turn.line ++ text_of_lines (lines_of behind)) rest
    ∙ ap (λ (t : List ℕ). text_of_lines (lines_of before) ++ t) (append_assoc (ended turn.line) (text_of_lines (lines_of behind)) rest)

-- what is written behind the turns: nothing, or what is written for one more line
abbrev pub IsTail : {A : Type 0} → Answering A → Stopping A → A → Option (List ℕ) → List Turn → List ℕ → List ℕ → Type 0
IsTail answers stops now unread turns rest tail =
    (tail ≡ []) ⊎ ((line : List ℕ) × StandsWhole unread line rest × IsTextFor answers stops now (length turns + 1) line tail)

no-text : (f left : List ℕ) → [] ≡ f ++ left → 0 < length left → ⊥
no-text f left e some = omega (arith, ap (λ (t : List ℕ). length t) e, length-append f left)

-- a write broke off in the text of turns, or in what is written behind them
pub breaks : {A : Type 0} {answers : Answering A} {stops : Stopping A} {old now : A} {unread later : Option (List ℕ)} {turns : List Turn} {rest : List ℕ} (tail front left : List ℕ)
    → Hears answers old now unread later turns rest → IsTail answers stops now later turns rest tail → texts_of turns ++ tail ≡ front ++ left → 0 < length left
    → Breaks answers stops old unread later front
breaks {answers = answers} {stops = stops} {old = old} {now = now} {unread = unread} {later = later} {turns = turns} {rest = rest} tail front left h is e some =
    elim (cut_turns answers old now 0 turns tail front left h.each h.led e) [
      | inl k ↦ record {
        turns = k.before;
        rest = ended k.turn.line ++ (text_of_lines (lines_of k.behind) ++ rest);
        now = k.now;
        line = k.turn.line;
        front = k.begun;
        behind = k.left;
        heard = record { each = k.each; led = k.led; read = subst (Consumes unread later) (bytes-from turns k.before k.turn k.behind rest k.turns_are) h.read };
        text_is = k.front_is;
        stands = (k.line_is, inl (text_of_lines (lines_of k.behind) ++ rest, refl));
        is_for = inl (k.next, subst (λ (t : List ℕ). answers k.now (length k.before + 1) k.turn.line t k.next) k.text (k.answered (length k.before) (omega arith)));
        some = k.some;
      }
      | inr k ↦ elim is [
        | inl none ↦ absurd (no-text k.0 left (sym none ∙ k.2) some)
        | inr t ↦ record {
          turns = turns;
          rest = rest;
          now = now;
          line = t.0;
          front = k.0;
          behind = left;
          heard = h;
          text_is = k.1;
          stands = t.1;
          is_for = subst (IsTextFor answers stops now (length turns + 1) t.0) k.2 t.2;
          some = some;
        }
      ]
    ]

-- ---- what waits is written at the end

-- of the text for a run a front was written, and something is left
ends-breaks : {A : Type 0} (answers : Answering A) (stops : Stopping A) (old new : A) (unread later : Option (List ℕ)) (r : Result ℕ LineFault) (text front left : List ℕ)
    → Ends answers stops old new unread later r text → text ≡ front ++ left → 0 < length left → Breaks answers stops old unread later front
ends-breaks answers stops old new unread later (Ok count) text front left (turns, [], now, tail, h, t, n, l, end, c) e some = breaks tail front left h (inl n.0) (sym t ∙ e) some
ends-breaks answers stops old new unread later (Ok count) text front left (turns, b ∷ bs, now, tail, h, t, n, l, end, c) e some =
    breaks tail front left h (inr (b ∷ bs, (l, inr (refl, omega arith, end)), inl (new, n))) (sym t ∙ e) some
ends-breaks answers stops old new unread later (Err fault) text front left (turns, rest, now, tail, h, t, inl s) e some = breaks tail front left h (inl s.1) (sym t ∙ e) some
ends-breaks answers stops old new unread later (Err fault) text front left (turns, rest, now, tail, h, t, inr s) e some =
    breaks tail front left h (inr (s.0, s.1, inr (fault, s.2))) (sym t ∙ e) some

-- what waited was written
pub all-written : {A : Type 0} {answers : Answering A} {stops : Stopping A} {old new : A} {before : Moment} {unread held holds : Option (List ℕ)} {r : Result ℕ LineFault} {waiting : List ℕ}
    → Halts answers stops old new before (moment unread held) r waiting → Appends held holds waiting → AnswersAll answers stops old new before (moment unread holds) r
all-written {before = before} {held = held} {holds = holds} {waiting = waiting} h a = record {
  text = h.text;
  wrote = subst (Appends before.written holds) (sym h.waits) (Appends-trans before.written held holds h.front waiting h.wrote a);
  ends = elim h.ends [ inl k ↦ inl k | inr k ↦ inr (k.0, k.1) ];
}

-- of what waited a front was written
pub all-cut : {A : Type 0} {answers : Answering A} {stops : Stopping A} {old new : A} {before : Moment} {unread held holds : Option (List ℕ)} {r : Result ℕ LineFault} {waiting : List ℕ} (front left : List ℕ)
    → Halts answers stops old new before (moment unread held) r waiting → waiting ≡ front ++ left → Appends held holds front → 0 < length left
    → AnswersAll answers stops old new before (moment unread holds) (Err Write)
all-cut {answers = answers} {stops = stops} {old = old} {new = new} {before = before} {unread = unread} {held = held} {holds = holds} {r = r} front left h e a some =
    let written = h.front ++ front in record {
      text = written;
      wrote = Appends-trans before.written held holds h.front front h.wrote a;
      ends = inr (
        refl,
        elim h.ends [
          | inl k ↦ ends-breaks answers stops old new before.unread unread r h.text written left k (h.waits ∙ ap (λ (t : List ℕ). h.front ++ t) e ∙ sym (append_assoc h.front front left)) some
          | inr k ↦ absurd (no-text front left (sym k.2 ∙ e) some)
        ],
      );
    }
