-- Lines, one after another, over whatever answers them.
use Rattle.std.proofs.Common.{◌≡◌, ℕ, ◌+◌, ◌<◌, ◌≤◌, List, [], ◌∷◌, ◌++◌, length, Option, Ok, Err, refl, sym, ap, subst, ◌∙◌, append_assoc, append-nil, inl, inr, arith, length-append}
use Rattle.std.proofs.lemmas.List.Concat.{flat_map-append}
use Rattle.std.proofs.lemmas.List.Elements.{All-push, All-nil, All-same}
use Rattle.std.proofs.lemmas.List.{map-append, length-map}
use Rattle.std.proofs.KnownBytes.{Appends-trans, Appends-nil, Consumes-trans, Consumes-nil}
use Rattle.std.specs.Io.KnownBytes.{Consumes, Appends, IsAtEnd}
use Rattle.line_server.specs.declared.fault.LineFault.{LineFault}
use Rattle.line_server.specs.declared.fault.LineFault.TheVariants.{Write}
use Rattle.line_server.specs.Feeding.{IsSplit}
use Rattle.line_server.specs.Lines.{IsLine, ended, text_of_lines, Moment, StandsWhole, Answering, Stopping, Puts, Turn, lines_of, texts_of, Leads, Hears, IsBetween, StopsBy}
use Rattle.line_server.specs.Pieces.{Stands, Halts, Stage, moment}
use Rattle.line_server.proofs.Breaking.{breaks}

-- ---- one turn more

pub Leads-push : {A : Type 0} (answers : Answering A) (old mid new : A) (count number : ℕ) (turns : List Turn) (turn : Turn) → Leads answers old count turns mid
    → answers mid number turn.line turn.text new → number ≡ count + length turns + 1 → Leads answers old count (turns ++ turn ∷ []) new
Leads-push answers old mid new count number [] turn l a e =
    (new, subst (λ (k : ℕ). answers old k turn.line turn.text new) (omega (arith, e)) (subst (λ s. answers s number turn.line turn.text new) l a), refl)
Leads-push answers old mid new count number (t ∷ turns) turn l a e =
    (l.0, l.1, Leads-push answers l.0 mid new (count + 1) number turns turn l.2 a (omega (arith, e)))

pub lines-push : (turns : List Turn) (turn : Turn) → lines_of (turns ++ turn ∷ []) ≡ lines_of turns ++ turn.line ∷ []
lines-push turns turn = map-append (λ (t : Turn). t.line) turns (turn ∷ [])

pub texts-push : (turns : List Turn) (turn : Turn) → texts_of (turns ++ turn ∷ []) ≡ texts_of turns ++ turn.text
texts-push turns turn = flat_map-append (λ (t : Turn). t.text) turns (turn ∷ []) ∙ ap (λ (t : List ℕ). texts_of turns ++ t) (append-nil turn.text)

-- the bytes behind one line more
bytes-push : (turns : List Turn) (turn : Turn) (left behind : List ℕ) → left ≡ ended turn.line ++ behind
    → text_of_lines (lines_of turns) ++ left ≡ text_of_lines (lines_of (turns ++ turn ∷ [])) ++ behind
bytes-push turns turn left behind e =
    let bytes = text_of_lines (lines_of turns) in
    ap (λ (t : List ℕ). bytes ++ t) e ∙ sym (append_assoc bytes (ended turn.line) behind) ∙ ap (λ (t : List ℕ). (bytes ++ t) ++ behind) (sym (append-nil (ended turn.line)))
    ∙ ap (λ (t : List ℕ). t ++ behind) (sym (flat_map-append ended (lines_of turns) (turn.line ∷ [])))
    ∙ ap (λ (ls : List (List ℕ)). text_of_lines ls ++ behind) (sym (lines-push turns turn))

-- ---- what stands

pub stands-init : {A : Type 0} {answers : Answering A} (asker : A) (m : Moment) → Stands answers asker asker m m [] [] [] 0 []
stands-init asker m = record {
  each = All-nil IsLine;
  led = refl;
  read = Consumes-nil m.unread;
  whole = refl;
  front = [];
  wrote = Appends-nil m.written;
  waits = refl;
  count_is = refl;
}

hears : {A : Type 0} {answers : Answering A} {old now : A} {before after : Moment} {bytes : List ℕ} {turns : List Turn} {rest : List ℕ} {count : ℕ} {waiting : List ℕ}
    → Stands answers old now before after bytes turns rest count waiting → Hears answers old now before.unread after.unread turns rest
hears {before = before} {after = after} s = record { each = s.each; led = s.led; read = subst (Consumes before.unread after.unread) s.whole s.read }

-- one text more waits
put-behind : {A : Type 0} {answers : Answering A} {old now : A} {before after : Moment} {bytes : List ℕ} {turns : List Turn} {rest : List ℕ} {count : ℕ} {waiting texts : List ℕ}
    → (s : Stands answers old now before after bytes turns rest count waiting) → (text : List ℕ) → texts ≡ waiting ++ text → texts_of turns ++ text ≡ s.front ++ texts
put-behind {waiting = waiting} s text e = ap (λ (t : List ℕ). t ++ text) s.waits ∙ append_assoc s.front waiting text ∙ ap (λ (t : List ℕ). s.front ++ t) (sym e)

-- of what waited a front was written, and what is left waits
pub stands-passed : {A : Type 0} {answers : Answering A} {old now : A} {before : Moment} {unread held holds : Option (List ℕ)} {bytes : List ℕ} {turns : List Turn} {rest : List ℕ} {count : ℕ} {waiting left : List ℕ} (front : List ℕ)
    → Stands answers old now before (moment unread held) bytes turns rest count waiting → waiting ≡ front ++ left → Appends held holds front
    → Stands answers old now before (moment unread holds) bytes turns rest count left
stands-passed {before = before} {held = held} {holds = holds} {left = left} front s e a = record {
  each = s.each;
  led = s.led;
  read = s.read;
  whole = s.whole;
  front = s.front ++ front;
  wrote = Appends-trans before.written held holds s.front front s.wrote a;
  waits = s.waits ∙ ap (λ (t : List ℕ). s.front ++ t) e ∙ sym (append_assoc s.front front left);
  count_is = s.count_is;
}

-- all that waited was written
pub stands-written : {A : Type 0} {answers : Answering A} {old now : A} {before : Moment} {unread held holds : Option (List ℕ)} {bytes : List ℕ} {turns : List Turn} {rest : List ℕ} {count : ℕ} {waiting left : List ℕ}
    → Stands answers old now before (moment unread held) bytes turns rest count waiting → left ≡ [] → Appends held holds waiting
    → Stands answers old now before (moment unread holds) bytes turns rest count left
stands-written {waiting = waiting} s none a = stands-passed waiting s (sym (append-nil waiting) ∙ ap (λ (t : List ℕ). waiting ++ t) (sym none)) a

-- a piece more was read
pub stands-fed : {A : Type 0} {answers : Answering A} {old now : A} {before : Moment} {unread later written : Option (List ℕ)} {bytes : List ℕ} {turns : List Turn} {rest : List ℕ} {count : ℕ} {waiting : List ℕ} (piece : List ℕ)
    → Stands answers old now before (moment unread written) bytes turns rest count waiting → Consumes unread later piece
    → Stands answers old now before (moment later written) (bytes ++ piece) turns (rest ++ piece) count waiting
stands-fed {before = before} {unread = unread} {later = later} {bytes = bytes} {turns = turns} {rest = rest} piece s k = record {
  each = s.each;
  led = s.led;
  read = Consumes-trans before.unread unread later bytes piece s.read k;
  whole = ap (λ (t : List ℕ). t ++ piece) s.whole ∙ append_assoc (text_of_lines (lines_of turns)) rest piece;
  front = s.front;
  wrote = s.wrote;
  waits = s.waits;
  count_is = s.count_is;
}

-- nothing more was read
pub stands-kept : {A : Type 0} {answers : Answering A} {old now : A} {before : Moment} {unread later written : Option (List ℕ)} {bytes : List ℕ} {turns : List Turn} {rest : List ℕ} {count : ℕ} {waiting : List ℕ}
    → Stands answers old now before (moment unread written) bytes turns rest count waiting → Consumes unread later []
    → Stands answers old now before (moment later written) bytes turns rest count waiting
stands-kept {answers = answers} {old = old} {now = now} {before = before} {later = later} {written = written} {bytes = bytes} {turns = turns} {rest = rest} {count = count} {waiting = waiting} s k =
    subst (λ (t : List ℕ). Stands answers old now before (moment later written) bytes turns t count waiting) (append-nil rest)
    (subst (λ (t : List ℕ). Stands answers old now before (moment later written) t turns (rest ++ []) count waiting) (append-nil bytes) (stands-fed [] s k))

-- the first line of the rest was answered
pub stands-answered : {A : Type 0} {answers : Answering A} {old now : A} {before after : Moment} {bytes : List ℕ} {turns : List Turn} {rest : List ℕ} {count : ℕ} {waiting : List ℕ} {new : A} {line behind held texts : List ℕ}
    → Stands answers old now before after bytes turns rest count waiting → IsSplit rest line behind → Puts waiting texts (λ text. answers now (count + 1) line text new) → held ≡ []
    → (ts : List Turn) × Stands answers old new before after bytes ts (held ++ behind) (count + 1) texts
stands-answered {answers = answers} {old = old} {now = now} {before = before} {after = after} {bytes = bytes} {turns = turns} {rest = rest} {count = count} {waiting = waiting} {new = new} {line = line} {behind = behind} {held = held} {texts = texts} s split p none =
    let turn : Turn = record { line = line; text = p.0 } in (
      turns ++ turn ∷ [],
      record {
        each = All-same IsLine (lines_of (turns ++ turn ∷ [])) (lines_of turns ++ line ∷ []) (lines-push turns turn) (All-push IsLine (lines_of turns) line s.each split.line_is);
        led = Leads-push answers old now new 0 (count + 1) turns turn s.led p.2 (omega (arith, s.count_is));
        read = s.read;
        whole = s.whole ∙ bytes-push turns turn rest behind split.whole ∙ ap (λ (t : List ℕ). text_of_lines (lines_of (turns ++ turn ∷ [])) ++ (t ++ behind)) (sym none);
        front = s.front;
        wrote = s.wrote;
        waits = texts-push turns turn ∙ put-behind s p.0 p.1;
        count_is = omega (arith, s.count_is, length-append turns (turn ∷ []));
      },
    )

-- ---- how it halts

-- a write failed: of what waited a front was written
pub halts-breaks : {A : Type 0} {answers : Answering A} {stops : Stopping A} {old now new : A} {before : Moment} {unread held holds : Option (List ℕ)} {bytes : List ℕ} {turns : List Turn} {rest : List ℕ} {count : ℕ} {waiting none : List ℕ} (front left : List ℕ)
    → Stands answers old now before (moment unread held) bytes turns rest count waiting → none ≡ [] → waiting ≡ front ++ left → Appends held holds front → 0 < length left
    → Halts answers stops old new before (moment unread holds) (Err Write) none
halts-breaks {before = before} {held = held} {holds = holds} {turns = turns} front left s empty e a some =
    let written = s.front ++ front in record {
      text = written;
      front = written;
      wrote = Appends-trans before.written held holds s.front front s.wrote a;
      waits = sym (append-nil written) ∙ ap (λ (t : List ℕ). written ++ t) (sym empty);
      ends = inr (
        refl,
        breaks [] written left (hears s) (inl refl) (append-nil (texts_of turns) ∙ s.waits ∙ ap (λ (t : List ℕ). s.front ++ t) e ∙ sym (append_assoc s.front front left)) some,
        empty,
      );
    }

-- a fault came between two lines, or a line ended the run
halts-by : {A : Type 0} {answers : Answering A} {stops : Stopping A} {old now new : A} {before after : Moment} {bytes : List ℕ} {turns : List Turn} {rest : List ℕ} {count : ℕ} {waiting texts : List ℕ} (tail : List ℕ) (fault : LineFault)
    → Stands answers old now before after bytes turns rest count waiting → StopsBy stops now after.unread turns rest tail fault → texts ≡ waiting ++ tail
    → Halts answers stops old new before after (Err fault) texts
halts-by {now = now} {turns = turns} {rest = rest} {waiting = waiting} tail fault s stop e =
    record { text = texts_of turns ++ tail; front = s.front; wrote = s.wrote; waits = put-behind s tail e; ends = inl (turns, rest, now, tail, hears s, refl, stop) }

pub halts-between : {A : Type 0} {answers : Answering A} {stops : Stopping A} {old now new : A} {before after : Moment} {bytes : List ℕ} {turns : List Turn} {rest : List ℕ} {count : ℕ} {waiting : List ℕ} (fault : LineFault)
    → Stands answers old now before after bytes turns rest count waiting → IsBetween fault (text_of_lines (lines_of turns)) rest → Halts answers stops old new before after (Err fault) waiting
halts-between {waiting = waiting} fault s b = halts-by [] fault s (inl (b, refl)) (sym (append-nil waiting))

-- the line at the front of the rest ended the run
pub halts-at : {A : Type 0} {answers : Answering A} {stops : Stopping A} {old now new : A} {before after : Moment} {bytes : List ℕ} {turns : List Turn} {rest : List ℕ} {count : ℕ} {waiting texts : List ℕ} {line : List ℕ} (fault : LineFault)
    → Stands answers old now before after bytes turns rest count waiting → StandsWhole after.unread line rest → Puts waiting texts (λ text. stops now (count + 1) line text fault)
    → Halts answers stops old new before after (Err fault) texts
halts-at {stops = stops} {now = now} {line = line} fault s whole p =
    halts-by p.0 fault s (inr (line, whole, subst (λ (k : ℕ). stops now (k + 1) line p.0 fault) s.count_is p.2)) p.1

-- ---- the end of the input

-- the last line has no byte
pub halts-empty : {A : Type 0} {answers : Answering A} {stops : Stopping A} {old now : A} {before after : Moment} {bytes : List ℕ} {turns : List Turn} {count : ℕ} {waiting : List ℕ} (last : List ℕ)
    → Stands answers old now before after bytes turns last count waiting → length last ≡ 0 → IsLine last → IsAtEnd after.unread → Halts answers stops old now before after (Ok count) waiting
halts-empty {now = now} {turns = turns} [] s none l end = record {
  text = texts_of turns ++ [];
  front = s.front;
  wrote = s.wrote;
  waits = append-nil (texts_of turns) ∙ s.waits;
  ends = inl (turns, [], now, [], hears s, refl, (refl, refl), l, end, s.count_is ∙ sym (length-map turns (λ (t : Turn). t.line)));
}
halts-empty (b ∷ bs) s none l end = absurd (omega (arith, none))

-- it was answered
pub halts-answered : {A : Type 0} {answers : Answering A} {stops : Stopping A} {old now new : A} {before after : Moment} {bytes : List ℕ} {turns : List Turn} {count : ℕ} {waiting texts : List ℕ} (last : List ℕ)
    → Stands answers old now before after bytes turns last count waiting → 0 < length last → IsLine last → IsAtEnd after.unread → Puts waiting texts (λ text. answers now (count + 1) last text new)
    → Halts answers stops old new before after (Ok (count + 1)) texts
halts-answered [] s some l end p = absurd (omega (arith, some))
halts-answered {answers = answers} {now = now} {new = new} {turns = turns} (b ∷ bs) s some l end p = record {
  text = texts_of turns ++ p.0;
  front = s.front;
  wrote = s.wrote;
  waits = put-behind s p.0 p.1;
  ends = inl (
    turns,
    b ∷ bs,
    now,
    p.0,
    hears s,
    refl,
    subst (λ (k : ℕ). answers now (k + 1) (b ∷ bs) p.0 new) s.count_is p.2,
    l,
    end,
    omega (arith, s.count_is, length-append (lines_of turns) ((b ∷ bs) ∷ []), length-map turns (λ (t : Turn). t.line)),
  );
}

-- ---- counts

lines-short : (lines : List (List ℕ)) → length lines ≤ length (text_of_lines lines)
lines-short [] = omega arith
lines-short (l ∷ ls) = omega (arith, lines-short ls, length-append (ended l) (text_of_lines ls), length-append l (10 ∷ []))

pub stands-few : {A : Type 0} {answers : Answering A} {old now : A} {before after : Moment} {bytes : List ℕ} {turns : List Turn} {rest : List ℕ} {count : ℕ} {waiting : List ℕ}
    → Stands answers old now before after bytes turns rest count waiting → count + length rest ≤ length bytes
stands-few {bytes = bytes} {turns = turns} {rest = rest} s =
    omega (arith, s.count_is, lines-short (lines_of turns), length-map turns (λ (t : Turn). t.line), ap (λ (t : List ℕ). length t) s.whole, length-append (text_of_lines (lines_of turns)) rest)

-- a line takes one byte at least
pub split-shorter : {bytes line behind : List ℕ} → IsSplit bytes line behind → 1 + length behind ≤ length bytes
split-shorter {bytes = bytes} {line = line} {behind = behind} s =
    omega (arith, ap (λ (t : List ℕ). length t) s.whole, length-append (ended line) behind, length-append line (10 ∷ []))

-- ---- a piece

-- whatever came before the piece, some lines of it were answered and the rest is left
abbrev pub SoFar : {A : Type 0} → Answering A → Stage A → Stage A → List ℕ → List ℕ → Type 0
SoFar {A} answers old now piece rest =
    (start : A) (before : Moment) (unread : Option (List ℕ)) (bytes : List ℕ) (turns : List Turn)
    → Stands answers start old.asker before (moment unread old.written) bytes turns (old.run.feeder ++ piece) old.run.count old.run.waiting.items
    → (ts : List Turn) × Stands answers start now.asker before (moment unread now.written) bytes ts (now.run.feeder ++ rest) now.run.count now.run.waiting.items
