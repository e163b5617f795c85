-- A meter that is watched answers lines as one that isn't, and tells of them one after another.
use Rattle.std.proofs.Common.{◌≡◌, ℕ, ◌+◌, List, [], ◌∷◌, ◌++◌, length, Option, Some, None, OnOk, Result, Ok, Err, refl, sym, ap, subst, ◌∙◌, append_assoc, append-nil, inl, inr, arith}
use Rattle.std.proofs.KnownBytes.{Appends-nil, Appends-trans}
use Rattle.std.specs.Io.KnownBytes.{Appends}
use Rattle.meter_theory.specs.Plan.{cells, start}
use Rattle.meter_theory.specs.State.{State, keys}
use Rattle.line_words.proofs.States.{told_cells}
use Rattle.line_words.specs.Telling.{told_text}
use Rattle.step_words.specs.StepLines.{decoded_step}
use Rattle.xdlms_services.specs.Solo.{Alone}
use Rattle.line_server.specs.declared.fault.LineFault.{LineFault}
use Rattle.line_server.specs.declared.fault.LineFault.TheVariants.{Write}
use Rattle.line_server.specs.Lines.{Moment, Turn, lines_of, Leads, Hears, EndsWith, Ends, IsTextFor, Breaks, AnswersAll}
use Rattle.line_server.specs.Running.{RunsLines, tasks_in}
use Rattle.line_server.specs.Spelling.{line_of}
use Rattle.line_server.specs.LineMeter.{AnswersLine, StopsAtLine, told}
use Rattle.line_words.specs.Watching.{Watched, shown, AnswersAloud, StopsAloud, Tells, TellsAll, meter_behind, telling, tellings}
use Rattle.line_server.proofs.Alone.{runs}
use Rattle.line_server.proofs.Taking.{Leads-push, lines-push}

-- what is kept of a meter has the cells of its plan
pub watched_cells : (held : State) (solo : Alone) → held ≡ shown solo → keys held ≡ cells solo.plan
watched_cells held solo is = ap keys is ∙ told_cells solo.plan solo.meter

-- ---- the meter alone

led-solo : (old new : Watched) (count : ℕ) (turns : List Turn) → Leads AnswersAloud old count turns new → Leads AnswersLine old.solo count turns new.solo
led-solo old new count [] l = ap (λ (w : Watched). w.solo) l
led-solo old new count (turn ∷ turns) l = (l.0.solo, l.1.0, led-solo l.0 new (count + 1) turns l.2)

heard-solo : (old new : Watched) (unread left : Option (List ℕ)) (turns : List Turn) (rest : List ℕ) → Hears AnswersAloud old new unread left turns rest → Hears AnswersLine old.solo new.solo unread left turns rest
heard-solo old new unread left turns rest h = record { each = h.each; led = led-solo old new 0 turns h.led; read = h.read }

last-solo : (old new : Watched) (number : ℕ) (last text : List ℕ) → EndsWith AnswersAloud old number last text new → EndsWith AnswersLine old.solo number last text new.solo
last-solo old new number [] text e = (e.0, ap (λ (w : Watched). w.solo) e.1)
last-solo old new number (b ∷ bs) text e = e.0

ends-solo : (old new : Watched) (unread left : Option (List ℕ)) (r : Result ℕ LineFault) (text : List ℕ) → Ends AnswersAloud StopsAloud old new unread left r text → Ends AnswersLine StopsAtLine old.solo new.solo unread left r text
ends-solo old new unread left (Ok count) text (turns, last, now, tail, h, t, n, l, end, c) =
    (turns, last, now.solo, tail, heard-solo old now unread left turns last h, t, last-solo now new (length turns + 1) last tail n, l, end, c)
ends-solo old new unread left (Err fault) text (turns, rest, now, tail, h, t, s) = (turns, rest, now.solo, tail, heard-solo old now unread left turns rest h, t, s)

text-solo : (now : Watched) (number : ℕ) (line text : List ℕ) → IsTextFor AnswersAloud StopsAloud now number line text → IsTextFor AnswersLine StopsAtLine now.solo number line text
text-solo now number line text (inl a) = inl (a.0.solo, a.1.0)
text-solo now number line text (inr s) = inr s

breaks-solo : (old : Watched) (unread left : Option (List ℕ)) (text : List ℕ) → Breaks AnswersAloud StopsAloud old unread left text → Breaks AnswersLine StopsAtLine old.solo unread left text
breaks-solo old unread left text b = record {
  turns = b.turns;
  rest = b.rest;
  now = b.now.solo;
  line = b.line;
  front = b.front;
  behind = b.behind;
  heard = heard-solo old b.now unread left b.turns b.rest b.heard;
  text_is = b.text_is;
  stands = b.stands;
  is_for = text-solo b.now (length b.turns + 1) b.line (b.front ++ b.behind) b.is_for;
  some = b.some;
}

all-solo : (old new : Watched) (before after : Moment) (r : Result ℕ LineFault) → AnswersAll AnswersAloud StopsAloud old new before after r → AnswersAll AnswersLine StopsAtLine old.solo new.solo before after r
all-solo old new before after r h = record {
  text = h.text;
  wrote = h.wrote;
  ends = elim h.ends [
    | inl e ↦ inl (ends-solo old new before.unread after.unread r h.text e)
    | inr b ↦ inr (b.0, breaks-solo old before.unread after.unread h.text b.1)
  ];
}

-- what was read and written is that of a run of the lines
pub runs-aloud : (old new : Watched) (before after : Moment) (r : Result ℕ LineFault) → old.solo.meter ≡ start old.solo.plan → AnswersAll AnswersAloud StopsAloud old new before after r
    → RunsLines old.solo.plan before after r
runs-aloud old new before after r m h = runs {old = old.solo} {new = new.solo} r refl m (all-solo old new before after r h)

-- ---- what was told

-- of this text a beginning was told, and all of it while the meter is watched
record Told (text : List ℕ) (watch : Option State) (before after : Option (List ℕ)) : Type 0 where
  front : List ℕ
  left : List ℕ
  is : text ≡ front ++ left
  told : Appends before after front
  all : (held : State) → watch ≡ Some held → left ≡ []

told-more : (text more : List ℕ) (now : State) (watch new : Option State) (start before after : Option (List ℕ)) → Told text watch start before → Tells more now watch new before after → Told (text ++ more) new start after
told-more text more now None new start before after t (none, same) = record {
  front = t.front;
  left = t.left ++ more;
  is = ap (λ (x : List ℕ). x ++ more) t.is ∙ append_assoc t.front t.left more;
  told = subst (λ (o : Option (List ℕ)). Appends start o t.front) (sym same) t.told;
  all = λ held e. let f : ◌≡◌ {A = Option State} None (Some held) = sym none ∙ e in absurd cc;
}
told-more text more now (Some old) (Some held) start before after t (is, more_told) = record {
  front = t.front ++ more;
  left = [];
  is = ap (λ (x : List ℕ). x ++ more) (t.is ∙ ap (λ (x : List ℕ). t.front ++ x) (t.all old refl) ∙ append-nil t.front) ∙ sym (append-nil (t.front ++ more));
  told = Appends-trans start before after t.front more t.told more_told;
  all = λ h e. refl;
}
told-more text more now (Some old) None start before after t (front, left, is, front_told) = record {
  front = t.front ++ front;
  left = left;
  is = ap (λ (x : List ℕ). x ++ more) (t.is ∙ ap (λ (x : List ℕ). t.front ++ x) (t.all old refl) ∙ append-nil t.front) ∙ ap (λ (x : List ℕ). t.front ++ x) is ∙ sym (append_assoc t.front front left);
  told = Appends-trans start before after t.front front t.told front_told;
  all = λ h e. let f : ◌≡◌ {A = Option State} None (Some h) = e in absurd cc;
}

-- what was told of a line is what there is to tell of it
line-told : (old new : Watched) (number : ℕ) (line text : List ℕ) → AnswersLine old.solo number line text new.solo
    → told_text number (decoded_step line) text (shown old.solo) (shown new.solo) ≡ telling old.solo.plan number old.solo.meter line
line-told old new number line text a =
    ap (λ (t : List ℕ). told_text number (decoded_step line) t (shown old.solo) (shown new.solo)) a.1
    ∙ ap (λ (s : Alone). told_text number (decoded_step line) (told old.solo.plan old.solo.meter (tasks_in old.solo.plan (line_of old.solo.plan line))) (shown old.solo) (shown s)) a.2

led-told : (old new : Watched) (count : ℕ) (turns : List Turn) (text : List ℕ) (start : Option (List ℕ)) → Leads AnswersAloud old count turns new → Told text old.watch start old.told
    → Told (text ++ tellings old.solo.plan count old.solo.meter (lines_of turns)) new.watch start new.told
led-told old new count [] text start l t = subst (λ (w : Watched). Told (text ++ []) w.watch start w.told) (sym l) (subst (λ (x : List ℕ). Told x old.watch start old.told) (sym (append-nil text)) t)
led-told old new count (turn ∷ turns) text start l t =
    let plan = old.solo.plan in
    let meter = old.solo.meter in
    let mid = l.0 in
    let one = telling plan (count + 1) meter turn.line in
    let first : Told (text ++ one) mid.watch start mid.told =
    subst (λ (x : List ℕ). Told (text ++ x) mid.watch start mid.told) (line-told old mid (count + 1) turn.line turn.text l.1.0)
    (told-more text _ (shown mid.solo) old.watch mid.watch start old.told mid.told t l.1.1)
    in
    let others = led-told mid new (count + 1) turns (text ++ one) start l.2 first in
    subst (λ (x : List ℕ). Told x new.watch start new.told) (append_assoc text one (tellings plan (count + 1) (meter_behind plan meter turn.line) (lines_of turns)))
    (subst (λ (s : Alone). Told ((text ++ one) ++ tellings s.plan (count + 1) s.meter (lines_of turns)) new.watch start new.told) l.1.0.2 others)

all-told : (old new : Watched) (turns : List Turn) → Leads AnswersAloud old 0 turns new → Told (tellings old.solo.plan 0 old.solo.meter (lines_of turns)) new.watch old.told new.told
all-told old new turns l = led-told old new 0 turns [] old.told l (record { front = []; left = []; is = refl; told = Appends-nil old.told; all = λ held e. refl })

ended-told : (old new : Watched) (before after : Moment) (count : ℕ) (text : List ℕ) → old.solo.meter ≡ start old.solo.plan → Ends AnswersAloud StopsAloud old new before.unread after.unread (Ok count) text
    → TellsAll old.solo.plan before.unread after.unread old.told new.told
ended-told old new before after count text m (turns, [], now, tail, h, t, n, l, end, c) =
    let k = all-told old now turns h.led in (
      lines_of turns,
      [],
      k.front,
      k.left,
      h.read,
      ap (λ (s : State). tellings old.solo.plan 0 s (lines_of turns)) (sym m) ∙ k.is,
      subst (λ (w : Watched). Appends old.told w.told k.front) (sym n.1) k.told,
    )
ended-told old new before after count text m (turns, b ∷ bs, now, tail, h, t, n, l, end, c) =
    let turn : Turn = record { line = b ∷ bs; text = tail } in
    let k = all-told old new (turns ++ turn ∷ []) (Leads-push AnswersAloud old now new 0 (length turns + 1) turns turn h.led n (omega arith)) in (
      lines_of turns,
      b ∷ bs,
      k.front,
      k.left,
      h.read,
      ap (λ (s : State). tellings old.solo.plan 0 s (lines_of turns ++ (b ∷ bs) ∷ [])) (sym m) ∙ ap (tellings old.solo.plan 0 old.solo.meter) (sym (lines-push turns turn)) ∙ k.is,
      k.told,
    )

-- where all lines are answered, what was told is a beginning of what there is to tell of them
pub tells-all : (old new : Watched) (before after : Moment) (r : Result ℕ LineFault) → old.solo.meter ≡ start old.solo.plan → AnswersAll AnswersAloud StopsAloud old new before after r
    → OnOk r (TellsAll old.solo.plan before.unread after.unread old.told new.told)
tells-all old new before after (Ok count) m h =
    elim h.ends [
      | inl e ↦ ended-told old new before after count h.text m e
      | inr b ↦ let f : ◌≡◌ {A = Result ℕ LineFault} (Ok count) (Err Write) = b.0 in absurd cc
    ]
tells-all old new before after (Err fault) m h = tt
