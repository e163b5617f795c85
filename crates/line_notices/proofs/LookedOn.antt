-- A client that looks on: what is written for lines is what the lines ask, one after another.
use Rattle.std.proofs.Common.{◌≡◌, ℕ, ◌+◌, List, [], ◌∷◌, ◌++◌, Result, refl, ap, subst, ◌∙◌, All}
use Rattle.std.proofs.lemmas.List.Elements.{All-cons, All-nil}
use Rattle.line_server.specs.declared.fault.LineFault.{LineFault}
use Rattle.line_server.specs.Lines.{Moment, Turn, lines_of, texts_of, Leads, AnswersAll}
use Rattle.line_server.specs.Running.{IsReadable}
use Rattle.line_server.specs.LineMeter.{StopsOver}
use Rattle.line_server.proofs.Telling.{runs-telling}
use Rattle.line_notices.specs.Onlooking.{Onlooker, AnswersOnlooker, StopsOnlooker, NoticesLines, line_text, lines_text}

-- behind turns it is as it was, and this was written for them
record Looked (o : Onlooker) (turns : List Turn) (now : Onlooker) : Type 0 where
  is : now ≡ o
  texts : texts_of turns ≡ lines_text o (lines_of turns)
  readable : All (IsReadable o.plan) (lines_of turns)

looked : (o : Onlooker) (count : ℕ) (turns : List Turn) (now : Onlooker) → Leads AnswersOnlooker o count turns now → Looked o turns now
looked o count [] now l = record { is = l; texts = refl; readable = All-nil (IsReadable o.plan) }
looked o count (turn ∷ turns) now l =
    let more = looked o (count + 1) turns now (subst (λ (s : Onlooker). Leads AnswersOnlooker s (count + 1) turns now) l.1.2 l.2) in record {
      is = more.is;
      texts = ap (λ (t : List ℕ). t ++ texts_of turns) l.1.1 ∙ ap (λ (t : List ℕ). line_text o turn.line ++ t) more.texts;
      readable = All-cons (IsReadable o.plan) turn.line (lines_of turns) l.1.0 more.readable;
    }

-- all lines
pub notices : {o new : Onlooker} {before after : Moment} (r : Result ℕ LineFault) → AnswersAll AnswersOnlooker StopsOnlooker o new before after r → NoticesLines o before after r
notices {o = o} {new = new} {before = before} {after = after} r h = runs-telling {start = o} {new = new} {plan = o.plan} {telling = lines_text o} {before = before} {after = after} r
    (record {
      texts = λ turns now l. (looked o 0 turns now l).texts;
      readable = λ turns now l. (looked o 0 turns now l).readable;
      faults = λ turns now number line text fault l s. subst (λ (a : Onlooker). StopsOver a.plan number line text fault) (looked o 0 turns now l).is s;
    })
    h
