-- Turns, one after another.
use Rattle.std.proofs.Common.{◌≡◌, ℕ, List, [], ◌∷◌, ◌++◌, Option, Err, refl, sym, ap, subst, ◌∙◌, append_assoc, append-nil}
use Rattle.std.proofs.lemmas.List.{map-append}
use Rattle.std.proofs.lemmas.List.Concat.{flat_map-append}
use Rattle.std.proofs.KnownBytes.{Appends-trans, Appends-nil}
use Rattle.std.specs.Io.KnownBytes.{Appends}
use Rattle.tcp_wrapper.specs.declared.message.Message.{Message}
use Rattle.xdlms_services.specs.Conversation.{Answers, Exchange, Leads, asked_list}
use Rattle.acse_session.specs.Turns.{Turn}
use Rattle.acse_session.specs.Answering.{Speaks}
use Rattle.acse_session.specs.Keeping.{Kept}
use Rattle.frame_server.specs.declared.fault.ServeFault.{ServeFault}
use Rattle.frame_server.specs.declared.fault.ServeFault.TheVariants.{Read, Write, Wrap, Cut, Memory, GaveUp}
use Rattle.frame_server.specs.Serving.{message_of, messages_of, answer_of, answers_of, conversation_of, Run, Talks, AnswersOne, AnswersAll}

-- ---- one turn more

pub answers_of-push : (turns : List Turn) (t : Turn) → answers_of (turns ++ t ∷ []) ≡ answers_of turns ++ answer_of t
answers_of-push turns t = flat_map-append answer_of turns (t ∷ []) ∙ ap (λ (x : List ℕ). answers_of turns ++ x) (append-nil (answer_of t))

pub conversation_of-push : (turns : List Turn) (t : Turn) → conversation_of (turns ++ t ∷ []) ≡ conversation_of turns ++ asked_list t.asked
conversation_of-push turns t = flat_map-append (λ (u : Turn). asked_list u.asked) turns (t ∷ []) ∙ ap (λ (x : List Exchange). conversation_of turns ++ x) (append-nil (asked_list t.asked))

pub Run-push : (from : Kept) (turns : List Turn) (mid : Kept) (t : Turn) (to : Kept) → Run from turns mid → Speaks mid to t → Run from (turns ++ t ∷ []) to
Run-push from [] mid t to r s = (to, subst (λ (x : Kept). Speaks x to t) r s, refl)
Run-push from (u ∷ turns) mid t to r s = (r.0, r.1, Run-push r.0 turns mid t to r.2 s)

pub Run-append : (from : Kept) (ts us : List Turn) (mid to : Kept) → Run from ts mid → Run mid us to → Run from (ts ++ us) to
Run-append from [] us mid to r s = subst (λ (x : Kept). Run x us to) r s
Run-append from (t ∷ ts) us mid to r s = (r.0, r.1, Run-append r.0 ts us mid to r.2 s)

module _ {A : Type 0} (answers : Answers A) where
  pub Leads-append : (old : A) (xs ys : List Exchange) (mid new : A) → Leads answers old xs mid → Leads answers mid ys new → Leads answers old (xs ++ ys) new
  Leads-append old [] ys mid new p q = subst (λ (a : A). Leads answers a ys new) p q
  Leads-append old (x ∷ xs) ys mid new p q = (p.0, p.1, Leads-append p.0 xs ys mid new p.2 q)

  -- the turns so far, and one more of which this much was written
  pub Talks-more : (old mid new : A) (w0 w1 w2 : Option (List ℕ)) (s0 s1 s2 : Kept) (turns : List Turn) (t : Turn) (written : List ℕ)
      → Talks answers old mid w0 w1 s0 s1 turns (conversation_of turns) (answers_of turns)
      → Speaks s1 s2 t → Leads answers mid (asked_list t.asked) new → Appends w1 w2 written
      → Talks answers old new w0 w2 s0 s2 (turns ++ t ∷ []) (conversation_of (turns ++ t ∷ [])) (answers_of turns ++ written)
  Talks-more old mid new w0 w1 w2 s0 s1 s2 turns t written k s l a = record {
    run = Run-push s0 turns s1 t s2 k.run s;
    asked = subst (λ (xs : List Exchange). Leads answers old xs new) (sym (conversation_of-push turns t)) (Leads-append old (conversation_of turns) (asked_list t.asked) mid new k.asked l);
    wrote = Appends-trans w0 w1 w2 (answers_of turns) written k.wrote a;
  }

  -- the turns so far, and more of them
  pub Talks-append : (old mid new : A) (w0 w1 w2 : Option (List ℕ)) (s0 s1 s2 : Kept) (ts us : List Turn) (conversation : List Exchange) (written : List ℕ)
      → Talks answers old mid w0 w1 s0 s1 ts (conversation_of ts) (answers_of ts)
      → Talks answers mid new w1 w2 s1 s2 us conversation written
      → Talks answers old new w0 w2 s0 s2 (ts ++ us) (conversation_of ts ++ conversation) (answers_of ts ++ written)
  Talks-append old mid new w0 w1 w2 s0 s1 s2 ts us conversation written k m = record {
    run = Run-append s0 ts us s1 s2 k.run m.run;
    asked = Leads-append old (conversation_of ts) conversation mid new k.asked m.asked;
    wrote = Appends-trans w0 w1 w2 (answers_of ts) written k.wrote m.wrote;
  }

  pub Talks-none : (a : A) (w : Option (List ℕ)) (s : Kept) → Talks answers a a w w s s [] [] []
  Talks-none a w s = record { run = refl; asked = refl; wrote = Appends-nil w }

  -- the frame after those that were answered could not be
  pub stops-there : (old mid new : A) (w0 w1 w2 : Option (List ℕ)) (s0 s1 s2 : Kept) (turns : List Turn) (messages : List Message) (f : Message) (more : List Message) (e : ServeFault)
      → messages ≡ messages_of turns ++ f ∷ more
      → Talks answers old mid w0 w1 s0 s1 turns (conversation_of turns) (answers_of turns)
      → AnswersOne answers mid new w1 w2 s1 s2 f (Err e)
      → AnswersAll answers old new w0 w2 s0 s2 messages (Err e)
  stops-there old mid new w0 w1 w2 s0 s1 s2 turns messages f more Write split k h = (
    turns ++ h.0 ∷ [],
    more,
    answers_of turns ++ h.1,
    s2,
    split ∙ ap (λ (x : Message). messages_of turns ++ x ∷ more) (sym h.3) ∙ sym (append_assoc (messages_of turns) (message_of h.0 ∷ []) more) ∙ ap (λ (xs : List Message). xs ++ more) (sym (map-append message_of turns (h.0 ∷ []))),
    Talks-more old mid new w0 w1 w2 s0 s1 s2 turns h.0 h.1 k h.4 h.5 h.6,
    record { whole = turns; last = h.0; front = h.1; left = h.2; turns_are = refl; written_is = refl; answer_is = h.7; some_left = h.8 },
  )
  stops-there old mid new w0 w1 w2 s0 s1 s2 turns messages f more Memory split k h = (
    turns,
    f,
    more,
    h.0,
    s1,
    split,
    record {
      run = k.run;
      asked = Leads-append old (conversation_of turns) (asked_list h.0) mid new k.asked h.1;
      wrote = subst (λ (w : Option (List ℕ)). Appends w0 w (answers_of turns)) (sym h.2) k.wrote;
    },
  )
  stops-there old mid new w0 w1 w2 s0 s1 s2 turns messages f more GaveUp split k h =
      (turns, f, more, split, rw (h.0, h.1, h.2) k)
  stops-there old mid new w0 w1 w2 s0 s1 s2 turns messages f more Read split k h = absurd h
  stops-there old mid new w0 w1 w2 s0 s1 s2 turns messages f more (Wrap fault place) split k h = absurd h
  stops-there old mid new w0 w1 w2 s0 s1 s2 turns messages f more (Cut place) split k h = absurd h
