-- Where the loop of `serve` stands.
use Rattle.std.proofs.Common.{◌≡◌, ℕ, ◌+◌, ◌-◌, ◌*◌, ◌^◌, ◌<◌, ◌≤◌, List, [], ◌∷◌, ◌++◌, length, reverse, Option, Some, None, Ok, Err, refl, sym, ap, subst, ◌∙◌, append_assoc, append-nil, inl, inr, arith, All}
use Rattle.std.specs.Prelude.{IfSome}
use Rattle.std.proofs.lemmas.List.{map-append, reverse-append, length-append, length-map}
use Rattle.std.proofs.lemmas.List.Concat.{flat_map-append}
use Rattle.std.proofs.lemmas.List.Elements.{All-head, All-tail, All-cons, All-nil}
use Rattle.std.proofs.KnownBytes.{Appends-nil, Consumes-trans, Consumes-nil, Consumes-kept, Keeps-refl}
use Rattle.std.specs.Io.KnownBytes.{Consumes, Appends, IsAtEnd, Keeps}
use Rattle.tcp_wrapper.specs.declared.message.Message.{Message}
use Rattle.tcp_wrapper.specs.declared.fault.WrapFault.{WrapFault}
use Rattle.tcp_wrapper.specs.declared.fault.WrapFault.TheVariants as faults
use Rattle.tcp_wrapper.specs.Stream.{frame_of, frames_of, IsFrame, IsPartial, Splits, Reads, Causes}
use Rattle.tcp_wrapper.specs.declared.place.FramePlace.{FramePlace}
use Rattle.tcp_wrapper.specs.Places.{place_behind, moved}
use Rattle.tcp_wrapper.proofs.Places.{moved-behind}
use Rattle.meter_theory.specs.Plan.{Plan}
use Rattle.xdlms_services.specs.Conversation.{Answers, Exchange, Leads, asked_list}
use Rattle.acse_session.specs.Turns.{Turn}
use Rattle.acse_session.specs.Answering.{IsSpoken, kept_of}
use Rattle.acse_session.specs.Keeping.{Kept}
use Rattle.frame_server.specs.declared.fault.ServeFault.{ServeFault}
use Rattle.frame_server.specs.declared.fault.ServeFault.TheVariants.{Read, Write, Wrap, Cut, Memory, GaveUp}
use Rattle.frame_server.specs.Serving.{message_of, messages_of, answer_of, answers_of, conversation_of, Connection, Served, Answered, BeginsWithFrame, Stops, Serves, Run, Talks, AnswersAll, BreaksOff, stop_of_fault}
use Rattle.frame_server.proofs.Talking.{Talks-append}

-- ---- what a run of the session says

Run-spoken : (plan : Plan) (earlier turns : List Turn) (to : Kept) → IsSpoken plan earlier → Run (kept_of plan earlier) turns to → IsSpoken plan (reverse turns ++ earlier)
Run-spoken plan earlier [] to p r = p
Run-spoken plan earlier (t ∷ turns) to p r =
    let s = r.1 earlier refl in
    let rest = Run-spoken plan (t ∷ earlier) turns to (s.0, p) (subst (λ (x : Kept). Run x turns to) s.1 r.2) in
    subst (IsSpoken plan) (sym (append_assoc (reverse turns) (t ∷ []) earlier) ∙ ap (λ (xs : List Turn). xs ++ earlier) (sym (reverse-append (t ∷ []) turns))) rest

pub spoken-from_run : (plan : Plan) (turns : List Turn) (to : Kept) → Run (kept_of plan []) turns to → IsSpoken plan (reverse turns)
spoken-from_run plan turns to r = subst (IsSpoken plan) (append-nil (reverse turns)) (Run-spoken plan [] turns to tt r)

-- ---- parts of a stream

All-parts : (xs ys : List Message) → All IsFrame (xs ++ ys) → All IsFrame xs × All IsFrame ys
All-parts [] ys a = (All-nil IsFrame, a)
All-parts (x ∷ xs) ys a = let p = All-parts xs ys (All-tail IsFrame x (xs ++ ys) a) in (All-cons IsFrame x xs (All-head IsFrame x (xs ++ ys) a) p.0, p.1)

-- the later frames are part of the rest
pub Splits-cut : (stream : List ℕ) (xs ys : List Message) (rest : List ℕ) → Splits stream (xs ++ ys) rest → Splits stream xs (frames_of ys ++ rest)
Splits-cut stream xs ys rest s = record {
  whole = s.whole ∙ ap (λ (t : List ℕ). t ++ rest) (flat_map-append frame_of xs ys) ∙ append_assoc (frames_of xs) (frames_of ys) rest;
  each = (All-parts xs ys s.each).0;
}

begins-there : (stream : List ℕ) (xs : List Message) (f : Message) (ys : List Message) (rest : List ℕ) → Splits stream (xs ++ f ∷ ys) rest → BeginsWithFrame (frames_of (f ∷ ys) ++ rest)
begins-there stream xs f ys rest s = (f, frames_of ys ++ rest, append_assoc (frame_of f) (frames_of ys) rest, All-head IsFrame f ys (All-parts xs (f ∷ ys) s.each).1)

Reads-splits : (stream : List ℕ) (frames : List Message) (fault : Option WrapFault) (held : Option (List ℕ)) → Reads stream frames fault held → (rest : List ℕ) × Splits stream frames rest
Reads-splits stream frames None (Some held) r = (held, r.0)
Reads-splits stream frames None None r = absurd r
Reads-splits stream frames (Some fault) (Some held) r = absurd r
Reads-splits stream frames (Some fault) None r = (r.0, r.1)

-- turns before those of which the last was broken off
breaks-behind : (turns us : List Turn) (written : List ℕ) → BreaksOff us written → BreaksOff (turns ++ us) (answers_of turns ++ written)
breaks-behind turns us written b = record {
  whole = turns ++ b.whole;
  last = b.last;
  front = b.front;
  left = b.left;
  turns_are = ap (λ (ts : List Turn). turns ++ ts) b.turns_are ∙ sym (append_assoc turns b.whole (b.last ∷ []));
  written_is = ap (λ (x : List ℕ). answers_of turns ++ x) b.written_is ∙ sym (append_assoc (answers_of turns) (answers_of b.whole) b.front) ∙ ap (λ (x : List ℕ). x ++ b.front) (sym (flat_map-append answer_of turns b.whole));
  answer_is = b.answer_is;
  some_left = b.some_left;
}

-- ---- places

-- behind the turns so far, and then behind the frames of more of them
pub moved-turns : (place now : FramePlace) (turns us : List Turn) (frames : List Message) → place ≡ place_behind (messages_of turns) → now ≡ moved place frames → messages_of us ≡ frames → now ≡ place_behind (messages_of (turns ++ us))
moved-turns place now turns us frames p n e =
    n ∙ ap (λ (q : FramePlace). moved q frames) p ∙ moved-behind (messages_of turns) frames
    ∙ ap (λ (ms : List Message). place_behind (messages_of turns ++ ms)) (sym e) ∙ ap place_behind (sym (map-append message_of turns us))

module _ {A : Type 0} (answers : Answers A) (plan : Plan) where
  -- the turns so far, all bytes so far, and those of a frame that has begun
  pub record Stands (before after : Connection A) (session : Kept) (feeder : Option (List ℕ)) (place : FramePlace) (total : ℕ) (turns : List Turn) (read held : List ℕ) : Type 0 where
    pub feeds : feeder ≡ Some held
    pub splits : Splits read (messages_of turns) held
    pub partial : IsPartial held
    pub bytes : length read ≡ total
    pub consumed : Consumes before.unread after.unread read
    pub talks : Talks answers before.asker after.asker before.written after.written (kept_of plan []) session turns (conversation_of turns) (answers_of turns)
    pub behind : place ≡ place_behind (messages_of turns)

  pub served : (before after : Connection A) (session : Kept) (turns : List Turn) (read rest : List ℕ) (conversation : List Exchange) (written : List ℕ)
      → Splits read (messages_of turns) rest → Consumes before.unread after.unread read
      → Talks answers before.asker after.asker before.written after.written (kept_of plan []) session turns conversation written
      → Served answers plan before after turns rest conversation written
  served before after session turns read rest conversation written s r t = record {
    each = s.each;
    read = subst (Consumes before.unread after.unread) s.whole r;
    wrote = t.wrote;
    asked = t.asked;
    spoken = spoken-from_run plan turns session t.run;
  }

  -- all that came next were answered
  joined : (before between after : Connection A) (session to : Kept) (turns us : List Turn)
      → Talks answers before.asker between.asker before.written between.written (kept_of plan []) session turns (conversation_of turns) (answers_of turns)
      → Talks answers between.asker after.asker between.written after.written session to us (conversation_of us) (answers_of us)
      → Talks answers before.asker after.asker before.written after.written (kept_of plan []) to (turns ++ us) (conversation_of (turns ++ us)) (answers_of (turns ++ us))
  joined before between after session to turns us t u =
      let talks = Talks-append answers before.asker between.asker after.asker before.written between.written after.written (kept_of plan []) session to turns us (conversation_of us) (answers_of us) t u in
      record {
        run = talks.run;
        asked = subst (λ (xs : List Exchange). Leads answers before.asker xs after.asker) (sym (flat_map-append (λ (v : Turn). asked_list v.asked) turns us)) talks.asked;
        wrote = subst (Appends before.written after.written) (sym (flat_map-append answer_of turns us)) talks.wrote;
      }

  -- Frames that came next were answered, but for one.
  pub stops-in : (before between after : Connection A) (session to : Kept) (turns : List Turn) (read piece : List ℕ) (frames : List Message) (fault : Option WrapFault) (feeder : Option (List ℕ)) (e : ServeFault)
      → Talks answers before.asker between.asker before.written between.written (kept_of plan []) session turns (conversation_of turns) (answers_of turns)
      → Consumes before.unread after.unread (read ++ piece)
      → Reads (read ++ piece) (messages_of turns ++ frames) fault feeder
      → AnswersAll answers between.asker after.asker between.written after.written session to frames (Err e)
      → Stops answers plan before after e
  stops-in before between after session to turns read piece frames fault feeder Write t r f h =
      let s = Reads-splits (read ++ piece) (messages_of turns ++ frames) fault feeder f in
      let split = ap (λ (ms : List Message). messages_of turns ++ ms) h.4 ∙ sym (append_assoc (messages_of turns) (messages_of h.0) h.1) ∙ ap (λ (ms : List Message). ms ++ h.1) (sym (map-append message_of turns h.0)) in
      let cut = Splits-cut (read ++ piece) (messages_of (turns ++ h.0)) h.1 s.0 (subst (λ (ms : List Message). Splits (read ++ piece) ms s.0) split s.1) in
      let talks = Talks-append answers before.asker between.asker after.asker before.written between.written after.written (kept_of plan []) session h.3 turns h.0 (conversation_of h.0) h.2 t h.5 in (
        turns ++ h.0,
        frames_of h.1 ++ s.0,
        answers_of turns ++ h.2,
        subst (λ (xs : List Exchange). Served answers plan before after (turns ++ h.0) (frames_of h.1 ++ s.0) xs (answers_of turns ++ h.2)) (sym (flat_map-append (λ (u : Turn). asked_list u.asked) turns h.0))
            (served before after h.3 (turns ++ h.0) (read ++ piece) (frames_of h.1 ++ s.0) (conversation_of turns ++ conversation_of h.0) (answers_of turns ++ h.2) cut r talks),
        breaks-behind turns h.0 h.2 h.6,
      )
  stops-in before between after session to turns read piece frames fault feeder GaveUp t r f h =
      let s = Reads-splits (read ++ piece) (messages_of turns ++ frames) fault feeder f in
      let split = ap (λ (ms : List Message). messages_of turns ++ ms) h.3 ∙ sym (append_assoc (messages_of turns) (messages_of h.0) (h.1 ∷ h.2)) ∙ ap (λ (ms : List Message). ms ++ h.1 ∷ h.2) (sym (map-append message_of turns h.0)) in
      let all = subst (λ (ms : List Message). Splits (read ++ piece) ms s.0) split s.1 in
      let cut = Splits-cut (read ++ piece) (messages_of (turns ++ h.0)) (h.1 ∷ h.2) s.0 all in (
        turns ++ h.0,
        frames_of (h.1 ∷ h.2) ++ s.0,
        served before after to (turns ++ h.0) (read ++ piece) (frames_of (h.1 ∷ h.2) ++ s.0) (conversation_of (turns ++ h.0)) (answers_of (turns ++ h.0)) cut r (joined before between after session to turns h.0 t h.4),
        begins-there (read ++ piece) (messages_of (turns ++ h.0)) h.1 h.2 s.0 all,
      )
  stops-in before between after session to turns read piece frames fault feeder Memory t r f h =
      let s = Reads-splits (read ++ piece) (messages_of turns ++ frames) fault feeder f in
      let split = ap (λ (ms : List Message). messages_of turns ++ ms) h.5 ∙ sym (append_assoc (messages_of turns) (messages_of h.0) (h.1 ∷ h.2)) ∙ ap (λ (ms : List Message). ms ++ h.1 ∷ h.2) (sym (map-append message_of turns h.0)) in
      let all = subst (λ (ms : List Message). Splits (read ++ piece) ms s.0) split s.1 in
      let cut = Splits-cut (read ++ piece) (messages_of (turns ++ h.0)) (h.1 ∷ h.2) s.0 all in
      let talks = Talks-append answers before.asker between.asker after.asker before.written between.written after.written (kept_of plan []) session h.4 turns h.0 (conversation_of h.0 ++ asked_list h.3) (answers_of h.0) t h.6 in
      let said = sym (append_assoc (conversation_of turns) (conversation_of h.0) (asked_list h.3)) ∙ ap (λ (xs : List Exchange). xs ++ asked_list h.3) (sym (flat_map-append (λ (u : Turn). asked_list u.asked) turns h.0)) in
      let wrote = sym (flat_map-append answer_of turns h.0) in (
        turns ++ h.0,
        frames_of (h.1 ∷ h.2) ++ s.0,
        h.3,
        subst (λ (xs : List Exchange). Served answers plan before after (turns ++ h.0) (frames_of (h.1 ∷ h.2) ++ s.0) xs (answers_of (turns ++ h.0))) said
            (subst (λ (w : List ℕ). Served answers plan before after (turns ++ h.0) (frames_of (h.1 ∷ h.2) ++ s.0) (conversation_of turns ++ (conversation_of h.0 ++ asked_list h.3)) w) wrote
            (served before after h.4 (turns ++ h.0) (read ++ piece) (frames_of (h.1 ∷ h.2) ++ s.0) (conversation_of turns ++ (conversation_of h.0 ++ asked_list h.3)) (answers_of turns ++ answers_of h.0) cut r talks)),
        λ _. begins-there (read ++ piece) (messages_of (turns ++ h.0)) h.1 h.2 s.0 all,
      )
  stops-in before between after session to turns read piece frames fault feeder Read t r f h = absurd h
  stops-in before between after session to turns read piece frames fault feeder (Wrap w place) t r f h = absurd h
  stops-in before between after session to turns read piece frames fault feeder (Cut place) t r f h = absurd h

  -- and then a fault stands
  pub stops-after : (before between after : Connection A) (session to : Kept) (place now : FramePlace) (turns us : List Turn) (read piece : List ℕ) (frames : List Message) (fault : WrapFault) (feeder : Option (List ℕ))
      → Talks answers before.asker between.asker before.written between.written (kept_of plan []) session turns (conversation_of turns) (answers_of turns)
      → place ≡ place_behind (messages_of turns) → now ≡ moved place frames
      → Consumes before.unread after.unread (read ++ piece)
      → Reads (read ++ piece) (messages_of turns ++ frames) (Some fault) feeder
      → messages_of us ≡ frames
      → Talks answers between.asker after.asker between.written after.written session to us (conversation_of us) (answers_of us)
      → Stops answers plan before after (stop_of_fault fault now)
  stops-after before between after session to place now turns us read piece frames fault (Some held) t p n r f e u = absurd f
  stops-after before between after session to place now turns us read piece frames fault None t p n r f e u =
      let split = ap (λ (ms : List Message). messages_of turns ++ ms) (sym e) ∙ sym (map-append message_of turns us) in
      let all = served before after to (turns ++ us) (read ++ piece) f.0 (conversation_of (turns ++ us)) (answers_of (turns ++ us)) (subst (λ (ms : List Message). Splits (read ++ piece) ms f.0) split f.1) r (joined before between after session to turns us t u) in
      by_fault before after now (turns ++ us) f.0 fault all (moved-turns place now turns us frames p n e) f.2
    where
      by_fault : (before after : Connection A) (now : FramePlace) (turns : List Turn) (rest : List ℕ) (fault : WrapFault)
          → Answered answers plan before after turns rest → now ≡ place_behind (messages_of turns) → Causes fault rest → Stops answers plan before after (stop_of_fault fault now)
      by_fault before after now turns rest faults.Version a n c = (turns, rest, a, c, n)
      by_fault before after now turns rest faults.Destination a n c = (turns, rest, a, c, n)
      by_fault before after now turns rest faults.Length a n c = (turns, rest, a, c, n)
      by_fault before after now turns rest faults.Memory a n c = (turns, rest, None, subst (λ (xs : List Exchange). Served answers plan before after turns rest xs (answers_of turns)) (sym (append-nil (conversation_of turns))) a, λ h. absurd cc)
      by_fault before after now turns rest faults.Failed a n c = absurd c

  -- or the loop goes on
  pub stands-on : (before between after : Connection A) (session to : Kept) (feeder : Option (List ℕ)) (place now : FramePlace) (total : ℕ) (turns us : List Turn) (read piece : List ℕ) (frames : List Message) (fault : Option WrapFault)
      → Talks answers before.asker between.asker before.written between.written (kept_of plan []) session turns (conversation_of turns) (answers_of turns)
      → place ≡ place_behind (messages_of turns) → now ≡ moved place frames → length read ≡ total
      → Consumes before.unread after.unread (read ++ piece)
      → Reads (read ++ piece) (messages_of turns ++ frames) fault feeder → fault ≡ None
      → messages_of us ≡ frames
      → Talks answers between.asker after.asker between.written after.written session to us (conversation_of us) (answers_of us)
      → (held : List ℕ) × Stands before after to feeder now (total + length piece) (turns ++ us) (read ++ piece) held
  stands-on before between after session to None place now total turns us read piece frames None t p n l r f none e u = absurd f
  stands-on before between after session to (Some held) place now total turns us read piece frames (Some fault) t p n l r f none e u = absurd f
  stands-on before between after session to None place now total turns us read piece frames (Some fault) t p n l r f none e u = absurd cc
  stands-on before between after session to (Some held) place now total turns us read piece frames None t p n l r f none e u =
      let split = ap (λ (ms : List Message). messages_of turns ++ ms) (sym e) ∙ sym (map-append message_of turns us) in (
        held,
        record {
          feeds = refl;
          splits = subst (λ (ms : List Message). Splits (read ++ piece) ms held) split f.0;
          partial = f.1;
          bytes = omega (arith, length-append read piece);
          consumed = r;
          talks = joined before between after session to turns us t u;
          behind = moved-turns place now turns us frames p n e;
        },
      )

  pub stands-init : (b : Connection A) (session : Kept) (feeder : Option (List ℕ)) (place : FramePlace) → session ≡ kept_of plan [] → feeder ≡ Some [] → place ≡ place_behind [] → Stands b b session feeder place 0 [] [] []
  stands-init b session feeder place s f p = record {
    feeds = f;
    splits = record { whole = refl; each = All-nil IsFrame };
    partial = inl (omega arith);
    bytes = refl;
    consumed = Consumes-nil b.unread;
    talks = record { run = s; asked = refl; wrote = Appends-nil b.written };
    behind = p;
  }

  -- a later moment, at which more was read
  abbrev pub later : Connection A → Option (List ℕ) → Connection A
  later m unread = record { asker = m.asker; unread = unread; written = m.written }

  pub stops-reading : (before m : Connection A) (session : Kept) (feeder : Option (List ℕ)) (place : FramePlace) (total : ℕ) (turns : List Turn) (read held : List ℕ) (unread : Option (List ℕ))
      → Stands before m session feeder place total turns read held → Keeps m.unread unread → Stops answers plan before (later m unread) Read
  stops-reading before m session feeder place total turns read held unread s k =
      (turns, held, served before (later m unread) session turns read held (conversation_of turns) (answers_of turns) s.splits (Consumes-kept before.unread m.unread unread read s.consumed k) s.talks, inl s.partial)

  pub stops-counting : (before m : Connection A) (session : Kept) (feeder : Option (List ℕ)) (place : FramePlace) (total : ℕ) (turns : List Turn) (read held piece : List ℕ) (unread : Option (List ℕ))
      → Stands before m session feeder place total turns read held → Consumes m.unread unread piece → 2 ^ 64 ≤ total + length piece → Stops answers plan before (later m unread) Read
  stops-counting before m session feeder place total turns read held piece unread s k long =
      let more : Splits (read ++ piece) (messages_of turns) (held ++ piece) = record { whole = ap (λ (t : List ℕ). t ++ piece) s.splits.whole ∙ append_assoc (frames_of (messages_of turns)) held piece; each = s.splits.each } in (
        turns,
        held ++ piece,
        served before (later m unread) session turns (read ++ piece) (held ++ piece) (conversation_of turns) (answers_of turns) more (Consumes-trans before.unread m.unread unread read piece s.consumed k) s.talks,
        inr (omega (arith, ap (λ (t : List ℕ). length t) more.whole, length-append read piece, s.bytes)),
      )

  ends : (before m : Connection A) (session : Kept) (feeder : Option (List ℕ)) (place : FramePlace) (total : ℕ) (turns : List Turn) (read held : List ℕ) (unread : Option (List ℕ))
      → Stands before m session feeder place total turns read held → Consumes m.unread unread [] → Answered answers plan before (later m unread) turns held
  ends before m session feeder place total turns read held unread s k =
      served before (later m unread) session turns read held (conversation_of turns) (answers_of turns) s.splits (subst (Consumes before.unread unread) (append-nil read) (Consumes-trans before.unread m.unread unread read [] s.consumed k)) s.talks

  some_is : (a b : List ℕ) (o : Option (List ℕ)) → o ≡ Some a → o ≡ Some b → a ≡ b
  some_is a b o e f = let g : ◌≡◌ {A = Option (List ℕ)} (Some a) (Some b) = sym e ∙ f in cc

  -- as many turns stand before a place as frames do
  counted : (before m : Connection A) (session : Kept) (feeder : Option (List ℕ)) (place : FramePlace) (total : ℕ) (turns : List Turn) (read held : List ℕ)
      → Stands before m session feeder place total turns read held → place.frame - 1 ≡ length turns
  counted before m session feeder place total turns read held s =
      omega (arith, ap (λ (p : FramePlace). p.frame) s.behind, length-map turns message_of)

  pub ends-clean : (before m : Connection A) (session : Kept) (feeder : Option (List ℕ)) (place : FramePlace) (total : ℕ) (turns : List Turn) (read held : List ℕ) (unread : Option (List ℕ))
      → Stands before m session feeder place total turns read held → Consumes m.unread unread [] → IsAtEnd unread → feeder ≡ Some [] → Serves answers plan before (later m unread) (Ok (place.frame - 1))
  ends-clean before m session feeder place total turns read held unread s k e f =
      (turns, subst (Answered answers plan before (later m unread) turns) (some_is held [] feeder s.feeds f) (ends before m session feeder place total turns read held unread s k), e, counted before m session feeder place total turns read held s)

  positive : (held : List ℕ) → (held ≡ [] → ⊥) → 0 < length held
  positive [] h = absurd (h refl)
  positive (x ∷ xs) h = omega arith

  pub ends-cut : (before m : Connection A) (session : Kept) (feeder : Option (List ℕ)) (place : FramePlace) (total : ℕ) (turns : List Turn) (read held : List ℕ) (unread : Option (List ℕ))
      → Stands before m session feeder place total turns read held → Consumes m.unread unread [] → IsAtEnd unread → (feeder ≡ Some [] → ⊥) → Stops answers plan before (later m unread) (Cut place)
  ends-cut before m session feeder place total turns read held unread s k e f =
      (turns, held, ends before m session feeder place total turns read held unread s k, s.partial, positive held (λ g. f (s.feeds ∙ ap (λ (t : List ℕ). let o : Option (List ℕ) = Some t in o) g)), e, s.behind)

  -- what `feed` says of the bytes that were held
  abbrev pub Feeds : Option (List ℕ) → List ℕ → List Message → Option WrapFault → Option (List ℕ) → Type 0
  Feeds feeder piece frames fault new = IfSome feeder (λ held. (before : List ℕ) (given : List Message) → Splits before given held → Reads (before ++ piece) (given ++ frames) fault new)

  reads_at : (feeder : Option (List ℕ)) (held piece : List ℕ) (frames : List Message) (fault : Option WrapFault) (new : Option (List ℕ)) (read : List ℕ) (given : List Message)
      → feeder ≡ Some held → Feeds feeder piece frames fault new → Splits read given held → Reads (read ++ piece) (given ++ frames) fault new
  reads_at feeder held piece frames fault new read given e f s = (subst (λ (o : Option (List ℕ)). Feeds o piece frames fault new) e f) read given s

  pub piece-stops : (before m after : Connection A) (session to : Kept) (feeder new : Option (List ℕ)) (place : FramePlace) (total : ℕ) (turns : List Turn) (read held piece : List ℕ) (frames messages : List Message) (fault : Option WrapFault) (e : ServeFault)
      → Stands before m session feeder place total turns read held → Feeds feeder piece frames fault new → Consumes m.unread after.unread piece → messages ≡ frames
      → AnswersAll answers m.asker after.asker m.written after.written session to messages (Err e) → Stops answers plan before after e
  piece-stops before m after session to feeder new place total turns read held piece frames messages fault e s f c same a =
      stops-in before m after session to turns read piece frames fault new e s.talks (Consumes-trans before.unread m.unread after.unread read piece s.consumed c) (reads_at feeder held piece frames fault new read (messages_of turns) s.feeds f s.splits)
      (subst (λ (ms : List Message). AnswersAll answers m.asker after.asker m.written after.written session to ms (Err e)) same a)

  pub piece-ends : (before m after : Connection A) (session to : Kept) (feeder new : Option (List ℕ)) (place now : FramePlace) (total : ℕ) (turns : List Turn) (read held piece : List ℕ) (frames messages : List Message) (fault : Option WrapFault) (why : WrapFault) (u : Unit {0})
      → Stands before m session feeder place total turns read held → Feeds feeder piece frames fault new → Consumes m.unread after.unread piece → messages ≡ frames
      → AnswersAll answers m.asker after.asker m.written after.written session to messages (Ok u) → now ≡ moved place messages → fault ≡ Some why → Stops answers plan before after (stop_of_fault why now)
  piece-ends before m after session to feeder new place now total turns read held piece frames messages fault why u s f c same a n some =
      let reads = reads_at feeder held piece frames fault new read (messages_of turns) s.feeds f s.splits in
      stops-after before m after session to place now turns a.0 read piece frames why new s.talks s.behind (n ∙ ap (moved place) same) (Consumes-trans before.unread m.unread after.unread read piece s.consumed c)
      (subst (λ (o : Option WrapFault). Reads (read ++ piece) (messages_of turns ++ frames) o new) some reads) (a.1 ∙ same) a.2

  pub piece-stands : (before m after : Connection A) (session to : Kept) (feeder new : Option (List ℕ)) (place now : FramePlace) (total sum : ℕ) (turns : List Turn) (read held piece : List ℕ) (frames messages : List Message) (fault : Option WrapFault) (u : Unit {0})
      → Stands before m session feeder place total turns read held → Feeds feeder piece frames fault new → Consumes m.unread after.unread piece → messages ≡ frames
      → AnswersAll answers m.asker after.asker m.written after.written session to messages (Ok u) → now ≡ moved place messages → fault ≡ None
      → sum ≡ total + length piece
      → (ts : List Turn) × (bytes : List ℕ) × (left : List ℕ) × Stands before after to new now sum ts bytes left
  piece-stands before m after session to feeder new place now total sum turns read held piece frames messages fault u s f c same a n none t =
      let reads = reads_at feeder held piece frames fault new read (messages_of turns) s.feeds f s.splits in
      let on = stands-on before m after session to new place now total turns a.0 read piece frames fault s.talks s.behind (n ∙ ap (moved place) same) s.bytes (Consumes-trans before.unread m.unread after.unread read piece s.consumed c) reads none (a.1 ∙ same) a.2 in
      (turns ++ a.0, read ++ piece, on.0, rw t on.1)

  -- each frame has a header of eight bytes
  frames-short : (ms : List Message) → 8 * length ms ≤ length (frames_of ms)
  frames-short [] = omega arith
  frames-short (m ∷ ms) = omega (arith, frames-short ms, length-append (frame_of m) (frames_of ms))

  -- the place of the next frame has a number that isn't 0
  pub some-frame : (before m : Connection A) (session : Kept) (feeder : Option (List ℕ)) (place : FramePlace) (total : ℕ) (turns : List Turn) (read held : List ℕ)
      → Stands before m session feeder place total turns read held → 0 < place.frame
  some-frame before m session feeder place total turns read held s = omega (arith, ap (λ (p : FramePlace). p.frame) s.behind)

  -- no more frames than there is room for in the bytes so far
  pub few-frames : (before m : Connection A) (session : Kept) (feeder new : Option (List ℕ)) (place : FramePlace) (total : ℕ) (turns : List Turn) (read held piece : List ℕ) (frames messages : List Message) (fault : Option WrapFault)
      → Stands before m session feeder place total turns read held → Feeds feeder piece frames fault new → messages ≡ frames
      → (8 * (place.frame + length messages) ≤ 8 + (total + length piece)) × (place.byte + length (frames_of messages) ≤ total + length piece)
  few-frames before m session feeder new place total turns read held piece frames messages fault s f same =
      let reads = reads_at feeder held piece frames fault new read (messages_of turns) s.feeds f s.splits in
      let p = Reads-splits (read ++ piece) (messages_of turns ++ frames) fault new reads in
      let now = ap (λ (q : FramePlace). moved q frames) s.behind ∙ moved-behind (messages_of turns) frames in
      let bytes = ap (λ (t : List ℕ). length t) p.1.whole ∙ length-append (frames_of (messages_of turns ++ frames)) p.0 in
      let read_so_far = length-append read piece in (
        rw same (omega (arith, frames-short (messages_of turns ++ frames), ap (λ (q : FramePlace). q.frame) now, bytes, read_so_far, s.bytes)),
        rw same (omega (arith, ap (λ (q : FramePlace). q.byte) now, bytes, read_so_far, s.bytes)),
      )

  pub stops-at_limit : (before m : Connection A) (session : Kept) (feeder : Option (List ℕ)) (place : FramePlace) (total : ℕ) (turns : List Turn) (read held : List ℕ)
      → Stands before m session feeder place total turns read held → Stops answers plan before m Read
  stops-at_limit before m session feeder place total turns read held s =
      stops-reading before m session feeder place total turns read held m.unread s (Keeps-refl m.unread)
