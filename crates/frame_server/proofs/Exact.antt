-- Where a wrong header or a part of a frame stands in a frame's place, that is the end.
use Rattle.std.proofs.Common.{◌≡◌, ℕ, ◌+◌, ◌<◌, ◌≤◌, List, [], ◌++◌, length, Option, Some, None, Result, Ok, Err, refl, sym, ap, subst, ◌∙◌, append_assoc, append-nil, inl, inr, ◌⊎◌, arith}
use Rattle.std.specs.Io.KnownBytes.{Consumes, IsAtEnd}
use Rattle.tcp_wrapper.specs.declared.message.Message.{Message}
use Rattle.tcp_wrapper.specs.declared.fault.WrapFault.{WrapFault}
use Rattle.tcp_wrapper.specs.Stream.{frames_of, IsPartial, Refuses, Splits, header_fault, word_at}
use Rattle.tcp_wrapper.proofs.Reading.{one_reading}
use Rattle.tcp_wrapper.specs.declared.place.FramePlace.{FramePlace}
use Rattle.tcp_wrapper.specs.Places.{place_behind}
use Rattle.std.proofs.lemmas.List.{length-append, length-map, get_or_append_left}
use Rattle.meter_theory.specs.Plan.{Plan}
use Rattle.xdlms_services.specs.Conversation.{Answers}
use Rattle.acse_session.specs.Turns.{Turn}
use Rattle.frame_server.specs.declared.fault.ServeFault.{ServeFault}
use Rattle.frame_server.specs.declared.fault.ServeFault.TheVariants.{Read, Write, Wrap, Cut, Memory, GaveUp}
use Rattle.frame_server.specs.Serving.{message_of, messages_of, Connection, Answered, Serves, IsOther}

-- all known bytes are the frames and the rest
all-read : (input : List ℕ) (before after : Option (List ℕ)) (bytes : List ℕ) → before ≡ Some input → Consumes before after bytes → IsAtEnd after → input ≡ bytes
all-read input None after bytes e c end = absurd cc
all-read input (Some x) None bytes e c end = absurd c
all-read input (Some x) (Some y) bytes e c end = let same : x ≡ input = cc in sym same ∙ c ∙ ap (λ (t : List ℕ). bytes ++ t) end ∙ append-nil bytes

some-read : (input : List ℕ) (before after : Option (List ℕ)) (bytes : List ℕ) → before ≡ Some input → Consumes before after bytes → (more : List ℕ) × (input ≡ bytes ++ more)
some-read input None after bytes e c = absurd cc
some-read input (Some x) None bytes e c = absurd c
some-read input (Some x) (Some y) bytes e c = let same : x ≡ input = cc in (y, sym same ∙ c)

-- ---- headers

word_at-append : (a b : List ℕ) (i : ℕ) → i + 1 < length a → word_at (a ++ b) i ≡ word_at a i
word_at-append a b i h = rw (get_or_append_left a b 0 i (omega arith), get_or_append_left a b 0 (i + 1) h) refl

header_fault-append : (a b : List ℕ) → 8 ≤ length a → header_fault (a ++ b) ≡ header_fault a
header_fault-append a b h = rw (word_at-append a b 0 (omega arith), word_at-append a b 4 (omega arith), word_at-append a b 6 (omega arith)) refl

partial-refused : (bytes : List ℕ) (fault : WrapFault) → IsPartial bytes → Refuses fault bytes → ⊥
partial-refused bytes fault (inl short) r = omega (arith, r.0)
partial-refused bytes fault (inr p) r = let none = p.1 in let some = r.1 in absurd cc

exact-partial : (stream : List ℕ) (fs gs : List Message) (r q : List ℕ) (fault : WrapFault) → Splits stream fs r → IsPartial r → Splits stream gs q → Refuses fault q → ⊥
exact-partial stream fs gs r q fault s p t f =
    let one = one_reading stream fs gs r q s t (inl p) (inr (fault, f)) in
    partial-refused r fault p (subst (λ (x : List ℕ). Refuses fault x) (sym one.1) f)

module _ {A : Type 0} (answers : Answers A) (plan : Plan) where
  splits-all : (before after : Connection A) (input : List ℕ) (turns : List Turn) (rest : List ℕ) → before.unread ≡ Some input → Answered answers plan before after turns rest → IsAtEnd after.unread → Splits input (messages_of turns) rest
  splits-all before after input turns rest e s end = record { whole = all-read input before.unread after.unread _ e s.read end; each = s.each }

  refused-more : (fault : WrapFault) (a b : List ℕ) → Refuses fault a → Refuses fault (a ++ b)
  refused-more fault a b h = (omega (arith, h.0, length-append a b), header_fault-append a b h.0 ∙ h.1)

  -- the first fault, and the frames before it
  same-fault : (input : List ℕ) (fs gs : List Message) (r q : List ℕ) (f g : WrapFault) → Splits input fs r → Refuses f r → Splits input gs q → Refuses g q → (f ≡ g) × (fs ≡ gs)
  same-fault input fs gs r q f g s h t k =
      let one = one_reading input fs gs r q s t (inr (f, h)) (inr (g, k)) in
      let first = h.1 in
      let second = subst (λ (x : List ℕ). Refuses g x) (sym one.1) k in
      let last = second.1 in
      let same : f ≡ g = cc in
      (same, one.0)

  abbrev wrapped : WrapFault → FramePlace → Result ℕ ServeFault
  wrapped fault place = Err (Wrap fault place)

  abbrev cut : FramePlace → Result ℕ ServeFault
  cut place = Err (Cut place)

  pub exact-wrap : (before after : Connection A) (result : Result ℕ ServeFault) → Serves answers plan before after result
      → (input : List ℕ) (frames : List Message) (rest : List ℕ) (fault : WrapFault) → before.unread ≡ Some input → Splits input frames rest → Refuses fault rest → (result ≡ Err (Wrap fault (place_behind frames))) ⊎ IsOther result
  exact-wrap before after (Ok n) s input frames rest fault e t f = absurd (exact-partial input (messages_of s.0) frames [] rest fault (splits-all before after input s.0 [] e s.1 s.2) (inl (omega arith)) t f)
  exact-wrap before after (Err Read) s input frames rest fault e t f = inr tt
  exact-wrap before after (Err Write) s input frames rest fault e t f = inr tt
  exact-wrap before after (Err (Wrap other place)) s input frames rest fault e t f =
      let p = some-read input before.unread after.unread _ e s.2.read in
      let split : Splits input (messages_of s.0) (s.1 ++ p.0) = record { whole = p.1 ∙ append_assoc (frames_of (messages_of s.0)) s.1 p.0; each = s.2.each } in
      let same = same-fault input (messages_of s.0) frames (s.1 ++ p.0) rest other fault split (refused-more other s.1 p.0 s.3) t f in
      inl (ap (λ (w : WrapFault). wrapped w place) same.0 ∙ ap (wrapped fault) (s.4 ∙ ap place_behind same.1))
  exact-wrap before after (Err (Cut place)) s input frames rest fault e t f = absurd (exact-partial input (messages_of s.0) frames s.1 rest fault (splits-all before after input s.0 s.1 e s.2 s.5) s.3 t f)
  exact-wrap before after (Err Memory) s input frames rest fault e t f = inr tt
  exact-wrap before after (Err GaveUp) s input frames rest fault e t f = inr tt

  pub exact-cut : (before after : Connection A) (result : Result ℕ ServeFault) → Serves answers plan before after result
      → (input : List ℕ) (frames : List Message) (rest : List ℕ) → before.unread ≡ Some input → Splits input frames rest → IsPartial rest → 0 < length rest → (result ≡ Err (Cut (place_behind frames))) ⊎ IsOther result
  exact-cut before after (Ok n) s input frames rest e t p l =
      let one = one_reading input (messages_of s.0) frames [] rest (splits-all before after input s.0 [] e s.1 s.2) t (inl (inl (omega arith))) (inl p) in
      absurd (omega (arith, ap (λ (x : List ℕ). length x) one.1))
  exact-cut before after (Err Read) s input frames rest e t p l = inr tt
  exact-cut before after (Err Write) s input frames rest e t p l = inr tt
  exact-cut before after (Err (Wrap other place)) s input frames rest e t p l =
      let q = some-read input before.unread after.unread _ e s.2.read in
      let split : Splits input (messages_of s.0) (s.1 ++ q.0) = record { whole = q.1 ∙ append_assoc (frames_of (messages_of s.0)) s.1 q.0; each = s.2.each } in
      absurd (exact-partial input frames (messages_of s.0) rest (s.1 ++ q.0) other t p split (refused-more other s.1 q.0 s.3))
  exact-cut before after (Err (Cut place)) s input frames rest e t p l =
      let one = one_reading input (messages_of s.0) frames s.1 rest (splits-all before after input s.0 s.1 e s.2 s.5) t (inl s.3) (inl p) in
      inl (ap cut (s.6 ∙ ap place_behind one.0))
  exact-cut before after (Err Memory) s input frames rest e t p l = inr tt
  exact-cut before after (Err GaveUp) s input frames rest e t p l = inr tt

  pub exact-whole : (before after : Connection A) (result : Result ℕ ServeFault) → Serves answers plan before after result
      → (input : List ℕ) (frames : List Message) → before.unread ≡ Some input → Splits input frames [] → (result ≡ Ok (length frames)) ⊎ IsOther result
  exact-whole before after (Ok n) s input frames e t =
      let one = one_reading input (messages_of s.0) frames [] [] (splits-all before after input s.0 [] e s.1 s.2) t (inl (inl (omega arith))) (inl (inl (omega arith))) in
      inl (ap (λ (k : ℕ). let r : Result ℕ ServeFault = Ok k in r) (s.3 ∙ sym (length-map s.0 message_of) ∙ ap (λ (ms : List Message). length ms) one.0))
  exact-whole before after (Err Read) s input frames e t = inr tt
  exact-whole before after (Err Write) s input frames e t = inr tt
  exact-whole before after (Err (Wrap other place)) s input frames e t =
      let q = some-read input before.unread after.unread _ e s.2.read in
      let split : Splits input (messages_of s.0) (s.1 ++ q.0) = record { whole = q.1 ∙ append_assoc (frames_of (messages_of s.0)) s.1 q.0; each = s.2.each } in
      absurd (exact-partial input frames (messages_of s.0) [] (s.1 ++ q.0) other t (inl (omega arith)) split (refused-more other s.1 q.0 s.3))
  exact-whole before after (Err (Cut place)) s input frames e t =
      let one = one_reading input (messages_of s.0) frames s.1 [] (splits-all before after input s.0 s.1 e s.2 s.5) t (inl s.3) (inl (inl (omega arith))) in
      absurd (omega (arith, s.4, ap (λ (x : List ℕ). length x) one.1))
  exact-whole before after (Err Memory) s input frames e t = inr tt
  exact-whole before after (Err GaveUp) s input frames e t = inr tt
