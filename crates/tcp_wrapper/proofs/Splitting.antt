-- A stream that is split into frames and a rest goes on.
use Rattle.std.proofs.Common.{◌≡◌, ℕ, ◌+◌, ◌<◌, ◌≤◌, List, [], ◌∷◌, ◌++◌, length, Option, Some, None, refl, sym, ap, ◌∙◌, append_assoc, append-nil, inl, arith}
use Rattle.std.proofs.lemmas.List.{get_or_append_left, length-append}
use Rattle.std.proofs.lemmas.List.Elements.{All-push, All-append, All-nil}
use Rattle.std.proofs.lemmas.List.Concat.{flat_map-append}
use Rattle.tcp_wrapper.specs.Stream.{Splits, IsPartial, Refuses, Causes, word_at, header_fault, IsFrame, frame_of, frames_of}
use Rattle.tcp_wrapper.specs.Judging.{Leaves}
use Rattle.tcp_wrapper.specs.declared.message.Message.{Message}
use Rattle.tcp_wrapper.specs.declared.fault.WrapFault.{WrapFault}
use Rattle.tcp_wrapper.specs.declared.fault.WrapFault.TheVariants.{Version, Destination, Length, Memory, Failed}

-- ---- streams

-- nothing was taken of the bytes yet
pub Splits-nil : (bytes : List ℕ) → Splits bytes [] bytes
Splits-nil bytes = record { whole = refl; each = All-nil IsFrame }

-- the rest begins with a frame
pub Splits-frame : (stream : List ℕ) (frames : List Message) (rest behind : List ℕ) (f : Message) → rest ≡ frame_of f ++ behind → IsFrame f → Splits stream frames rest → Splits stream (frames ++ f ∷ []) behind
Splits-frame stream frames rest behind f e p s = record {
  whole = s.whole
      ∙ ap (λ (t : List ℕ). frames_of frames ++ t) e
      ∙ sym (append_assoc (frames_of frames) (frame_of f) behind)
      ∙ ap (λ (t : List ℕ). (frames_of frames ++ t) ++ behind) (sym (append-nil (frame_of f)))
      ∙ ap (λ (t : List ℕ). t ++ behind) (sym (flat_map-append frame_of frames (f ∷ [])));
  each = All-push IsFrame frames f s.each p;
}

-- the rest is split in its turn
pub Splits-join : (before : List ℕ) (given : List Message) (held piece : List ℕ) (frames : List Message) (rest : List ℕ) → Splits before given held → Splits (held ++ piece) frames rest → Splits (before ++ piece) (given ++ frames) rest
Splits-join before given held piece frames rest s t = record {
  whole = ap (λ (x : List ℕ). x ++ piece) s.whole
      ∙ append_assoc (frames_of given) held piece
      ∙ ap (λ (x : List ℕ). frames_of given ++ x) t.whole
      ∙ sym (append_assoc (frames_of given) (frames_of frames) rest)
      ∙ ap (λ (x : List ℕ). x ++ rest) (sym (flat_map-append frame_of given frames));
  each = All-append IsFrame given frames s.each t.each;
}

-- ---- headers

word_at-append : (a b : List ℕ) (i : ℕ) → i + 1 < length a → word_at (a ++ b) i ≡ word_at a i
word_at-append a b i h = rw (get_or_append_left a b 0 i (omega arith), get_or_append_left a b 0 (i + 1) h) refl

header_fault-append : (a b : List ℕ) → 8 ≤ length a → header_fault (a ++ b) ≡ header_fault a
header_fault-append a b h = rw (word_at-append a b 0 (omega arith), word_at-append a b 4 (omega arith), word_at-append a b 6 (omega arith)) refl

Refuses-append : (fault : WrapFault) (a b : List ℕ) → Refuses fault a → Refuses fault (a ++ b)
Refuses-append fault a b h = (omega (arith, h.0, length-append a b), header_fault-append a b h.0 ∙ h.1)

-- a fault stays one, whatever follows
pub Causes-append : (fault : WrapFault) (a b : List ℕ) → Causes fault a → Causes fault (a ++ b)
Causes-append Version a b h = Refuses-append Version a b h
Causes-append Destination a b h = Refuses-append Destination a b h
Causes-append Length a b h = Refuses-append Length a b h
Causes-append Memory a b h = tt
Causes-append Failed a b h = absurd h

pub partial_nil : IsPartial []
partial_nil = inl (omega arith)

-- ---- parts of a piece

-- a part of the piece is put behind what was held
pub part-taken : (held part rest piece now : List ℕ) → piece ≡ part ++ rest → now ≡ held ++ part → held ++ piece ≡ now ++ rest
part-taken held part rest piece now p n = rw (p, n) (sym (append_assoc held part rest))

-- a frame was taken
pub Leaves-some : (bytes : List ℕ) (o : Option Message) (rest held : List ℕ) (f : Message) → o ≡ Some f → Leaves bytes o rest held → (bytes ≡ frame_of f ++ rest) × IsFrame f × (held ≡ [])
Leaves-some bytes None rest held f e h = absurd cc
Leaves-some bytes (Some g) rest held f e h = let same : g ≡ f = cc in rw (← same) h
