-- Places of frames, and how many bytes frames have.
use Rattle.std.proofs.Common.{◌≡◌, ℕ, ◌+◌, ◌≤◌, List, [], ◌∷◌, ◌++◌, length, sym, ap, ◌∙◌, arith, take, drop}
use Rattle.std.proofs.lemmas.List.{length-append, take-append-drop}
use Rattle.std.proofs.lemmas.List.Concat.{flat_map-append}
use Rattle.tcp_wrapper.specs.declared.message.Message.{Message}
use Rattle.tcp_wrapper.specs.declared.place.FramePlace.{FramePlace}
use Rattle.tcp_wrapper.specs.Places.{place_behind, moved}
use Rattle.tcp_wrapper.specs.Stream.{frame_of, frames_of}

pub bytes-append : (xs ys : List Message) → length (frames_of (xs ++ ys)) ≡ length (frames_of xs) + length (frames_of ys)
bytes-append xs ys = ap (λ (t : List ℕ). length t) (flat_map-append frame_of xs ys) ∙ length-append (frames_of xs) (frames_of ys)

pub bytes-push : (xs : List Message) (m : Message) → length (frames_of (xs ++ m ∷ [])) ≡ length (frames_of xs) + length (frame_of m)
bytes-push xs m = omega (arith, bytes-append xs (m ∷ []), length-append (frame_of m) [])

-- some of the frames have no more bytes than all
pub bytes-take : (n : ℕ) (ms : List Message) → length (frames_of (take n ms)) ≤ length (frames_of ms)
bytes-take n ms = omega (arith, bytes-append (take n ms) (drop n ms), ap (λ (xs : List Message). length (frames_of xs)) (take-append-drop n ms))

place-is : (p q : FramePlace) → p.frame ≡ q.frame → p.byte ≡ q.byte → p ≡ q
place-is p q f b = ap (λ (n : ℕ). let r : FramePlace = record { frame = n; byte = p.byte } in r) f ∙ ap (λ (n : ℕ). let r : FramePlace = record { frame = q.frame; byte = n } in r) b

-- behind frames, and then behind more of them
pub moved-behind : (xs ys : List Message) → moved (place_behind xs) ys ≡ place_behind (xs ++ ys)
moved-behind xs ys = place-is (moved (place_behind xs) ys) (place_behind (xs ++ ys)) (omega (arith, length-append xs ys)) (sym (bytes-append xs ys))
