-- Two readings of one stream are one, and what a feeder says of one piece it says of the whole stream.
use Rattle.std.proofs.Common.{◌≡◌, ℕ, ◌+◌, ◌≤◌, List, [], ◌∷◌, ◌++◌, length, Option, Some, None, refl, sym, ap, subst, ◌∙◌, append_assoc, inl, inr, arith, take, drop, ◌⊎◌, IfSome, IfErr, IsErr, Result, Ok, Err, Bool, true, false, cond}
use Rattle.std.proofs.lemmas.List.{length-append, take_at, drop_at}
use Rattle.std.proofs.lemmas.List.Elements.{All-head, All-tail}
use Rattle.std.proofs.lemmas.Bool.{le-leb}
use Rattle.std.specs.Prelude.{All}
use Rattle.std.specs.Result.{result_err}
use Rattle.tcp_wrapper.specs.Stream.{Splits, IsPartial, Refuses, Causes, Reads, Ends, word_at, header_fault, IsFrame, frame_of, frames_of}
use Rattle.tcp_wrapper.specs.declared.message.Message.{Message}
use Rattle.tcp_wrapper.specs.declared.fault.WrapFault.{WrapFault}
use Rattle.tcp_wrapper.specs.declared.fault.WrapFault.TheVariants.{Version, Destination, Length, Memory, Failed}
use Rattle.tcp_wrapper.proofs.Splitting.{Splits-join, Splits-nil}

-- ---- one stream, one reading

-- what stands in front of bytes that begin with a frame
record Fronts (f : Message) (bytes : List ℕ) : Type 0 where
  long : 8 ≤ length bytes
  fault : header_fault bytes ≡ None
  source : word_at bytes 2 ≡ f.source
  size : word_at bytes 6 ≡ length f.apdu
  whole : 8 + length f.apdu ≤ length bytes

good-header : (bytes : List ℕ) → word_at bytes 0 ≡ 1 → word_at bytes 4 ≡ 1 → word_at bytes 6 ≤ 1024 → header_fault bytes ≡ None
good-header bytes v d n = rw (v, d, le-leb (word_at bytes 6) 1024 n) refl

frame-fronts : (f : Message) (more : List ℕ) → IsFrame f → Fronts f (frame_of f ++ more)
frame-fronts f more p =
    let len = length-append f.apdu more in
    let s : word_at (frame_of f ++ more) 2 ≡ f.source = omega arith in
    let d : word_at (frame_of f ++ more) 4 ≡ 1 = omega arith in
    let n : word_at (frame_of f ++ more) 6 ≡ length f.apdu = omega arith in
    record {
      long = omega arith;
      fault = good-header (frame_of f ++ more) refl d (omega (arith, p.1));
      source = s;
      size = n;
      whole = omega arith;
    }

-- no beginning of a frame, and no wrong header, begins with a frame
no-frame : (f : Message) (bytes : List ℕ) → Fronts f bytes → Ends bytes → ⊥
no-frame f bytes h (inl (inl short)) = omega (arith, h.long)
no-frame f bytes h (inl (inr partial)) = omega (arith, h.whole, h.size, partial.2)
no-frame f bytes h (inr (fault, refused)) = let none = h.fault in let some = refused.1 in absurd cc

message-is : (f g : Message) → f.source ≡ g.source → f.apdu ≡ g.apdu → f ≡ g
message-is f g s a = ap (λ (n : ℕ). let m : Message = record { source = n; apdu = f.apdu } in m) s ∙ ap (λ (t : List ℕ). let m : Message = record { source = g.source; apdu = t } in m) a

-- frames that begin the same bytes are one
same-front : (f g : Message) (x y : List ℕ) → IsFrame f → IsFrame g → frame_of f ++ x ≡ frame_of g ++ y → (f ≡ g) × (x ≡ y)
same-front f g x y p q e =
    let a = frame-fronts f x p in
    let b = frame-fronts g y q in
    let source : f.source ≡ g.source = sym a.source ∙ ap (λ (t : List ℕ). word_at t 2) e ∙ b.source in
    let size : length f.apdu ≡ length g.apdu = sym a.size ∙ ap (λ (t : List ℕ). word_at t 6) e ∙ b.size in
    let tail : f.apdu ++ x ≡ g.apdu ++ y = ap (λ (t : List ℕ). drop 8 t) e in
    let apdu : f.apdu ≡ g.apdu = sym (take_at f.apdu x (length f.apdu) refl) ∙ ap (λ (t : List ℕ). take (length f.apdu) t) tail ∙ take_at g.apdu y (length f.apdu) (sym size) in
    let rest : x ≡ y = sym (drop_at f.apdu x (length f.apdu) refl) ∙ ap (λ (t : List ℕ). drop (length f.apdu) t) tail ∙ drop_at g.apdu y (length f.apdu) (sym size) in
    (message-is f g source apdu, rest)

same_reading : (fs gs : List Message) (r q : List ℕ) → All IsFrame fs → All IsFrame gs → Ends r → Ends q → frames_of fs ++ r ≡ frames_of gs ++ q → (fs ≡ gs) × (r ≡ q)
same_reading [] [] r q af ag er eq e = (refl, e)
same_reading [] (g ∷ gs) r q af ag er eq e =
    let front = frame-fronts g (frames_of gs ++ q) (All-head IsFrame g gs ag) in
    absurd (no-frame g r (subst (Fronts g) (sym (e ∙ append_assoc (frame_of g) (frames_of gs) q)) front) er)
same_reading (f ∷ fs) [] r q af ag er eq e =
    let front = frame-fronts f (frames_of fs ++ r) (All-head IsFrame f fs af) in
    absurd (no-frame f q (subst (Fronts f) (sym (append_assoc (frame_of f) (frames_of fs) r) ∙ e) front) eq)
same_reading (f ∷ fs) (g ∷ gs) r q af ag er eq e =
    let both = same-front f g (frames_of fs ++ r) (frames_of gs ++ q) (All-head IsFrame f fs af) (All-head IsFrame g gs ag) (sym (append_assoc (frame_of f) (frames_of fs) r) ∙ e ∙ append_assoc (frame_of g) (frames_of gs) q) in
    let rest = same_reading fs gs r q (All-tail IsFrame f fs af) (All-tail IsFrame g gs ag) er eq both.1 in
    (rw (both.0, rest.0) refl, rest.1)

-- the frames and the rest of a stream are determined
pub one_reading : (stream : List ℕ) (fs gs : List Message) (r q : List ℕ) → Splits stream fs r → Splits stream gs q → Ends r → Ends q → (fs ≡ gs) × (r ≡ q)
one_reading stream fs gs r q s t er eq = same_reading fs gs r q s.each t.each er eq (sym s.whole ∙ t.whole)

-- ---- what is told of the bytes held and a piece is told of the whole stream

pub Reads-join : (before : List ℕ) (given : List Message) (held piece : List ℕ) (frames : List Message) (fault : Option WrapFault) (now : Option (List ℕ)) → Splits before given held → Reads (held ++ piece) frames fault now → Reads (before ++ piece) (given ++ frames) fault now
Reads-join before given held piece frames None (Some rest) s r = (Splits-join before given held piece frames rest s r.0, r.1)
Reads-join before given held piece frames None None s r = absurd r
Reads-join before given held piece frames (Some fault) (Some rest) s r = absurd r
Reads-join before given held piece frames (Some fault) None s r = (r.0, Splits-join before given held piece frames r.0 s r.1, r.2)

-- ---- where the frames of the bytes are known, so is what is told of them

-- a fault that is told is want of memory, or a wrong header
Causes-ends : (fault : WrapFault) (rest : List ℕ) → Causes fault rest → (fault ≡ Memory) ⊎ Refuses fault rest
Causes-ends Version rest c = inr c
Causes-ends Destination rest c = inr c
Causes-ends Length rest c = inr c
Causes-ends Memory rest c = inl refl
Causes-ends Failed rest c = absurd c

some-fault : (fault other : WrapFault) → fault ≡ other → Some fault ≡ Some other
some-fault fault other e = cc

some-rest : (rest other : List ℕ) → rest ≡ other → Some rest ≡ Some other
some-rest rest other e = cc

partial-refused : (fault : WrapFault) (bytes : List ℕ) → IsPartial bytes → Refuses fault bytes → ⊥
partial-refused fault bytes (inl short) r = omega (arith, r.0)
partial-refused fault bytes (inr p) r = let none = p.1 in let some = r.1 in absurd cc

one-fault : (fault other : WrapFault) (bytes : List ℕ) → Refuses fault bytes → Refuses other bytes → fault ≡ other
one-fault fault other bytes r q = let first = r.1 in let second = q.1 in cc

-- the frames are these, unless memory runs out
pub Reads-given : (stream : List ℕ) (fs gs : List Message) (q : List ℕ) (fault : Option WrapFault) (now : Option (List ℕ)) → Reads stream fs fault now → Splits stream gs q → Ends q → (fs ≡ gs) ⊎ (fault ≡ Some Memory)
Reads-given stream fs gs q None (Some held) r s e = inl (one_reading stream fs gs held q r.0 s (inl r.1) e).0
Reads-given stream fs gs q None None r s e = absurd r
Reads-given stream fs gs q (Some fault) (Some held) r s e = absurd r
Reads-given stream fs gs q (Some fault) None r s e =
    elim (Causes-ends fault r.0 r.2) [
      | inl m ↦ inr (some-fault fault Memory m)
      | inr c ↦ inl (one_reading stream fs gs r.0 q r.1 s (inr (fault, c)) e).0
    ]

-- a wrong header that stands next is the fault, unless memory runs out
pub Reads-exact : (stream : List ℕ) (fs gs : List Message) (q : List ℕ) (other : WrapFault) (fault : Option WrapFault) (now : Option (List ℕ)) → Reads stream fs fault now → Splits stream gs q → Refuses other q → (fault ≡ Some other) ⊎ (fault ≡ Some Memory)
Reads-exact stream fs gs q other None (Some held) r s e =
    let one = one_reading stream fs gs held q r.0 s (inl r.1) (inr (other, e)) in
    absurd (partial-refused other held r.1 (subst (λ (x : List ℕ). Refuses other x) (sym one.1) e))
Reads-exact stream fs gs q other None None r s e = absurd r
Reads-exact stream fs gs q other (Some fault) (Some held) r s e = absurd r
Reads-exact stream fs gs q other (Some fault) None r s e =
    elim (Causes-ends fault r.0 r.2) [
      | inl m ↦ inr (some-fault fault Memory m)
      | inr c ↦
          let one = one_reading stream fs gs r.0 q r.1 s (inr (fault, c)) (inr (other, e)) in
          inl (some-fault fault other (one-fault fault other r.0 c (subst (λ (x : List ℕ). Refuses other x) (sym one.1) e)))
    ]

-- less than a frame that stands next is held, unless memory runs out
pub Reads-kept : (stream : List ℕ) (fs gs : List Message) (q : List ℕ) (fault : Option WrapFault) (now : Option (List ℕ)) → Reads stream fs fault now → Splits stream gs q → IsPartial q → ((now ≡ Some q) × (fault ≡ None)) ⊎ (fault ≡ Some Memory)
Reads-kept stream fs gs q None (Some held) r s e = inl (some-rest held q (one_reading stream fs gs held q r.0 s (inl r.1) (inl e)).1, refl)
Reads-kept stream fs gs q None None r s e = absurd r
Reads-kept stream fs gs q (Some fault) (Some held) r s e = absurd r
Reads-kept stream fs gs q (Some fault) None r s e =
    elim (Causes-ends fault r.0 r.2) [
      | inl m ↦ inr (some-fault fault Memory m)
      | inr c ↦
          let one = one_reading stream fs gs r.0 q r.1 s (inr (fault, c)) (inl e) in
          absurd (partial-refused fault q e (subst (λ (x : List ℕ). Refuses fault x) one.1 c))
    ]

-- ---- what a feeder tells of one piece

-- what is told of the bytes held and a piece, where there was no fault before
abbrev pub Told : Option (List ℕ) → List ℕ → List Message → Option WrapFault → Option (List ℕ) → Type 0
Told was piece frames fault now = IfSome was (λ held. Reads (held ++ piece) frames fault now)

-- the messages were put behind none
pub told : (was : Option (List ℕ)) (piece : List ℕ) (none frames : List Message) (result fault : Option WrapFault) (now : Option (List ℕ)) → none ≡ [] → fault ≡ result → IfSome was (λ held. (before : List ℕ) → Splits before none held → Reads (before ++ piece) frames result now) → Told was piece frames fault now
told None piece none frames result fault now e f h = tt
told (Some held) piece none frames result fault now e f h = rw f (h held (rw e (Splits-nil held)))

pub told-so_far : (was : Option (List ℕ)) (piece : List ℕ) (frames : List Message) (fault : Option WrapFault) (now : Option (List ℕ)) → Told was piece frames fault now → IfSome was (λ held. (before : List ℕ) (given : List Message) → Splits before given held → Reads (before ++ piece) (given ++ frames) fault now)
told-so_far None piece frames fault now t = tt
told-so_far (Some held) piece frames fault now t = λ before given s. Reads-join before given held piece frames fault now s t

pub told-exact : (was : Option (List ℕ)) (piece : List ℕ) (frames : List Message) (fault : Option WrapFault) (now : Option (List ℕ)) → Told was piece frames fault now → IfSome was (λ held. (others : List Message) (rest : List ℕ) (other : WrapFault) → Splits (held ++ piece) others rest → Refuses other rest → (fault ≡ Some other) ⊎ (fault ≡ Some Memory))
told-exact None piece frames fault now t = tt
told-exact (Some held) piece frames fault now t = λ others rest other s r. Reads-exact (held ++ piece) frames others rest other fault now t s r

pub told-given : (was : Option (List ℕ)) (piece : List ℕ) (frames : List Message) (fault : Option WrapFault) (now : Option (List ℕ)) → Told was piece frames fault now → IfSome was (λ held. (others : List Message) (rest : List ℕ) → Splits (held ++ piece) others rest → Ends rest → (frames ≡ others) ⊎ (fault ≡ Some Memory))
told-given None piece frames fault now t = tt
told-given (Some held) piece frames fault now t = λ others rest s e. Reads-given (held ++ piece) frames others rest fault now t s e

pub told-kept : (was : Option (List ℕ)) (piece : List ℕ) (frames : List Message) (fault : Option WrapFault) (now : Option (List ℕ)) → Told was piece frames fault now → IfSome was (λ held. (others : List Message) (rest : List ℕ) → Splits (held ++ piece) others rest → IsPartial rest → ((now ≡ Some rest) × (fault ≡ None)) ⊎ (fault ≡ Some Memory))
told-kept None piece frames fault now t = tt
told-kept (Some held) piece frames fault now t = λ others rest s e. Reads-kept (held ++ piece) frames others rest fault now t s e

-- ---- the parts of a feeder

pub view_some : (is_failed : Bool) (held : List ℕ) (now : Option (List ℕ)) → cond is_failed None (Some held) ≡ now → is_failed ≡ false → now ≡ Some held
view_some true held now e f = absurd cc
view_some false held now e f = sym e

-- a fault was met
pub Reads-err : {T : Type 0} (r : Result T WrapFault) (held piece : List ℕ) (old new : List Message) → IsErr r → IfErr r (λ fault. (before : List ℕ) → Splits before old held → (rest : List ℕ) × Splits (before ++ piece) new rest × Causes fault rest) → (before : List ℕ) → Splits before old held → Reads (before ++ piece) new (result_err r) None
Reads-err (Ok x) held piece old new e h before s = absurd cc
Reads-err (Err fault) held piece old new e h before s = h before s
