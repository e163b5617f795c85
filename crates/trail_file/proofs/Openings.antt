-- What an opening finds, and what it leaves.
use Rattle.std.proofs.Common.{◌≡◌, ◌≢◌, ◌⊎◌, ◌==◌, ◌&&◌, ◌<◌, inl, inr, ℕ, true, List, [], ◌∷◌, ◌++◌, append-nil, arith, get_or, length, map, nat_le, take, sym, ◌∙◌, ap, subst}
use Rattle.std.proofs.lemmas.Bool.{true≢false}
use Rattle.trail_file.specs.Heads.{head_entry}
use Rattle.trail_file.specs.Opening.{IsOther, headed, is_begun, is_new}
use Rattle.trail_file.specs.Rest.{IsBeforeOrAfter, IsFront}
use Rattle.trail_file.specs.Text.{Entry, entry_of, recovered}
use Rattle.trail_file.specs.declared.entry.Entry as held
use Rattle.trail_file.specs.declared.head.Head.{Head}

module _ (old bytes : List ℕ) (all rest : List held.Entry) (first : held.Entry) (read : bytes ≡ old) (entries : map entry_of all ≡ recovered bytes) (split : all ≡ first ∷ rest) where
  pub first_is : recovered old ≡ entry_of first ∷ map entry_of rest
  first_is = ap recovered (sym read) ∙ sym entries ∙ ap (map entry_of) split

  pub other_is : (head : Head) (digest : List ℕ) → entry_of first ≡ head_entry head → head.digest ≢ digest → IsOther digest old
  other_is head digest is other = record {
    head = head;
    entries = map entry_of rest;
    is = first_is ∙ ap (λ (e : Entry). e ∷ map entry_of rest) is;
    other = other;
  }

  -- the file has the head that was found, and some entry
  pub held_is : (head : Head) → entry_of first ≡ head_entry head → headed head (recovered old) ≡ head_entry head ∷ map entry_of rest
  held_is head is = ap (headed head) first_is ∙ ap (λ (e : Entry). e ∷ map entry_of rest) is

  pub some_is : recovered old ≢ []
  some_is none = omega (arith, ap length (sym first_is ∙ none))

-- bytes of which none are entries
pub none_before : (bytes : List ℕ) (end : ℕ) → end ≡ 0 → IsFront (take end bytes) (recovered bytes) → recovered bytes ≡ []
none_before bytes end is whole = sym (append-nil (recovered bytes)) ∙ sym (whole []) ∙ ap (λ (k : ℕ). recovered (take k bytes ++ [])) is

pub new_head : (head : Head) (bytes : List ℕ) (entries : List held.Entry) → recovered bytes ≡ [] → entries ≡ [] → headed head (recovered bytes) ≡ head_entry head ∷ map entry_of entries
new_head head bytes entries none is = ap (headed head) none ∙ ap (λ (es : List held.Entry). head_entry head ∷ map entry_of es) (sym is)

-- a new file begins with a shut latch
pub new_is_shut : (bytes : List ℕ) → is_new bytes ≡ true → 1 < length bytes → get_or bytes 0 0 ≢ 35
unfolding is_new
new_is_shut [] new low = absurd (omega arith)
new_is_shut (latch ∷ []) new low = absurd (omega arith)
new_is_shut (latch ∷ next ∷ rest) new low =
    λ is. true≢false (sym new ∙ ap (λ (b : ℕ). (b == 10) && (nat_le (length rest) 104 && is_begun (next ∷ rest))) is)

-- a new file that gets its head
module _ (old bytes mended batch : List ℕ) (entry : Entry) (read : bytes ≡ old) (none : recovered bytes ≡ []) (same : recovered mended ≡ recovered old) (one : recovered batch ≡ entry ∷ []) where
  nothing : recovered mended ≡ []
  nothing = same ∙ ap recovered (sym read) ∙ none

  pub begun : (file : List ℕ) → recovered file ≡ recovered mended ++ recovered batch → recovered file ≡ entry ∷ []
  begun file added = added ∙ ap (λ (es : List Entry). es ++ recovered batch) nothing ∙ one

  pub begun_or_not : (file : List ℕ) → IsBeforeOrAfter (recovered mended) (recovered batch) file → IsBeforeOrAfter [] (entry ∷ []) file
  begun_or_not file left = subst (λ (more : List Entry). IsBeforeOrAfter [] more file) one (subst (λ (es : List Entry). IsBeforeOrAfter es (recovered batch) file) nothing left)

-- a crash leaves no entry, or the head alone
pub begun_left : (head : Head) (old file : List ℕ) → recovered old ≡ [] → IsBeforeOrAfter [] (head_entry head ∷ []) file → (recovered file ≡ recovered old) ⊎ (recovered file ≡ headed head (recovered old))
begun_left head old file none (inl before) = inl (before ∙ sym none)
begun_left head old file none (inr after) = inr (after ∙ sym (ap (headed head) none))
