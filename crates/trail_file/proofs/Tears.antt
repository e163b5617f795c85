-- What writes leave of a trail file, whole and cut short.
use Rattle.std.proofs.Common.{◌≡◌, ℕ, ◌+◌, ◌<◌, ◌≤◌, List, [], ◌∷◌, ◌++◌, length, get_or, take, drop, sym, ◌∙◌, ap, subst, arith, append_assoc, length-append, length-drop, take-append-drop, get_or-take, get_or-drop}
use Rattle.std.proofs.lemmas.List.{take_at, drop_at, drop_more, drop-drop, length-take-le}
use Rattle.std.proofs.lemmas.Grind.{same_number_lists}
use Rattle.sqlite_disk.specs.Disk.{Holds, Torn, Follows, Only}
use Rattle.trail_file.specs.Text.{Entry, recovered}
use Rattle.trail_file.specs.Rest.{IsFront, IsStaged, RestsAt, IsBeforeOrAfter, IsSettled}
use Rattle.trail_file.proofs.Walks.{front_ends, front_latch, front_append}

-- what stands before a write stays
pub torn_front : (at n : ℕ) (old new : List ℕ) → Torn at n old new → (k : ℕ) → k ≤ at → k ≤ length old → take k new ≡ take k old
torn_front at n old new torn k low within =
    same_number_lists (take k new) (take k old) (omega (arith, length-take-le k new (omega (arith, torn.no_shorter)), length-take-le k old within))
    (λ i h.
    let below : i < k = omega (arith, h, length-take-le k new (omega (arith, torn.no_shorter))) in
    get_or-take k new i 0 below ∙ torn.below i (omega arith) (omega arith) ∙ sym (get_or-take k old i 0 below))

-- what stands behind a write into the file stays
pub torn_back : (at n : ℕ) (old new : List ℕ) → Torn at n old new → at + n ≤ length old → drop (at + n) new ≡ drop (at + n) old
torn_back at n old new torn within =
    same_number_lists (drop (at + n) new) (drop (at + n) old) (omega (arith, length-drop (at + n) new, length-drop (at + n) old, torn.no_shorter, torn.no_longer))
    (λ i h.
    let low : at + n + i < length old = omega (arith, h, length-drop (at + n) new, torn.no_longer) in
    get_or-drop (at + n) new i 0 ∙ torn.above (at + n + i) low (omega arith) ∙ sym (get_or-drop (at + n) old i 0))

-- what was written stands there
pub held : (file : List ℕ) (at : ℕ) (bytes : List ℕ) → Holds file at bytes → drop at file ≡ bytes ++ drop (at + length bytes) file
held file at bytes holds =
    let long : length bytes ≤ length (drop at file) = omega (arith, length-drop at file, holds.within) in
    let same : take (length bytes) (drop at file) ≡ bytes =
    same_number_lists (take (length bytes) (drop at file)) bytes (length-take-le (length bytes) (drop at file) long)
    (λ i h.
    let below : i < length bytes = omega (arith, h, length-take-le (length bytes) (drop at file) long) in
    get_or-take (length bytes) (drop at file) i 0 below ∙ get_or-drop at file i 0 ∙ holds.each i below) in
    sym (take-append-drop (length bytes) (drop at file)) ∙ ap (λ (l : List ℕ). l ++ drop (length bytes) (drop at file)) same ∙ ap (λ (l : List ℕ). bytes ++ l) (drop-drop (length bytes) at file)

module _ (old : List ℕ) (end : ℕ) (entries : List Entry) (behind : List ℕ) (staged : IsStaged old end entries behind) where
  latch_in : length old ≡ end + 1 + length (behind ++ staged.tail)
  latch_in = omega (arith, ap length staged.is, length-append staged.front (10 ∷ (behind ++ staged.tail)), staged.ends)

  to_latch : take (end + 1) old ≡ staged.front ++ 10 ∷ []
  to_latch =
      ap (λ (l : List ℕ). take (end + 1) l) (staged.is ∙ sym (append_assoc staged.front (10 ∷ []) (behind ++ staged.tail)))
      ∙ take_at (staged.front ++ 10 ∷ []) (behind ++ staged.tail) (end + 1) (omega (arith, length-append staged.front (10 ∷ []), staged.ends))

  -- a file with the same bytes up to the latch
  pub as_far : (new : List ℕ) → take (end + 1) new ≡ take (end + 1) old → new ≡ staged.front ++ 10 ∷ drop (end + 1) new
  as_far new same = sym (take-append-drop (end + 1) new) ∙ ap (λ (l : List ℕ). l ++ drop (end + 1) new) (same ∙ to_latch) ∙ append_assoc staged.front (10 ∷ []) (drop (end + 1) new)

  pub stands_for : recovered old ≡ entries
  stands_for = ap recovered staged.is ∙ front_ends staged.front entries (behind ++ staged.tail) staged.whole

  pub torn_behind : (n : ℕ) (new : List ℕ) → Torn (end + 1) n old new → new ≡ staged.front ++ 10 ∷ drop (end + 1) new
  torn_behind n new torn = as_far new (torn_front (end + 1) n old new torn (end + 1) (omega arith) (omega (arith, latch_in)))

  pub torn_same : (n : ℕ) (new : List ℕ) → Torn (end + 1) n old new → recovered new ≡ entries
  torn_same n new torn = ap recovered (torn_behind n new torn) ∙ front_ends staged.front entries (drop (end + 1) new) staged.whole

  pub written_behind : (bytes new : List ℕ) → Torn (end + 1) (length bytes) old new → Holds new (end + 1) bytes → IsStaged new end entries bytes
  written_behind bytes new torn holds = record {
    front = staged.front;
    tail = drop (end + 1 + length bytes) new;
    is = torn_behind (length bytes) new torn ∙ ap (λ (l : List ℕ). staged.front ++ 10 ∷ l) (held new (end + 1) bytes holds);
    ends = staged.ends;
    whole = staged.whole;
  }

  -- any byte at the latch
  pub torn_at_latch : (new : List ℕ) → Torn end 1 old new → new ≡ staged.front ++ get_or new end 0 ∷ (behind ++ staged.tail)
  torn_at_latch new torn =
      let front_is : take end new ≡ staged.front = torn_front end 1 old new torn end (omega arith) (omega (arith, latch_in)) ∙ ap (λ (l : List ℕ). take end l) staged.is ∙ take_at staged.front (10 ∷ (behind ++ staged.tail)) end (sym staged.ends) in
      let back_is : drop (end + 1) new ≡ behind ++ staged.tail =
      torn_back end 1 old new torn (omega (arith, latch_in)) ∙ ap (λ (l : List ℕ). drop (end + 1) l) (staged.is ∙ sym (append_assoc staged.front (10 ∷ []) (behind ++ staged.tail)))
      ∙ drop_at (staged.front ++ 10 ∷ []) (behind ++ staged.tail) (end + 1) (omega (arith, length-append staged.front (10 ∷ []), staged.ends)) in
      sym (take-append-drop end new) ∙ ap (λ (l : List ℕ). l ++ drop end new) front_is
      ∙ ap (λ (l : List ℕ). staged.front ++ l) (drop_more new end 0 (omega (arith, torn.no_shorter, latch_in)) ∙ ap (λ (l : List ℕ). get_or new end 0 ∷ l) back_is)

-- a batch behind the latch
module _ (old : List ℕ) (end : ℕ) (entries more : List Entry) (block : List ℕ) (staged : IsStaged old end entries (block ++ 10 ∷ [])) (batch : IsFront (35 ∷ block) more) where
  shape : (latch : ℕ) → staged.front ++ latch ∷ ((block ++ 10 ∷ []) ++ staged.tail) ≡ staged.front ++ latch ∷ (block ++ 10 ∷ staged.tail)
  shape latch = ap (λ (l : List ℕ). staged.front ++ latch ∷ l) (append_assoc block (10 ∷ []) staged.tail)

  pub torn_latch : (new : List ℕ) → Torn end 1 old new → IsBeforeOrAfter entries more new
  torn_latch new torn =
      subst (IsBeforeOrAfter entries more) (sym (torn_at_latch old end entries (block ++ 10 ∷ []) staged new torn ∙ shape (get_or new end 0)))
      (front_latch staged.front entries more (get_or new end 0) block staged.tail staged.whole batch)

  pub opened : (new : List ℕ) → Torn end 1 old new → Holds new end (35 ∷ []) → RestsAt new (end + length block + 1) (entries ++ more)
  opened new torn holds =
      let latch : get_or new end 0 ≡ 35 = ap (λ (k : ℕ). get_or new k 0) (omega arith) ∙ holds.each 0 (omega arith) in
      let open_is : new ≡ staged.front ++ 35 ∷ (block ++ 10 ∷ staged.tail) =
      torn_at_latch old end entries (block ++ 10 ∷ []) staged new torn ∙ shape (get_or new end 0) ∙ ap (λ (g : ℕ). staged.front ++ g ∷ (block ++ 10 ∷ staged.tail)) latch in
      record {
        front = staged.front ++ 35 ∷ block;
        tail = staged.tail;
        is = open_is ∙ sym (append_assoc staged.front (35 ∷ block) (10 ∷ staged.tail));
        ends = omega (arith, staged.ends, length-append staged.front (35 ∷ block));
        whole = front_append staged.front (35 ∷ block) entries more staged.whole batch;
      }

  pub opened_is : (new : List ℕ) → Torn end 1 old new → Holds new end (35 ∷ []) → recovered new ≡ entries ++ more
  opened_is new torn holds = let at = opened new torn holds in ap recovered at.is ∙ front_ends at.front (entries ++ more) at.tail at.whole

-- what a crash leaves of a write behind the latch
pub torn_crash : (seen : List ℕ) (old new : List ℕ → Type 0) (end n : ℕ) → IsSettled seen old end (recovered seen) → Follows (Torn (end + 1) n) old new → (c : List ℕ) → new c → recovered c ≡ recovered seen
torn_crash seen old new end n settled follows c left =
    let from = follows c left in
    torn_same seen end (recovered seen) [] settled.rests n c (subst (λ (d : List ℕ). Torn (end + 1) n d c) (settled.durable from.0 from.1) from.2)

-- what a crash leaves of a write at the latch
pub latch_crash : (seen : List ℕ) (old new : List ℕ → Type 0) (end : ℕ) (more : List Entry) (block : List ℕ) → Only seen old → IsStaged seen end (recovered seen) (block ++ 10 ∷ []) → IsFront (35 ∷ block) more
    → Follows (Torn end 1) old new → (c : List ℕ) → new c → IsBeforeOrAfter (recovered seen) more c
latch_crash seen old new end more block only staged batch follows c left =
    let from = follows c left in
    torn_latch seen end (recovered seen) more block staged batch c (subst (λ (d : List ℕ). Torn end 1 d c) (only from.0 from.1) from.2)
