-- What is left while the end of a trail file is mended.
use Rattle.std.proofs.Common.{◌≡◌, ◌≢◌, ℕ, ◌+◌, ◌<◌, ◌≤◌, ◌==◌, List, [], ◌∷◌, ◌++◌, length, get_or, take, drop, refl, sym, ◌∙◌, ap, subst, zero-add, arith, append_assoc, length-drop, take-append-drop, get_or-take}
use Rattle.std.proofs.lemmas.List.{append-nil, append_cancel_left, drop_all, drop_more, take_more, length-take-le, take-take}
use Rattle.std.proofs.lemmas.Bool.{ne_eqb, cond-false}
use Rattle.std.proofs.lemmas.Grind.{same_number_lists}
use Rattle.sqlite_disk.specs.Disk.{Holds, Torn, Cut, Follows, Only}
use Rattle.trail_file.specs.Text.{Entry, walk, recovered}
use Rattle.trail_file.specs.Text.Place.{InNote}
use Rattle.trail_file.specs.Opening.{IsDamaged}
use Rattle.trail_file.specs.Rest.{IsFront, RestsAt, EndsAt}
use Rattle.trail_file.proofs.Walks.{one_nothing}
use Rattle.trail_file.proofs.Tears.{torn_front, held}

short_nothing : (bytes : List ℕ) → length bytes ≤ 1 → recovered bytes ≡ []
short_nothing [] short = refl
short_nothing (a ∷ []) short = one_nothing a
short_nothing (a ∷ b ∷ bytes) short = absurd (omega arith)

shut_nothing : (latch : ℕ) (rest : List ℕ) → latch ≢ 35 → recovered (latch ∷ rest) ≡ []
shut_nothing latch rest shut = cond-false (latch == 35) (walk rest InNote [] []) [] (ne_eqb latch 35 shut)

-- a file of whole entries, and one byte more at most
pub ends_for : (file : List ℕ) (end : ℕ) (entries : List Entry) → EndsAt file end entries → recovered file ≡ entries
ends_for file end entries at =
    ap recovered (sym (take-append-drop end file)) ∙ at.whole (drop end file)
    ∙ ap (λ (es : List Entry). entries ++ es) (short_nothing (drop end file) (omega (arith, at.short, length-drop end file))) ∙ append-nil entries

-- the same, after a write of one byte at its end
pub torn_end : (file : List ℕ) (end : ℕ) (entries : List Entry) (new : List ℕ) → EndsAt file end entries → Torn end 1 file new → EndsAt new end entries
torn_end file end entries new at torn = record {
  within = omega (arith, at.within, torn.no_shorter);
  short = omega (arith, at.short, torn.no_longer);
  whole = subst (λ (f : List ℕ). IsFront f entries) (sym (torn_front end 1 file new torn end (omega arith) at.within)) at.whole;
}

pub shut_end : (file : List ℕ) (end : ℕ) (entries : List Entry) (new : List ℕ) → EndsAt file end entries → Torn end 1 file new → Holds new end (10 ∷ []) → RestsAt new end entries
shut_end file end entries new at torn holds =
    let ends = torn_end file end entries new at torn in
    let behind : drop (end + 1) new ≡ [] = drop_all (end + 1) new ends.short in
    record {
      front = take end new;
      tail = [];
      is = sym (take-append-drop end new) ∙ ap (λ (l : List ℕ). take end new ++ l) (held new end (10 ∷ []) holds ∙ ap (λ (l : List ℕ). 10 ∷ l) behind);
      ends = sym (length-take-le end new ends.within);
      whole = ends.whole;
    }

-- a file cut behind a latch that isn't open
module _ (file : List ℕ) (end : ℕ) (within : end < length file) (shut : get_or file end 0 ≢ 35) (whole : IsFront (take end file) (recovered file)) where
  cut_front : (new : List ℕ) → Cut (end + 1) file new → take (end + 1) new ≡ take (end + 1) file
  cut_front new cut =
      same_number_lists (take (end + 1) new) (take (end + 1) file) (omega (arith, length-take-le (end + 1) new (omega (arith, cut.no_shorter)), length-take-le (end + 1) file (omega arith)))
      (λ i h.
      let below : i < end + 1 = omega (arith, h, length-take-le (end + 1) new (omega (arith, cut.no_shorter))) in
      get_or-take (end + 1) new i 0 below ∙ cut.below i (omega arith) below ∙ sym (get_or-take (end + 1) file i 0 below))

  pub cut_keeps : (new : List ℕ) → Cut (end + 1) file new → recovered new ≡ recovered file
  cut_keeps new cut =
      let latch = get_or file end 0 in
      let split : new ≡ take end file ++ latch ∷ drop (end + 1) new =
      sym (take-append-drop (end + 1) new) ∙ ap (λ (l : List ℕ). l ++ drop (end + 1) new) (cut_front new cut ∙ take_more file end 0 within) ∙ append_assoc (take end file) (latch ∷ []) (drop (end + 1) new) in
      ap recovered split ∙ whole (latch ∷ drop (end + 1) new) ∙ ap (λ (es : List Entry). recovered file ++ es) (shut_nothing latch (drop (end + 1) new) shut) ∙ append-nil (recovered file)

  pub cut_ends : (new : List ℕ) → Cut (end + 1) file new → length new ≡ end + 1 → EndsAt new end (recovered file)
  cut_ends new cut long = record {
    within = omega (arith, long);
    short = omega (arith, long);
    whole =
        let front : take end new ≡ take end file = sym (take-take end (end + 1) new (omega arith)) ∙ ap (λ (l : List ℕ). take end l) (cut_front new cut) ∙ take-take end (end + 1) file (omega arith) in
        subst (λ (f : List ℕ). IsFront f (recovered file)) (sym front) whole;
  }

pub all_read : (file bytes : List ℕ) → length bytes ≡ length file → (0 < length bytes → Holds file 0 bytes) → bytes ≡ file
all_read file bytes long holds = same_number_lists bytes file long (λ i h. sym ((holds (omega arith)).each i h) ∙ ap (λ (k : ℕ). get_or file k 0) (zero-add i))

-- what a crash leaves of a write of one byte at the end
pub shut_crash : (file : List ℕ) (old new : List ℕ → Type 0) (end : ℕ) → EndsAt file end (recovered file) → Only file old → Follows (Torn end 1) old new → (c : List ℕ) → new c → recovered c ≡ recovered file
shut_crash file old new end at only follows c left =
    let from = follows c left in
    ends_for c end (recovered file) (torn_end file end (recovered file) c at (subst (λ (d : List ℕ). Torn end 1 d c) (only from.0 from.1) from.2))

-- what a crash leaves of a cut
pub cut_crash : (file : List ℕ) (old new : List ℕ → Type 0) (end : ℕ) → end < length file → get_or file end 0 ≢ 35 → IsFront (take end file) (recovered file) → Only file old → Follows (Cut (end + 1)) old new → (c : List ℕ) → new c → recovered c ≡ recovered file
cut_crash file old new end within shut whole only follows c left =
    let from = follows c left in
    cut_keeps file end within shut whole c (subst (λ (d : List ℕ). Cut (end + 1) d c) (only from.0 from.1) from.2)

-- an open latch behind the entries that are whole, and something behind it
pub open_end : (bytes : List ℕ) (end : ℕ) → end + 1 < length bytes → get_or bytes end 0 ≡ 35 → IsFront (take end bytes) (recovered bytes) → IsDamaged bytes
open_end bytes end low latch whole =
    let split : take end bytes ++ drop end bytes ≡ bytes = take-append-drop end bytes in
    let behind : drop end bytes ≡ 35 ∷ drop (end + 1) bytes = drop_more bytes end 0 (omega arith) ∙ ap (λ (b : ℕ). b ∷ drop (end + 1) bytes) latch in
    let none : recovered (drop end bytes) ≡ [] =
    append_cancel_left (recovered bytes) (recovered (drop end bytes)) [] (sym (whole (drop end bytes)) ∙ ap recovered split ∙ sym (append-nil (recovered bytes))) in
    record {
      front = take end bytes;
      tail = drop (end + 1) bytes;
      is = sym split ∙ ap (λ (l : List ℕ). take end bytes ++ l) behind;
      whole = whole;
      some = omega (arith, length-drop (end + 1) bytes);
      cut = sym (ap recovered behind) ∙ none;
    }
