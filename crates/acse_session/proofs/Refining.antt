-- What is kept, turn by turn, is what looking back finds.
use Rattle.std.proofs.Common.{◌≡◌, ℕ, zero, suc, ◌+◌, ◌≤◌, List, [], ◌∷◌, Bool, true, false, cond, not, ltb, eqb, length, Option, Some, None, refl, sym, ap, ◌∙◌, arith, drop}
use Rattle.std.specs.Prelude.{find, option_and_then, ◌&&◌}
use Rattle.std.specs.List.{list_any}
use Rattle.std.proofs.lemmas.Bool.{ltb-false, le-ltb}
use Rattle.std.proofs.lemmas.List.{length-drop}
use Rattle.cosem_data.specs.Tree.{Tree}
use Rattle.meter_theory.specs.Plan.{Plan}
use Rattle.xdlms_services.specs.Blocks.{Transfer, start, behind, most_raw}
use Rattle.acse_association.specs.declared.association.Association.{Association}
use Rattle.acse_session.specs.Turns.{Turn, is_opening, is_release_from, opened, follows_block, value_in_blocks, is_following, since_opening, unless_released, in_force, is_in_order, front_while, after_blocks, if_left, left_at, left_of, sending_of, from_port, sending}
use Rattle.acse_session.specs.Stepping.{unless_released_by, association_after, advanced, transfer_here, transfer_kept, transfer_after}

-- ---- the association

released-none : (o : Option Association) → unless_released [] o ≡ o
released-none None = refl
released-none (Some a) = refl

released-at : (a : Association) (t : Turn) (since : List Turn) (r b : Bool) → is_release_from a.source t ≡ r → list_any (is_release_from a.source) since ≡ b → unless_released (t ∷ since) (Some a) ≡ unless_released_by t (unless_released since (Some a))
released-at a t since true true e f = rw (e, f) refl
released-at a t since true false e f = rw (e, f) (rw e refl)
released-at a t since false true e f = rw (e, f) refl
released-at a t since false false e f = rw (e, f) (rw e refl)

released-more : (t : Turn) (since : List Turn) (o : Option Association) → unless_released (t ∷ since) o ≡ unless_released_by t (unless_released since o)
released-more t since None = refl
released-more t since (Some a) = released-at a t since (is_release_from a.source t) (list_any (is_release_from a.source) since) refl refl

in_force-at : (plan : Plan) (earlier : List Turn) (t : Turn) (b : Bool) → is_opening t ≡ b → in_force plan (t ∷ earlier) ≡ association_after plan (in_force plan earlier) t
in_force-at plan earlier t true e = rw e (released-none (opened plan t))
in_force-at plan earlier t false e = rw e (released-more t (since_opening earlier) (option_and_then (opened plan) (find is_opening earlier)))

pub in_force-more : (plan : Plan) (earlier : List Turn) (t : Turn) → in_force plan (t ∷ earlier) ≡ association_after plan (in_force plan earlier) t
in_force-more plan earlier t = in_force-at plan earlier t (is_opening t) refl

-- ---- the transfer

number-after : (n : ℕ) (t : Transfer) → (after_blocks n t).number ≡ t.number + n
unfolding after_blocks
number-after zero t = omega arith
number-after (suc n) t = omega (arith, number-after n t)

after-one : (k : ℕ) (t : Transfer) → after_blocks (k + 1) t ≡ behind (after_blocks k t)
unfolding after_blocks
after-one k t = let e : k + 1 ≡ suc k = omega arith in ap (λ (n : ℕ). after_blocks n t) e

nothing-behind : (t : Transfer) → ltb 0 (length t.unsent) ≡ false → if_left (behind t) ≡ None
nothing-behind t e =
    let none : length t.unsent ≡ 0 = omega (arith, ltb-false _ _ e) in
    let short : length (drop (most_raw t.limit) t.unsent) ≤ 0 = omega (arith, none, length-drop (most_raw t.limit) t.unsent) in
    rw (le-ltb _ _ short) refl

advanced-at : (n : ℕ) (t : Transfer) (right some : Bool) → eqb n t.number ≡ right → ltb 0 (length t.unsent) ≡ some → cond right (if_left (behind t)) None ≡ advanced n (if_left t)
advanced-at n t true true e s = rw s (rw e refl)
advanced-at n t false true e s = rw s (rw e refl)
advanced-at n t true false e s = rw s (nothing-behind t s)
advanced-at n t false false e s = rw s refl

left-advanced : (limit k n : ℕ) (value : Tree) (right ordered : Bool) → eqb n (k + 1) ≡ right → left_at limit (k + 1) (right && ordered) value ≡ advanced n (left_at limit k ordered value)
left-advanced limit k n value true true e =
    let t : Transfer = after_blocks (k + 1) (start value limit) in
    let same : t.number ≡ k + 1 = omega (arith, number-after (k + 1) (start value limit)) in
    let number : eqb n t.number ≡ true = ap (λ (m : ℕ). eqb n m) same ∙ e in
    ap if_left (after-one (k + 1) (start value limit)) ∙ advanced-at n t true (ltb 0 (length t.unsent)) number refl
left-advanced limit k n value false true e =
    let t : Transfer = after_blocks (k + 1) (start value limit) in
    let same : t.number ≡ k + 1 = omega (arith, number-after (k + 1) (start value limit)) in
    let number : eqb n t.number ≡ false = ap (λ (m : ℕ). eqb n m) same ∙ e in
    advanced-at n t false (ltb 0 (length t.unsent)) number refl
left-advanced limit k n value true false e = refl
left-advanced limit k n value false false e = refl

left-more : (limit n : ℕ) (t : Turn) (ns : List Turn) (value : Tree) → follows_block t ≡ Some n → left_of limit (t ∷ ns) value ≡ advanced n (left_of limit ns value)
left-more limit n t ns value f =
    let one : length (t ∷ ns) ≡ length ns + 1 = omega arith in
    rw f (ap (λ (k : ℕ). left_at limit k (eqb n (length ns + 1) && is_in_order ns) value) one ∙ left-advanced limit (length ns) n value (eqb n (length ns + 1)) (is_in_order ns) refl)

follows-more : (limit n : ℕ) (t : Turn) (ns : List Turn) (value : Option Tree) → follows_block t ≡ Some n → option_and_then (left_of limit (t ∷ ns)) value ≡ advanced n (option_and_then (left_of limit ns) value)
follows-more limit n t ns None f = refl
follows-more limit n t ns (Some value) f = left-more limit n t ns value f

sending-here : (a : Association) (t : Turn) (own : List Turn) (f : Option ℕ) → follows_block t ≡ f → sending_of a (t ∷ own) ≡ transfer_here a f (sending_of a own) t
sending-here a t own None e = rw e refl
sending-here a t own (Some n) e =
    rw e (follows-more a.limit n t (front_while is_following own) (option_and_then (λ (u : Turn). value_in_blocks a u.asked) (find (λ u. not (is_following u)) own)) e)

sending-port : (a : Association) (t : Turn) (own : List Turn) (b : Bool) → eqb t.source a.source ≡ b → sending_of a (cond (eqb t.source a.source) (t ∷ own) own) ≡ cond (eqb t.source a.source) (transfer_here a (follows_block t) (sending_of a own) t) (sending_of a own)
sending-port a t own true e = rw e (sending-here a t own (follows_block t) refl)
sending-port a t own false e = rw e refl

sending-kept : (earlier : List Turn) (t : Turn) (a : Association) (r : Bool) → is_opening t ≡ false → is_release_from a.source t ≡ r → sending (unless_released_by t (Some a)) (t ∷ earlier) ≡ transfer_kept (unless_released_by t (Some a)) (sending (Some a) earlier) t
sending-kept earlier t a true e r = rw r refl
sending-kept earlier t a false e r = rw (r, e) (sending-port a t (from_port a.source (since_opening earlier)) (eqb t.source a.source) refl)

sending-on : (earlier : List Turn) (t : Turn) (o : Option Association) → is_opening t ≡ false → sending (unless_released_by t o) (t ∷ earlier) ≡ transfer_kept (unless_released_by t o) (sending o earlier) t
sending-on earlier t None e = refl
sending-on earlier t (Some a) e = sending-kept earlier t a (is_release_from a.source t) e refl

sending-none : (earlier : List Turn) (t : Turn) (o : Option Association) → is_opening t ≡ true → sending o (t ∷ earlier) ≡ None
sending-none earlier t None e = refl
sending-none earlier t (Some a) e = rw e refl

sending-at : (plan : Plan) (earlier : List Turn) (t : Turn) (b : Bool) → is_opening t ≡ b → sending (in_force plan (t ∷ earlier)) (t ∷ earlier) ≡ transfer_after plan (in_force plan earlier) (sending (in_force plan earlier) earlier) t
sending-at plan earlier t true e = sending-none earlier t (in_force plan (t ∷ earlier)) e ∙ sym (ap (λ (b : Bool). cond b None (transfer_kept (unless_released_by t (in_force plan earlier)) (sending (in_force plan earlier) earlier) t)) e)
sending-at plan earlier t false e =
    let after : in_force plan (t ∷ earlier) ≡ unless_released_by t (in_force plan earlier) = in_force-more plan earlier t ∙ ap (λ (b : Bool). cond b (opened plan t) (unless_released_by t (in_force plan earlier))) e in
    ap (λ (o : Option Association). sending o (t ∷ earlier)) after ∙ sending-on earlier t (in_force plan earlier) e ∙ sym (ap (λ (b : Bool). cond b None (transfer_kept (unless_released_by t (in_force plan earlier)) (sending (in_force plan earlier) earlier) t)) e)

pub sending-more : (plan : Plan) (earlier : List Turn) (t : Turn) → sending (in_force plan (t ∷ earlier)) (t ∷ earlier) ≡ transfer_after plan (in_force plan earlier) (sending (in_force plan earlier) earlier) t
sending-more plan earlier t = sending-at plan earlier t (is_opening t) refl
