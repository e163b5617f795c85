-- Where an unreadable line stands first, that is the end.
use Rattle.std.proofs.Common.{◌≡◌, ◌≢◌, ℕ, ◌+◌, List, [], ◌∷◌, ◌++◌, length, Option, Some, None, Result, Ok, Err, refl, sym, subst, ap, ◌∙◌, append_assoc, append-nil, inl, inr, ◌⊎◌, All}
use Rattle.std.proofs.lemmas.List.Elements.{All-head, All-tail}
use Rattle.std.specs.Io.KnownBytes.{Consumes, IsAtEnd}
use Rattle.meter_theory.specs.Plan.{Plan}
use Rattle.line_server.specs.declared.line.Line.{Line as LineValue}
use Rattle.line_server.specs.declared.line.Line.TheVariants.{Unreadable}
use Rattle.line_server.specs.declared.reason.Reason.{Reason}
use Rattle.line_server.specs.declared.fault.LineFault.{LineFault}
use Rattle.line_server.specs.declared.fault.LineFault.TheVariants.{Read, Write, Line, Memory}
use Rattle.line_server.specs.Spelling.{line_of}
use Rattle.line_server.specs.Lines.{IsLine, ended, text_of_lines, with_last, Moment, StandsWhole}
use Rattle.line_server.specs.Running.{IsReadable, RunsLines, IsOther, IsFirstBad, IsAllReadable}

not_end : (c : ℕ) (cs : List ℕ) → IsLine (c ∷ cs) → c ≡ 10 → ⊥
not_end c cs l e = All-head (λ (b : ℕ). b ≢ 10) c cs l e

rest_line : (c : ℕ) (cs : List ℕ) → IsLine (c ∷ cs) → IsLine cs
rest_line c cs l = All-tail (λ (b : ℕ). b ≢ 10) c cs l

heads : (x y : ℕ) (xs ys : List ℕ) → x ∷ xs ≡ y ∷ ys → x ≡ y
heads x y xs ys e = cc

tails : (x y : ℕ) (xs ys : List ℕ) → x ∷ xs ≡ y ∷ ys → xs ≡ ys
tails x y xs ys e = cc

-- two lines with their ends
one_line : (a b x y : List ℕ) → IsLine a → IsLine b → ended a ++ x ≡ ended b ++ y → (a ≡ b) × (x ≡ y)
one_line [] [] x y la lb e = (refl, tails 10 10 x y e)
one_line [] (c ∷ b) x y la lb e = absurd (not_end c b lb (sym (heads 10 c x (ended b ++ y) e)))
one_line (c ∷ a) [] x y la lb e = absurd (not_end c a la (heads c 10 (ended a ++ x) y e))
one_line (c ∷ a) (d ∷ b) x y la lb e =
    let r = one_line a b x y (rest_line c a la) (rest_line d b lb) (tails c d (ended a ++ x) (ended b ++ y) e) in
    (ap (λ (h : ℕ). h ∷ a) (heads c d (ended a ++ x) (ended b ++ y) e) ∙ ap (λ (t : List ℕ). d ∷ t) r.0, r.1)

-- a line with its end is no part of a line
no_line : (a b x : List ℕ) → IsLine b → ended a ++ x ≡ b → ⊥
no_line [] [] x l e = absurd cc
no_line [] (d ∷ b) x l e = not_end d b l (sym (heads 10 d x b e))
no_line (c ∷ a) [] x l e = absurd cc
no_line (c ∷ a) (d ∷ b) x l e = no_line a b x (rest_line d b l) (tails c d (ended a ++ x) b e)

-- a line that is unreadable for this reason stands there
abbrev Bad : Plan → Reason → List ℕ → List ℕ → Type 0
Bad plan why line rest = IsLine line × (line_of plan line ≡ Unreadable why) × (((more : List ℕ) × (rest ≡ ended line ++ more)) ⊎ (rest ≡ line))

-- no readable line with its end stands there: an unreadable one does, or no end does and what is there is readable
abbrev IsLast : Plan → List ℕ → Type 0
IsLast plan rest = ((why : Reason) × (line : List ℕ) × Bad plan why line rest) ⊎ (IsLine rest × IsReadable plan rest)

no_more : (plan : Plan) (rest line more : List ℕ) → IsLast plan rest → IsLine line → IsReadable plan line → rest ≡ ended line ++ more → ⊥
no_more plan rest line more (inl (why, bad, (is, unreadable, inl whole))) l r e = r why (ap (line_of plan) (sym (one_line bad line whole.0 more is l (sym whole.1 ∙ e)).0) ∙ unreadable)
no_more plan rest line more (inl (why, bad, (is, unreadable, inr whole))) l r e = no_line line bad more is (sym e ∙ whole)
no_more plan rest line more (inr last) l r e = no_line line rest more last.0 (sym e)

-- not both stand there
not_both : (plan : Plan) (why : Reason) (line rest last : List ℕ) → Bad plan why line rest → IsLine last → IsReadable plan last → rest ≡ last → ⊥
not_both plan why line rest last (is, unreadable, inl whole) l r e = no_line line last whole.0 l (sym whole.1 ∙ e)
not_both plan why line rest last (is, unreadable, inr whole) l r e = r why (ap (line_of plan) (sym e ∙ whole) ∙ unreadable)

-- one line alone stands there, and so for one reason
one_reason : (plan : Plan) (why told : Reason) (line other rest : List ℕ) → Bad plan why line rest → Bad plan told other rest → why ≡ told
one_reason plan why told line other rest a b = same_reason (ap (line_of plan) (one a b))
  where
    one : Bad plan why line rest → Bad plan told other rest → line ≡ other
    one (is, bad, inl whole) (also, worse, inl all) = (one_line line other whole.0 all.0 is also (sym whole.1 ∙ all.1)).0
    one (is, bad, inl whole) (also, worse, inr all) = absurd (no_line line other whole.0 also (sym whole.1 ∙ all))
    one (is, bad, inr whole) (also, worse, inl all) = absurd (no_line other line all.0 is (sym all.1 ∙ whole))
    one (is, bad, inr whole) (also, worse, inr all) = sym whole ∙ all

    same_reason : line_of plan line ≡ line_of plan other → why ≡ told
    same_reason e = let f : ◌≡◌ {A = LineValue} (Unreadable why) (Unreadable told) = sym a.1 ∙ e ∙ b.1 in cc

-- a text is readable lines with their ends and what can't be one more in one way only
one_way : (plan : Plan) (lines ls : List (List ℕ)) (rest left : List ℕ) → All IsLine lines → All (IsReadable plan) lines → IsLast plan rest → All IsLine ls → All (IsReadable plan) ls → IsLast plan left
    → text_of_lines lines ++ rest ≡ text_of_lines ls ++ left → (lines ≡ ls) × (rest ≡ left)
one_way plan [] [] rest left a r p b s q e = (refl, e)
one_way plan [] (m ∷ ms) rest left a r p b s q e =
    absurd (no_more plan rest m (text_of_lines ms ++ left) p (All-head IsLine m ms b) (All-head (IsReadable plan) m ms s) (e ∙ append_assoc (ended m) (text_of_lines ms) left))
one_way plan (k ∷ ks) [] rest left a r p b s q e =
    absurd (no_more plan left k (text_of_lines ks ++ rest) q (All-head IsLine k ks a) (All-head (IsReadable plan) k ks r) (sym e ∙ append_assoc (ended k) (text_of_lines ks) rest))
one_way plan (k ∷ ks) (m ∷ ms) rest left a r p b s q e =
    let f = sym (append_assoc (ended k) (text_of_lines ks) rest) ∙ e ∙ append_assoc (ended m) (text_of_lines ms) left in
    let first = one_line k m (text_of_lines ks ++ rest) (text_of_lines ms ++ left) (All-head IsLine k ks a) (All-head IsLine m ms b) f in
    let others = one_way plan ks ms rest left (All-tail IsLine k ks a) (All-tail (IsReadable plan) k ks r) p (All-tail IsLine m ms b) (All-tail (IsReadable plan) m ms s) q first.1 in
    (ap (λ (l : List ℕ). l ∷ ks) first.0 ∙ ap (λ (ls : List (List ℕ)). m ∷ ls) others.0, others.1)

-- at the end of the input all of it was read
all_read : (unread after : Option (List ℕ)) (input bytes : List ℕ) → unread ≡ Some input → Consumes unread after bytes → IsAtEnd after → input ≡ bytes
all_read None after input bytes e c end = let f : ◌≡◌ {A = Option (List ℕ)} None (Some input) = e in absurd cc
all_read (Some xs) None input bytes e c end = absurd c
all_read (Some xs) (Some ys) input bytes e c end =
    let f : xs ≡ input = cc in
    sym f ∙ c ∙ ap (λ (t : List ℕ). bytes ++ t) end ∙ append-nil bytes

-- what was read stands in front of the input
read_front : (unread after : Option (List ℕ)) (input bytes : List ℕ) → unread ≡ Some input → Consumes unread after bytes → (left : List ℕ) × (input ≡ bytes ++ left) × (IsAtEnd after → left ≡ [])
read_front None after input bytes e c = let f : ◌≡◌ {A = Option (List ℕ)} None (Some input) = e in absurd cc
read_front (Some xs) None input bytes e c = absurd c
read_front (Some xs) (Some ys) input bytes e c = let f : xs ≡ input = cc in (ys, sym f ∙ c, λ end. end)

bad_of : (plan : Plan) (unread : Option (List ℕ)) (why : Reason) (line rest left : List ℕ) → line_of plan line ≡ Unreadable why → StandsWhole unread line rest → (IsAtEnd unread → left ≡ []) → Bad plan why line (rest ++ left)
bad_of plan unread why line rest left bad s none =
    elim s.1 [
      | inl m ↦ (s.0, bad, inl (m.0 ++ left, ap (λ (t : List ℕ). t ++ left) m.1 ∙ append_assoc (ended line) m.0 left))
      | inr m ↦ (s.0, bad, inr (ap (λ (t : List ℕ). rest ++ t) (none m.2) ∙ append-nil rest ∙ m.0))
    ]

pub bad_line : (plan : Plan) (before after : Moment) (r : Result ℕ LineFault) → RunsLines plan before after r
    → (input : List ℕ) (lines : List (List ℕ)) (line rest : List ℕ) (why : Reason) → before.unread ≡ Some input → IsFirstBad plan input lines line rest why → (r ≡ Err (Line (length lines + 1) why)) ⊎ IsOther r
bad_line plan before after (Ok count) h input lines line rest why e f =
    let all = all_read before.unread after.unread input (text_of_lines h.0 ++ h.1) e h.2.read h.5 in
    let bad : Bad plan why line rest = (f.line_is, f.unreadable, f.stands) in
    absurd (not_both plan why line rest h.1 bad h.3 h.4 (one_way plan lines h.0 rest h.1 f.each f.readable (inl (why, line, bad)) h.2.each h.2.readable (inr (h.3, h.4)) (sym f.whole ∙ all)).1)
bad_line plan before after (Err Read) h input lines line rest why e f = inr tt
bad_line plan before after (Err Write) h input lines line rest why e f = inr tt
bad_line plan before after (Err (Line n told)) h input lines line rest why e f =
    let front = read_front before.unread after.unread input (text_of_lines h.0 ++ h.1) e h.3.read in
    let whole = sym f.whole ∙ front.1 ∙ append_assoc (text_of_lines h.0) h.1 front.0 in
    let bad : Bad plan why line rest = (f.line_is, f.unreadable, f.stands) in
    let other = bad_of plan after.unread told h.2 h.1 front.0 h.5 h.4 front.2 in
    let same = one_way plan lines h.0 rest (h.1 ++ front.0) f.each f.readable (inl (why, line, bad)) h.3.each h.3.readable (inl (told, h.2, other)) whole in
    let reason : told ≡ why = sym (one_reason plan why told line h.2 rest bad (subst (Bad plan told h.2) (sym same.1) other)) in
    inl (ap (λ (k : ℕ). Err (Line k told)) (h.6 ∙ ap (λ (ls : List (List ℕ)). length ls + 1) (sym same.0)) ∙ ap (λ (w : Reason). Err (Line (length lines + 1) w)) reason)
bad_line plan before after (Err Memory) h input lines line rest why e f = inr tt

pub readable_lines : (plan : Plan) (before after : Moment) (r : Result ℕ LineFault) → RunsLines plan before after r
    → (input : List ℕ) (lines : List (List ℕ)) (last : List ℕ) → before.unread ≡ Some input → IsAllReadable plan input lines last
    → (r ≡ Ok (length (with_last lines last))) ⊎ IsOther r
readable_lines plan before after (Ok count) h input lines last e f =
    let all = all_read before.unread after.unread input (text_of_lines h.0 ++ h.1) e h.2.read h.5 in
    let same = one_way plan lines h.0 last h.1 f.each f.readable (inr (f.last_is, f.last_readable)) h.2.each h.2.readable (inr (h.3, h.4)) (sym f.whole ∙ all) in
    inl (ap (λ (n : ℕ). Ok n) (h.6 ∙ ap (λ (ls : List (List ℕ)). length (with_last ls h.1)) (sym same.0) ∙ ap (λ (l : List ℕ). length (with_last lines l)) (sym same.1)))
readable_lines plan before after (Err Read) h input lines last e f = inr tt
readable_lines plan before after (Err Write) h input lines last e f = inr tt
readable_lines plan before after (Err (Line n why)) h input lines last e f =
    let front = read_front before.unread after.unread input (text_of_lines h.0 ++ h.1) e h.3.read in
    let bad = bad_of plan after.unread why h.2 h.1 front.0 h.5 h.4 front.2 in
    let whole = sym (front.1 ∙ append_assoc (text_of_lines h.0) h.1 front.0) ∙ f.whole in
    absurd (not_both plan why h.2 (h.1 ++ front.0) last bad f.last_is f.last_readable
    (one_way plan h.0 lines (h.1 ++ front.0) last h.3.each h.3.readable (inl (why, h.2, bad)) f.each f.readable (inr (f.last_is, f.last_readable)) whole).1)
readable_lines plan before after (Err Memory) h input lines last e f = inr tt
