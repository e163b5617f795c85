use Rattle.std.proofs.Common.{◌≡◌, ◌+◌, ◌-◌, ◌*◌, ℕ, List, [], ◌∷◌, ◌++◌, length, take, drop, replicate, ap, ◌∙◌, arith, append-nil, length-append}
use Rattle.std.proofs.Math.Seq.{take-append_seam, drop-append_seam}
use Rattle.std.proofs.lemmas.List.{take_all, drop_all, drop-replicate, length-replicate}
use borrow.Rule.Slice.PartMut.{post_of}
use Rattle.hex.specs.Hex.{upper_digits}
use Rattle.hex.proofs.HexLemmas.{length-encode_with}
use Rattle.line_server.proofs.text.put_reply.Goals as goal

-- of a room that was filled up with newlines behind the old texts, digits took all but the last place
digits_put : (old full room digits : List ℕ) (j start end len kept count : ℕ) → start ≡ length old → end ≡ start + j → len ≡ end + 1 → kept ≡ len → count ≡ length old
    → full ≡ take len old ++ replicate (len - count) 10 → room ≡ full → length digits ≡ j
    → take kept ((take start room ++ (digits ++ post_of start (end - start) room)) ++ drop (length (take start room ++ (digits ++ post_of start (end - start) room))) full) ≡ old ++ (digits ++ 10 ∷ [])
digits_put old full room digits j start end len kept count at ends size keeps counts filled same long =
    let behind = replicate (j + 1) 10 in
    let many : len - count ≡ j + 1 = omega arith in
    let one : (j + 1) - (end - start) ≡ 1 = omega arith in
    let whole : full ≡ old ++ behind =
    filled ∙ ap (λ (t : List ℕ). t ++ replicate (len - count) 10) (take_all len old (omega arith)) ∙ ap (λ (m : ℕ). old ++ replicate m 10) many in
    let front : take start room ≡ old = ap (λ (m : ℕ). take m room) at ∙ ap (take (length old)) (same ∙ whole) ∙ take-append_seam old behind in
    let last : post_of start (end - start) room ≡ 10 ∷ [] =
    ap (drop (end - start)) (ap (λ (m : ℕ). drop m room) at ∙ ap (drop (length old)) (same ∙ whole) ∙ drop-append_seam old behind)
    ∙ drop-replicate (end - start) (j + 1) 10 ∙ ap (λ (m : ℕ). replicate m 10) one in
    let put = take start room ++ (digits ++ post_of start (end - start) room) in
    let is : put ≡ old ++ (digits ++ 10 ∷ []) =
    ap (λ (t : List ℕ). t ++ (digits ++ post_of start (end - start) room)) front ∙ ap (λ (t : List ℕ). old ++ (digits ++ t)) last in
    let fits : length put ≡ len =
    ap (λ (t : List ℕ). length t) is ∙ omega (arith, length-append old (digits ++ 10 ∷ []), length-append digits (10 ∷ [])) in
    let all : length full ≡ len =
    ap (λ (t : List ℕ). length t) whole ∙ omega (arith, length-append old behind, length-replicate {A = ℕ} (j + 1) 10) in
    ap (take kept) (ap (λ (t : List ℕ). put ++ t) (drop_all (length put) full (omega arith)) ∙ append-nil put) ∙ take_all kept put (omega arith) ∙ is

pub returns-clause-ok : goal.returns-clause-ok
returns-clause-ok c =
    let old = c.args.texts.now.items in
    let count = c.args.texts.now.ok.0 in
    digits_put old c.resize.new.self.items c.deref_mut.result.now c.put_digits.new.room (2 * length c.args.reply.now) c.len-start.result c.in-Some.end c.in-Some-checked_add.len c.resize.new.self.len c.args.texts.now.len
    (omega (arith, c.len-start.ensures, count)) (omega (arith, c.in-Some.ensures)) (omega (arith, c.in-Some-checked_add.ensures)) c.in_ok-resize.ensures.len (omega (arith, count)) c.in_ok-resize.ensures.items
    c.deref_mut.ensures.value (ap (λ (t : List ℕ). length t) c.put_digits.ensures ∙ length-encode_with upper_digits c.args.reply.now)
    ∙ ap (λ (t : List ℕ). old ++ (t ++ 10 ∷ [])) c.put_digits.ensures
