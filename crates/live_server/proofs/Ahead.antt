-- What was read ahead, as it is given.
use Rattle.std.proofs.Common.{◌≡◌, ℕ, ◌+◌, ◌-◌, ◌≤◌, List, [], ◌++◌, take, drop, length, slice_range, Option, None, Some, sym, ap, ◌∙◌, append_assoc, arith, drop-drop, length-take, length-drop}
use Rattle.std.proofs.lemmas.List.{drop-take, take-append-drop}
use Rattle.std.specs.Io.KnownBytes.{Consumes, IsAtEnd, Keeps, prepend_known}
use Rattle.live_server.specs.Ahead.{unread}

gives : (front rest all : List ℕ) (left : Option (List ℕ)) → all ≡ front ++ rest → Consumes (prepend_known all left) (prepend_known rest left) front
gives front rest all None is = tt
gives front rest all (Some x) is = ap (λ (l : List ℕ). l ++ x) is ∙ append_assoc front rest x

kept : (a b c : Option (List ℕ)) (bs : List ℕ) → Keeps a b → Consumes b c bs → Consumes a c bs
kept None b c bs k u = tt
kept (Some x) None c bs k u = absurd k
kept (Some x) (Some y) None bs k u = absurd u
kept (Some x) (Some y) (Some z) bs k u = sym k ∙ u

at_end : (front : List ℕ) (left : Option (List ℕ)) → front ≡ [] → IsAtEnd left → IsAtEnd (prepend_known front left)
at_end front None none end = tt
at_end front (Some x) none end = ap (λ (l : List ℕ). l ++ x) none ∙ end

-- behind the first bytes
advance : (xs : List ℕ) (from to n : ℕ) → n ≤ to - from → slice_range xs (from + n) to ≡ drop n (slice_range xs from to)
advance xs from to n within =
    let all : n + (to - (from + n)) ≡ to - from = omega (arith, within) in
    ap (take (to - (from + n))) (sym (drop-drop n from xs))
    ∙ sym (drop-take n (to - (from + n)) (drop from xs))
    ∙ ap (λ (k : ℕ). drop n (take k (drop from xs))) all

-- the first bytes are given
pub gives-ahead : (ahead : List ℕ) (from to n : ℕ) (old left : Option (List ℕ)) → n ≤ length (slice_range ahead from to) → Keeps old (unread ahead from to left)
    → Consumes old (unread ahead (from + n) to left) (take n (slice_range ahead from to))
gives-ahead ahead from to n old left within keeps =
    let all = slice_range ahead from to in
    let fits : n ≤ to - from = omega (arith, within, length-take (to - from) (drop from ahead)) in
    kept old (unread ahead from to left) (unread ahead (from + n) to left) (take n all) keeps
    (gives (take n all) (slice_range ahead (from + n) to) all left (sym (take-append-drop n all) ∙ ap (λ (l : List ℕ). take n all ++ l) (sym (advance ahead from to n fits))))

-- none is there to be given
pub ends-ahead : (ahead : List ℕ) (from to n : ℕ) (left : Option (List ℕ)) → to ≤ from → IsAtEnd left → IsAtEnd (unread ahead (from + n) to left)
ends-ahead ahead from to n left none end =
    let empty : to - (from + n) ≡ 0 = omega (arith, none) in
    at_end (slice_range ahead (from + n) to) left (ap (λ (k : ℕ). take k (drop (from + n) ahead)) empty) end

-- what is empty has no place
pub none-ahead : (ahead : List ℕ) (from to : ℕ) → to ≤ length ahead → length (slice_range ahead from to) ≡ 0 → to ≤ from
none-ahead ahead from to within none = omega (arith, within, none, length-take (to - from) (drop from ahead), length-drop from ahead)
