-- What is left of a text that is given piece by piece.
use Rattle.std.proofs.Common.{◌≡◌, ℕ, ◌+◌, ◌≤◌, List, [], ◌++◌, length, take, drop, ap, sym, ◌∙◌, arith, length-drop, drop_of_length-le, take-append-drop, drop-drop, take_at}

pub none_left : (xs : List ℕ) (n : ℕ) → n ≡ length xs → drop n xs ≡ []
none_left xs n e = drop_of_length-le xs (omega (arith, e))

pub all_given : (xs : List ℕ) (n : ℕ) → n ≤ length xs → drop n xs ≡ [] → n ≡ length xs
all_given xs n within e = omega (arith, within, length-drop n xs, ap length e)

-- what is given is the front of what was left
pub front_given : (xs copied room : List ℕ) (from count : ℕ) → copied ≡ take count (drop from xs) → length copied ≡ count
    → drop from xs ≡ take count (copied ++ room) ++ drop (from + count) xs
front_given xs copied room from count e size =
    sym (take-append-drop count (drop from xs)) ∙ ap (λ rest. take count (drop from xs) ++ rest) (drop-drop count from xs)
    ∙ ap (λ front. front ++ drop (from + count) xs) (sym e ∙ sym (take_at copied room count size))
