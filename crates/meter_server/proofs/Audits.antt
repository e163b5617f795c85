-- Names, and what explains the verdicts on them.
use Rattle.std.proofs.Common.{◌≡◌, ◌==◌, ℕ, ◌+◌, ◌<◌, Bool, true, false, cond, not, List, [], ◌∷◌, ◌++◌, length, map, take, get_or, filter, sym, ap, ◌∙◌, append_assoc, append-nil}
use Rattle.std.proofs.lemmas.List.{map-append, take_more}
use Rattle.std.proofs.lemmas.List.Elements.{filter-append}
use denote.Ref.{Bor}

-- lines that are lent, and the lines themselves
abbrev pub Lent : Type 0
Lent = List (Bor (List ℕ))

abbrev pub said : Lent → List (List ℕ)
said lines = map (λ line. line.now) lines

-- a line that isn't empty
abbrev pub is_name : List ℕ → Bool
is_name line = not (length line == 0)

-- the names among the lines as far as one
module _ (front : List (List ℕ)) (lines : Lent) (i : ℕ) (d : Bor (List ℕ)) (within : i < length lines) where
  as-far : filter is_name (said (take (i + 1) lines)) ≡ filter is_name (said (take i lines)) ++ filter is_name ((get_or lines i d).now ∷ [])
  as-far =
      ap (λ (l : Lent). filter is_name (said l)) (take_more lines i d within)
      ∙ ap (filter is_name) (map-append (λ (line : Bor (List ℕ)). line.now) (take i lines) (get_or lines i d ∷ []))
      ∙ filter-append is_name (said (take i lines)) ((get_or lines i d).now ∷ [])

  one-more : (b : Bool) → is_name (get_or lines i d).now ≡ b
      → front ++ filter is_name (said (take (i + 1) lines)) ≡ (front ++ filter is_name (said (take i lines))) ++ cond b ((get_or lines i d).now ∷ []) []
  one-more b is =
      ap (λ (l : List (List ℕ)). front ++ l) (as-far ∙ ap (λ (c : Bool). filter is_name (said (take i lines)) ++ cond c ((get_or lines i d).now ∷ []) []) is)
      ∙ sym (append_assoc front (filter is_name (said (take i lines))) (cond b ((get_or lines i d).now ∷ []) []))

  -- a line that isn't empty is put behind the names
  pub one-put : (old new : Lent) → new ≡ old ++ get_or lines i d ∷ [] → is_name (get_or lines i d).now ≡ true
      → said old ≡ front ++ filter is_name (said (take i lines)) → said new ≡ front ++ filter is_name (said (take (i + 1) lines))
  one-put old new is some before =
      ap said is
      ∙ map-append (λ (line : Bor (List ℕ)). line.now) old (get_or lines i d ∷ [])
      ∙ ap (λ (l : List (List ℕ)). l ++ (get_or lines i d).now ∷ []) before
      ∙ sym (one-more true some)

  -- and an empty one is passed over
  pub none-put : (old : Lent) → is_name (get_or lines i d).now ≡ false
      → said old ≡ front ++ filter is_name (said (take i lines)) → said old ≡ front ++ filter is_name (said (take (i + 1) lines))
  none-put old none before = before ∙ sym (append-nil (front ++ filter is_name (said (take i lines)))) ∙ sym (one-more false none)
