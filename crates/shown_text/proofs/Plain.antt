-- Each byte is shown by characters that pass a test, so each text is: of the 256 bytes each is tried.
use Rattle.std.proofs.Common.{◌≡◌, ◌∙◌, ◌<◌, ℕ, zero, suc, Bool, true, false, ◌&&◌, List, [], ◌∷◌, ap₂, flat_map, length, get_or, refl, subst, arith}
use Rattle.std.specs.List.{list_all, range_with_len}
use Rattle.std.proofs.lemmas.Bool.{ltb-true}
use Rattle.std.proofs.lemmas.List.Folds.{list_all-append}
use Rattle.std.proofs.lemmas.List.FromFn.{get_or-range_with_len}
use Rattle.shown_text.specs.Html.{html_byte, html_text, is_plain}
use Rattle.shown_text.specs.Printable.{is_byte, is_printable, printable, shown_byte}

-- of two that hold each does
left-holds : (a b : Bool) → (a && b) ≡ true → a ≡ true
left-holds true b both = refl
left-holds false b both = both

right-holds : (a b : Bool) → (a && b) ≡ true → b ≡ true
right-holds true b both = both
right-holds false b both = grind (arith, both)

-- what holds of all holds of each
holds-at : (p : ℕ → Bool) (xs : List ℕ) (i d : ℕ) → i < length xs → list_all p xs ≡ true → p (get_or xs i d) ≡ true
holds-at p [] i d less all = absurd (omega (arith, less))
holds-at p (x ∷ xs) zero d less all = left-holds (p x) (list_all p xs) all
holds-at p (x ∷ xs) (suc i) d less all = holds-at p xs i d (omega (arith, less)) (right-holds (p x) (list_all p xs) all)

module _ (shown : ℕ → List ℕ) (passes : ℕ → Bool) (tried : list_all (λ b. list_all passes (shown b)) (range_with_len 0 256) ≡ true) where
  byte-passes : (b : ℕ) → is_byte b ≡ true → list_all passes (shown b) ≡ true
  byte-passes b small =
      let less : b < 256 = ltb-true b 256 small in
      let same : get_or (range_with_len 0 256) b 0 ≡ b = omega (arith, get_or-range_with_len 0 256 b 0 less) in
      subst (λ k. list_all passes (shown k) ≡ true) same
      (holds-at (λ k. list_all passes (shown k)) (range_with_len 0 256) b 0 less tried)

  pub text-passes : (text : List ℕ) → list_all is_byte text ≡ true → list_all passes (flat_map shown text) ≡ true
  text-passes [] bytes = refl
  text-passes (b ∷ bs) bytes =
      list_all-append passes (shown b) (flat_map shown bs)
      ∙ ap₂ (λ x y. x && y) (byte-passes b (left-holds (is_byte b) (list_all is_byte bs) bytes)) (text-passes bs (right-holds (is_byte b) (list_all is_byte bs) bytes))

pub printable-plain : (text : List ℕ) → list_all is_byte text ≡ true → list_all is_printable (printable text) ≡ true
printable-plain = text-passes shown_byte is_printable refl

pub html-plain : (text : List ℕ) → list_all is_byte text ≡ true → list_all is_plain (html_text text) ≡ true
html-plain = text-passes html_byte is_plain refl
