-- Each cell stands in exactly one row.
use Rattle.std.proofs.Common.{◌≡◌, ℕ, zero, suc, ◌<◌, Bool, true, false, List, [], ◌∷◌, get_or, length, map, refl, ap, sym, subst, ◌∙◌, arith, Some, option_map, nat_le}
use Rattle.std.specs.Bool.{MatchBool}
use Rattle.std.specs.List.{Contains, range_with_len}
use Rattle.std.specs.Prelude.{slice_get}
use Rattle.std.proofs.lemmas.List.{get_or-map, length-map}
use Rattle.std.proofs.lemmas.List.FromFn.{get_or-range_with_len, length-range_with_len}
use Rattle.std.proofs.lemmas.Option.{slice_get-get_or, slice_get-map}
use Rattle.flow_map.specs.Grouping.{AreGrouped, IsInOne}
use Rattle.flow_map.proofs.Once.{alike-in-group, in-one-group, low-member}
use Rattle.flow_page.specs.Rows.{AreAlike, singles}
use Rattle.flow_page.specs.declared.view.limits.TheConstants.{ROWS}

-- Single numbers

single-at : (count k : ℕ) → k < count → get_or (singles count) k [] ≡ k ∷ []
single-at count k less =
    get_or-map (λ i. i ∷ []) (range_with_len 0 count) k 0 [] (omega (arith, less, length-range_with_len 0 count))
    ∙ ap (λ i. i ∷ []) (let e : get_or (range_with_len 0 count) k 0 ≡ k = omega (arith, get_or-range_with_len 0 count k 0 less) in e)

many-singles : (count : ℕ) → length (singles count) ≡ count
many-singles count = length-map (range_with_len 0 count) (λ i. i ∷ []) ∙ length-range_with_len 0 count

alone-in : (k i : ℕ) → Contains (k ∷ []) i → k ≡ i
alone-in k i (zero, low, is) = is
alone-in k i (suc j, low, is) = absurd (omega (arith, low))

member-of-single : (count k i : ℕ) → k < length (singles count) → Contains (get_or (singles count) k []) i → k ≡ i
member-of-single count k i less has = alone-in k i (subst (λ xs. Contains xs i) (single-at count k (subst (λ m. k < m) (many-singles count) less)) has)

in-one-single : (count i : ℕ) → i < count → IsInOne (singles count) i
in-one-single count i less = record {
  group = i;
  there = subst (λ m. i < m) (sym (many-singles count)) less;
  has = subst (λ xs. Contains xs i) (sym (single-at count i less)) (0, omega arith, refl);
  no_other = λ k low has. member-of-single count k i low has;
}

-- Rows

module _ {A : Type 0} (key : ℕ → A) (count : ℕ) (rows : List (List ℕ)) (are : AreAlike key count rows) where
  abbrev keys : List A
  keys = map key (range_with_len 0 count)

  one-key : (a b : A) → Some a ≡ Some b → a ≡ b
  one-key a b e = cc

  key-at : (i : ℕ) → i < count → slice_get keys i ≡ Some (key i)
  key-at i less =
      slice_get-map key (range_with_len 0 count) i
      ∙ ap (option_map key) (slice_get-get_or (range_with_len 0 count) i 0 (omega (arith, less, length-range_with_len 0 count))
      ∙ ap Some (let e : get_or (range_with_len 0 count) i 0 ≡ i = omega (arith, get_or-range_with_len 0 count i 0 less) in e))

  long : length keys ≡ count
  long = length-map (range_with_len 0 count) key ∙ length-range_with_len 0 count

  pub in-one-row : (i : ℕ) → i < count → IsInOne rows i
  in-one-row i less = at (nat_le count ROWS) are
    where
      at : (b : Bool) → MatchBool b (rows ≡ singles count) (AreGrouped (map key (range_with_len 0 count)) rows) → IsInOne rows i
      at true is = subst (λ ns. IsInOne ns i) (sym is) (in-one-single count i less)
      at false grouped = in-one-group keys rows grouped i (subst (λ m. i < m) (sym long) less)

  pub alike-in-row : (k i j : ℕ) → k < length rows → Contains (get_or rows k []) i → Contains (get_or rows k []) j → key i ≡ key j
  alike-in-row k i j less has-i has-j = at (nat_le count ROWS) are
    where
      at : (b : Bool) → MatchBool b (rows ≡ singles count) (AreGrouped (map key (range_with_len 0 count)) rows) → key i ≡ key j
      at true is =
          let within = subst (λ ns. k < length ns) is less in
          let alone = λ (n : ℕ) (has : Contains (get_or rows k []) n). member-of-single count k n within (subst (λ ns. Contains (get_or ns k []) n) is has) in
          ap key (sym (alone i has-i) ∙ alone j has-j)
      at false grouped =
          let low = λ (n : ℕ) (has : Contains (get_or rows k []) n). subst (λ m. n < m) long (low-member keys rows grouped k n less has) in
          one-key (key i) (key j) (sym (key-at i (low i has-i)) ∙ (alike-in-group keys rows grouped k i j less has-i has-j ∙ key-at j (low j has-j)))
