-- Records that are written one behind another.
use Rattle.std.proofs.Common.{◌≡◌, ◌<◌, ◌+◌, ℕ, List, [], ◌∷◌, ◌++◌, flat_map, get_or, length, map, take, Option, Some, refl, sym, ap, subst, ◌∙◌, append-nil, arith}
use Rattle.std.specs.Io.KnownBytes.{Appends}
use Rattle.std.specs.List.{range_with_len}
use Rattle.std.specs.Prelude.{slice_get}
use Rattle.std.proofs.KnownBytes.{Appends-trans}
use Rattle.std.proofs.lemmas.Grind.{flat_map-append}
use Rattle.std.proofs.lemmas.List.{get_or-map, map-id, take_more}
use Rattle.std.proofs.lemmas.List.FromFn.{map-range_with_len_more}
use Rattle.std.proofs.lemmas.Option.{get_or_from_slice_get, slice_get_within}
use Rattle.csv.proofs.WriteFacts.{appends-none}
use Rattle.csv.specs.Writing.{default_writer, row_text, text_written}
use Rattle.csv.specs.declared.writer.Writer.{Writer}
use Rattle.meter_theory.specs.Plan.{Client}
use Rattle.flow_forms.specs.Csv.{AreWritten, IsBetween, rows_text}

module _ {W : Type 0} (contents : W → Option (List ℕ)) where
  -- none at first
  pub none-written : (writer : Writer W) → IsBetween writer → AreWritten contents writer writer []
  none-written writer between = record { between = between; text = appends-none (text_written contents writer) }

  -- and more behind others
  pub more-written : (a b c : Writer W) (rows more : List (List (List ℕ))) → AreWritten contents a b rows → AreWritten contents b c more → AreWritten contents a c (rows ++ more)
  more-written a b c rows more first next = record {
    between = next.between;
    text = subst (Appends (text_written contents a) (text_written contents c)) (sym (flat_map-append (row_text default_writer) rows more))
        (Appends-trans (text_written contents a) (text_written contents b) (text_written contents c) (rows_text rows) (rows_text more) first.text next.text);
  }

-- of one element more
pub element-more : {A B : Type 0} (f : A → List B) (xs : List A) (k : ℕ) (d : A) → k < length xs → flat_map f (take (k + 1) xs) ≡ flat_map f (take k xs) ++ f (get_or xs k d)
element-more f xs k d less =
    ap (flat_map f) (take_more xs k d less)
    ∙ flat_map-append f (take k xs) (get_or xs k d ∷ [])
    ∙ ap (λ t. flat_map f (take k xs) ++ t) (append-nil (f (get_or xs k d)))

-- and of one number more
pub number-more : {B : Type 0} (f : ℕ → List B) (start k : ℕ) → flat_map f (range_with_len start (k + 1)) ≡ flat_map f (range_with_len start k) ++ f (start + k)
number-more f start k =
    ap (flat_map f) (sym (map-id (range_with_len start (k + 1)))
    ∙ map-range_with_len_more (λ j. j) start k (start + k) refl
    ∙ ap (λ js. js ++ (start + k) ∷ []) (map-id (range_with_len start k)))
    ∙ flat_map-append f (range_with_len start k) ((start + k) ∷ [])
    ∙ ap (λ t. flat_map f (range_with_len start k) ++ t) (append-nil (f (start + k)))

-- the records of a client more
pub client-more : {B : Type 0} (f : ℕ → List B) (k : ℕ) → flat_map f (range_with_len 0 (k + 1)) ≡ flat_map f (range_with_len 0 k) ++ f k
client-more f k =
    let e : 0 + k ≡ k = omega arith in
    number-more f 0 k ∙ ap (λ j. flat_map f (range_with_len 0 k) ++ f j) e

-- the name of a client at a place
pub name-there : (clients : List Client) (c : ℕ) (who : Client) → slice_get clients c ≡ Some who → get_or (map (λ w. w.name) clients) c [] ≡ who.name
name-there clients c who is = get_or-map (λ w. w.name) clients c who [] (slice_get_within clients c who is) ∙ ap (λ w. w.name) (get_or_from_slice_get clients c who who is)
