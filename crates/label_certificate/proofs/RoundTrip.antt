-- Labels are read from their text.
use Rattle.std.proofs.Common.{◌≡◌, ℕ, ◌+◌, ◌<◌, ◌≤◌, ◌^◌, Bool, true, false, ◌&&◌, cond, eqb, [], ◌∷◌, ◌++◌, Some, None, Result, Ok, refl, sym, ap, ◌∙◌, append_assoc, arith, inl, inr}
use Rattle.std.specs.Prelude.{nat_le, IfSome}
use Rattle.std.proofs.lemmas.Bool.{eqb-true}
use Rattle.std.proofs.lemmas.Bool.Decides.{nat_tests}
use Rattle.cosem_data.specs.declared.cell.CellRef.{CellRef}
use Rattle.meter_theory.specs.Labels.{Labels, nobody}
use Rattle.meter_theory.specs.Plan.{Plan}
use Rattle.meter_theory.specs.Sound.{IsSound}
use Rattle.meter_theory.specs.declared.flow.Label.{Label}
use Rattle.label_certificate.specs.Faults.{◌>>=◌, found_or, fault_unless, at_line}
use Rattle.label_certificate.specs.LabelLine.{IsLabelLine, line_text, parts}
use Rattle.label_certificate.specs.LabelText.{index_of, cell_of, cell_place, is_zero, place_of, label_of, judged, read_line, labels_from, labels_of_text, attribute_of, label_line, text_of_labels, AreFrom, AreInPlanOrder, HasClientsOf, HaveClientsOf, HaveByteNames}
use Rattle.label_certificate.specs.Members.{with_clients, rise_from}
use Rattle.label_certificate.specs.declared.fault.LabelCode.TheVariants.{Form, Cell, Client, Order}
use Rattle.label_certificate.proofs.CellForms.{placed_form}
use Rattle.label_certificate.proofs.ClientPlaces.{members_from, places_given, names_given, members_rise, set_given}
use Rattle.label_certificate.proofs.Joined.{parts_at}
use Rattle.label_certificate.proofs.LinesFrom.{labels_from-more}
use Rattle.label_certificate.proofs.LinesRead.{line_gives, line_has_no_end}
use Rattle.label_certificate.proofs.Parts.{parts-some}

-- the attribute with an index
record IsAttribute (index : ℕ) : Type 0 where
  index_is : index_of (attribute_of index) ≡ index
  no_zero : is_zero (attribute_of index) ≡ false
  small : index < 2 ^ 8 → IfSome (attribute_of index) (λ n. n < 2 ^ 8)

attribute_at : (index : ℕ) (b : Bool) → eqb index 0 ≡ b → IsAttribute index
attribute_at index true is = record {
  index_is = rw is (sym (eqb-true index 0 is));
  no_zero = rw is refl;
  small = λ h. rw is tt;
}
attribute_at index false is = record {
  index_is = rw is refl;
  no_zero = rw is is;
  small = λ h. rw is h;
}

attribute : (index : ℕ) → IsAttribute index
attribute index = attribute_at index (eqb index 0) refl

-- a line of labels has the form of a line
line_form : (P : Plan) → IsSound P → (entry : CellRef × Label) (place : ℕ) → cell_place P entry.0 ≡ Some place → HaveByteNames (entry ∷ []) → IsLabelLine (label_line P entry)
line_form P sound entry place e bytes =
    let form = placed_form P sound entry.0 place e in
    record {
      class_id = form.class_id;
      name_bytes = bytes entry (inl refl);
      name_length = form.long;
      attribute = (attribute entry.0.index).small form.index;
      influence = names_given P sound entry.1.influence;
      learn = names_given P sound entry.1.learn;
    }

bind_to : {A B E : Type 0} (r : Result A E) (f : A → Result B E) (x : A) (y : Result B E) → r ≡ Ok x → f x ≡ y → (r >>= f) ≡ y
bind_to r f x y p q = ap (λ s. s >>= f) p ∙ q

cell_again : (P : Plan) (entry : CellRef × Label) → cell_of (label_line P entry) ≡ entry.0
cell_again P entry = ap (λ index. record { class_id = entry.0.class_id; name = entry.0.name; index = index }) (attribute entry.0.index).index_is

place_again : (P : Plan) (entry : CellRef × Label) (place : ℕ) → cell_place P entry.0 ≡ Some place → place_of P (label_line P entry) ≡ Some place
place_again P entry place e =
    ap (λ b. cond b None (cell_place P (cell_of (label_line P entry)))) (attribute entry.0.index).no_zero
    ∙ ap (cell_place P) (cell_again P entry) ∙ e

label_again : (P : Plan) → IsSound P → (l : Label) → HasClientsOf P l.influence → HasClientsOf P l.learn →
    label_of (members_from l.influence 0 P.clients) (members_from l.learn 0 P.clients) ≡ l
label_again P sound l influence learn =
    ap (λ s. record { influence = s; learn = with_clients nobody (members_from l.learn 0 P.clients) }) (set_given P sound l.influence influence)
    ∙ ap (λ s. record { influence = l.influence; learn = s }) (set_given P sound l.learn learn)

-- what the line of an entry says is the entry
judged_again : (P : Plan) → IsSound P → (least place : ℕ) (entry : CellRef × Label) → cell_place P entry.0 ≡ Some place → least ≤ place → HasClientsOf P entry.1.influence → HasClientsOf P entry.1.learn →
    judged P least (label_line P entry) ≡ Ok (place, entry)
unfolding judged
judged_again P sound least place entry e above influence learn =
    let i = members_from entry.1.influence 0 P.clients in
    let j = members_from entry.1.learn 0 P.clients in
    let not_below : nat_le least place ≡ true = grind (arith, nat_tests) in
    let rising : (nat_le least place && (rise_from 0 i && rise_from 0 j)) ≡ true =
    ap (λ b. b && (rise_from 0 i && rise_from 0 j)) not_below
    ∙ ap (λ b. b && rise_from 0 j) (members_rise entry.1.influence P.clients 0 0 (omega arith))
    ∙ members_rise entry.1.learn P.clients 0 0 (omega arith) in
    bind_to _ _ place _ (ap (found_or Cell) (place_again P entry place e))
    (bind_to _ _ i _ (ap (found_or Client) (places_given P sound entry.1.influence))
    (bind_to _ _ j _ (ap (found_or Client) (places_given P sound entry.1.learn))
    (bind_to _ _ tt _ (ap (fault_unless Order) rising)
    (ap (λ x. Ok (place, (x, label_of i j))) (cell_again P entry) ∙ ap (λ l. Ok (place, (entry.0, l))) (label_again P sound entry.1 influence learn)))))

line_again : (P : Plan) → IsSound P → (least place : ℕ) (entry : CellRef × Label) → cell_place P entry.0 ≡ Some place → least ≤ place → HasClientsOf P entry.1.influence → HasClientsOf P entry.1.learn →
    HaveByteNames (entry ∷ []) → read_line P least (line_text (label_line P entry)) ≡ Ok (place, entry)
line_again P sound least place entry e above influence learn bytes =
    ap (λ o. found_or Form o >>= judged P least) (line_gives (label_line P entry) (line_form P sound entry place e bytes))
    ∙ judged_again P sound least place entry e above influence learn

-- the labels that follow are read, and so are these
lines_again : (P : Plan) → IsSound P → (number least : ℕ) (labels : Labels) → AreFrom P least labels → HaveClientsOf P labels → HaveByteNames labels → labels_from P number least (parts 10 (text_of_labels P labels)) ≡ Ok labels
lines_again P sound number least [] order clients bytes = refl
lines_again P sound number least (entry ∷ labels) order clients bytes =
    let line = line_text (label_line P entry) in
    let rest = text_of_labels P labels in
    let place = order.0 in
    let of = clients entry (inl refl) in
    let own : HaveByteNames (entry ∷ []) = λ x i. elim i [ inl e ↦ bytes x (inl e) | inr none ↦ absurd none ] in
    let form = line_form P sound entry place order.1 own in
    let apart : parts 10 ((line ++ 10 ∷ []) ++ rest) ≡ line ∷ parts 10 rest =
    ap (parts 10) (append_assoc line (10 ∷ []) rest) ∙ parts_at 10 line rest (line_has_no_end (label_line P entry) form) in
    let follow = lines_again P sound (number + 1) (place + 1) labels order.3 (λ x i. clients x (inr i)) (λ x i. bytes x (inr i)) in
    ap (labels_from P number least) apart
    ∙ labels_from-more P number least line (parts 10 rest) (parts-some 10 rest)
    ∙ ap (λ r. at_line number r >>= λ e. labels_from P (number + 1) (e.0 + 1) (parts 10 rest) >>= λ ls. Ok (e.1 ∷ ls)) (line_again P sound least place entry order.1 order.2 of.0 of.1 own)
    ∙ ap (λ r. r >>= λ ls. Ok (entry ∷ ls)) follow

-- labels are read from their text
pub labels_again : (P : Plan) (labels : Labels) → IsSound P → AreInPlanOrder P labels → HaveClientsOf P labels → HaveByteNames labels → labels_of_text P (text_of_labels P labels) ≡ Ok labels
labels_again P labels sound order clients bytes = lines_again P sound 1 0 labels order clients bytes
