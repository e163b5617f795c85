-- Labels that are read stand in plan order.
use Rattle.std.proofs.Common.{◌≡◌, ℕ, ◌+◌, ◌≤◌, Bool, true, false, ◌&&◌, cond, eqb, List, [], ◌∷◌, length, Option, Some, None, Result, Ok, Err, refl, ap, subst, arith}
use Rattle.std.specs.Prelude.{IfOk, nat_le, ⊤}
use Rattle.std.proofs.lemmas.Bool.{and_parts}
use Rattle.std.proofs.lemmas.Bool.Decides.{nat_tests}
use Rattle.cosem_data.specs.declared.cell.CellRef.{CellRef}
use Rattle.meter_theory.specs.Labels.{Labels}
use Rattle.meter_theory.specs.Plan.{Plan}
use Rattle.meter_theory.specs.declared.flow.Label.{Label}
use Rattle.label_certificate.specs.Faults.{◌>>=◌, found_or, fault_unless, at_line, Gives}
use Rattle.label_certificate.specs.LabelLine.{LabelLine, label_line_at, parts}
use Rattle.label_certificate.specs.LabelText.{cell_of, cell_place, is_zero, place_of, label_of, judged, read_line, labels_from, labels_of_text, AreFrom, AreInPlanOrder}
use Rattle.label_certificate.specs.Members.{places_of, rise_from}
use Rattle.label_certificate.specs.declared.fault.LabelCode.{LabelCode}
use Rattle.label_certificate.specs.declared.fault.LabelCode.TheVariants.{Form, Cell, Client, Order}
use Rattle.label_certificate.specs.declared.fault.LabelFault.{LabelFault}

bind_ok : {A B E : Type 0} (r : Result A E) (f : A → Result B E) (y : B) → (r >>= f) ≡ Ok y → (x : A) × (r ≡ Ok x) × (f x ≡ Ok y)
bind_ok (Ok x) f y e = (x, refl, e)
bind_ok (Err x) f y e = absurd cc

ok_is : {A E : Type 0} (a b : A) → ◌≡◌ {A = Result A E} (Ok a) (Ok b) → a ≡ b
ok_is a b h = cc

found_ok : {A : Type 0} (code : LabelCode) (o : Option A) (x : A) → found_or code o ≡ Ok x → o ≡ Some x
found_ok code None x e = absurd cc
found_ok code (Some y) x e = let same : y ≡ x = cc in ap Some same

unless_ok : (code : LabelCode) (b : Bool) (x : ⊤) → fault_unless code b ≡ Ok x → b ≡ true
unless_ok code true x e = refl
unless_ok code false x e = absurd cc

at_line_ok : {A : Type 0} (number : ℕ) (r : Result A LabelCode) (x : A) → at_line number r ≡ Ok x → r ≡ Ok x
at_line_ok number (Ok y) x e = let same : y ≡ x = cc in ap Ok same
at_line_ok number (Err code) x e = absurd cc

place_is : (P : Plan) (l : LabelLine) (place : ℕ) → place_of P l ≡ Some place → cell_place P (cell_of l) ≡ Some place
place_is P l place e = at (is_zero l.attribute) e
  where
    at : (b : Bool) → cond b None (cell_place P (cell_of l)) ≡ Some place → cell_place P (cell_of l) ≡ Some place
    at true h = absurd cc
    at false h = h

-- the cell of an entry has its place, which is not below the least
abbrev IsPlaced : Plan → ℕ → ℕ × (CellRef × Label) → Type 0
IsPlaced P least entry = (cell_place P entry.1.0 ≡ Some entry.0) × (least ≤ entry.0)

judged_placed : (P : Plan) (least : ℕ) (l : LabelLine) (entry : ℕ × (CellRef × Label)) → judged P least l ≡ Ok entry → IsPlaced P least entry
unfolding judged
judged_placed P least l entry e =
    let place = bind_ok (found_or Cell (place_of P l)) _ entry e in
    let influence = bind_ok (found_or Client (places_of P l.influence)) _ entry place.2 in
    let learn = bind_ok (found_or Client (places_of P l.learn)) _ entry influence.2 in
    let ordered = bind_ok (fault_unless Order (nat_le least place.0 && (rise_from 0 influence.0 && rise_from 0 learn.0))) _ entry learn.2 in
    let same : (place.0, (cell_of l, label_of influence.0 learn.0)) ≡ entry = ok_is (place.0, (cell_of l, label_of influence.0 learn.0)) entry ordered.2 in
    let above : nat_le least place.0 ≡ true = (and_parts (nat_le least place.0) (rise_from 0 influence.0 && rise_from 0 learn.0) (unless_ok Order (nat_le least place.0 && (rise_from 0 influence.0 && rise_from 0 learn.0)) ordered.0 ordered.1)).0 in
    let not_below : least ≤ place.0 = grind (arith, nat_tests) in
    subst (IsPlaced P least) same (place_is P l place.0 (found_ok Cell (place_of P l) place.0 place.1), not_below)

line_placed : (P : Plan) (least : ℕ) (line : List ℕ) (entry : ℕ × (CellRef × Label)) → read_line P least line ≡ Ok entry → IsPlaced P least entry
line_placed P least line entry e =
    let l = bind_ok (found_or Form (label_line_at line)) (judged P least) entry e in
    judged_placed P least l.0 entry l.2

-- the labels of lines stand in plan order
lines_in_order : (P : Plan) (number least : ℕ) (lines : List (List ℕ)) (labels : Labels) → labels_from P number least lines ≡ Ok labels → AreFrom P least labels
lines_in_order P number least [] labels e = let none : [] ≡ labels = cc in subst (AreFrom P least) none tt
lines_in_order P number least (last ∷ []) labels e = at (eqb (length last) 0) e
  where
    at : (b : Bool) → cond {A = Result Labels (LabelCode × ℕ)} b (Ok []) (Err (Form, number)) ≡ Ok labels → AreFrom P least labels
    at true h = let none : [] ≡ labels = cc in subst (AreFrom P least) none tt
    at false h = absurd cc
lines_in_order P number least (line ∷ next ∷ more) labels e =
    let entry = bind_ok (at_line number (read_line P least line)) _ labels e in
    let rest = bind_ok (labels_from P (number + 1) (entry.0.0 + 1) (next ∷ more)) _ labels entry.2 in
    let same : entry.0.1 ∷ rest.0 ≡ labels = ok_is (entry.0.1 ∷ rest.0) labels rest.2 in
    let placed = line_placed P least line entry.0 (at_line_ok number (read_line P least line) entry.0 entry.1) in
    subst (AreFrom P least) same (entry.0.0, placed.0, placed.1, lines_in_order P (number + 1) (entry.0.0 + 1) (next ∷ more) rest.0 rest.1)

-- labels that a text holds stand in plan order
pub read_in_order : (P : Plan) (text : List ℕ) (read : Result Labels LabelFault) → Gives (λ labels. labels) read (labels_of_text P text) → IfOk read (λ labels. AreInPlanOrder P labels)
read_in_order P text (Ok labels) gives = lines_in_order P 1 0 (parts 10 text) labels gives
read_in_order P text (Err fault) gives = tt
