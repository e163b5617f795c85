-- Labels that are read line by line.
use Rattle.std.proofs.Common.{◌≡◌, Option, None, Some, ℕ, ◌+◌, ◌<◌, ◌≤◌, true, false, cond, eqb, List, [], ◌∷◌, ◌++◌, length, append_assoc, Result, Ok, Err, refl, sym, ap, ◌∙◌, arith}
use Rattle.std.specs.Borrow.{Bor}
use Rattle.std.specs.Option.{option_map_or}
use Rattle.std.specs.Prelude.{IfSome}
use Rattle.cosem_data.specs.declared.cell.CellRef.{CellRef}
use Rattle.meter_theory.specs.Labels.{Labels}
use Rattle.meter_theory.specs.Plan.{Plan}
use Rattle.meter_theory.specs.declared.flow.Label.{Label}
use Rattle.label_certificate.specs.Faults.{◌>>=◌, at_line}
use Rattle.label_certificate.specs.LabelText.{read_line, labels_from}
use Rattle.label_certificate.specs.declared.fault.LabelCode.{LabelCode}
use Rattle.label_certificate.specs.declared.fault.LabelCode.TheVariants.{Form}

abbrev pub Read : Type 0
Read = Result Labels (LabelCode × ℕ)

-- labels that were read, before those that follow
abbrev pub behind_labels : Labels → Read → Read
behind_labels front read = read >>= λ labels. Ok (front ++ labels)

-- the labels of a line and of those that follow it
pub labels_from-more : (P : Plan) (number least : ℕ) (line : List ℕ) (more : List (List ℕ)) → 0 < length more →
    labels_from P number least (line ∷ more) ≡ (at_line number (read_line P least line) >>= λ entry. labels_from P (number + 1) (entry.0 + 1) more >>= λ labels. Ok (entry.1 ∷ labels))
labels_from-more P number least line [] some = absurd (omega arith)
labels_from-more P number least line (next ∷ more) some = refl

-- one line more was read
pub read-more : (P : Plan) (number least : ℕ) (front : Labels) (line : List ℕ) (more : List (List ℕ)) (entry : ℕ × (CellRef × Label)) → 0 < length more → read_line P least line ≡ Ok entry →
    behind_labels front (labels_from P number least (line ∷ more)) ≡ behind_labels (front ++ entry.1 ∷ []) (labels_from P (number + 1) (entry.0 + 1) more)
read-more P number least front line more entry some is =
    ap (behind_labels front) (labels_from-more P number least line more some ∙ ap (λ r. at_line number r >>= λ e. labels_from P (number + 1) (e.0 + 1) more >>= λ labels. Ok (e.1 ∷ labels)) is)
    ∙ at (labels_from P (number + 1) (entry.0 + 1) more)
  where
    at : (r : Read) → behind_labels front (r >>= λ labels. Ok (entry.1 ∷ labels)) ≡ behind_labels (front ++ entry.1 ∷ []) r
    at (Err e) = refl
    at (Ok labels) = ap Ok (sym (append_assoc front (entry.1 ∷ []) labels))

-- a line has a fault
pub read-fault : (P : Plan) (number least : ℕ) (front : Labels) (line : List ℕ) (more : List (List ℕ)) (code : LabelCode) → 0 < length more → read_line P least line ≡ Err code →
    behind_labels front (labels_from P number least (line ∷ more)) ≡ Err (code, number)
read-fault P number least front line more code some is =
    ap (behind_labels front) (labels_from-more P number least line more some ∙ ap (λ r. at_line number r >>= λ e. labels_from P (number + 1) (e.0 + 1) more >>= λ labels. Ok (e.1 ∷ labels)) is)

-- something stands behind the last newline
pub read-rest : (P : Plan) (number least : ℕ) (front : Labels) (rest : List ℕ) → eqb (length rest) 0 ≡ false → behind_labels front (labels_from P number least (rest ∷ [])) ≡ Err (Form, number)
read-rest P number least front rest some = ap (λ b. behind_labels front (cond b (Ok []) (Err (Form, number)))) some

-- nothing does
pub read-end : (P : Plan) (number least : ℕ) (front : Labels) (rest : List ℕ) → eqb (length rest) 0 ≡ true → behind_labels front (labels_from P number least (rest ∷ [])) ≡ Ok (front ++ [])
read-end P number least front rest none = ap (λ b. behind_labels front (cond b (Ok []) (Err (Form, number)))) none

-- what is left of a text is shorter, its newline counted
pub shorter_left : (left : Option (Bor (List ℕ))) (n : ℕ) → IfSome left (λ rest. length rest.now < n) → option_map_or (λ rest. length rest.now + 1) left 0 ≤ n
shorter_left None n h = omega arith
shorter_left (Some rest) n h = omega (arith, h)
