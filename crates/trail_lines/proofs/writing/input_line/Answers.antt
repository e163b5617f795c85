use Rattle.std.proofs.Common.{rules, ◌≡◌, ◌∙◌, [], ◌∷◌, true, arith, string_bytes, subst, sym}
use Rattle.std.specs.Prelude.{codes, length, nat_le}
use Rattle.std.proofs.lemmas.Bool.{and_parts, leb-true}
use Rattle.hex.specs.Hex.{encode_upper}
use Rattle.cosem_data.specs.Names.{name_text}
use Rattle.cosem_data.specs.Tree.{depth}
use Rattle.cosem_data.specs.View.{tree}
use Rattle.cosem_data.specs.declared.cell.CellRef.{CellRef}
use Rattle.cosem_data.proofs.Same.{same_cell-true}
use Rattle.cosem_axdr.specs.Canonical.{HasLengths, canonical}
use Rattle.meter_theory.specs.Steps as theory
use Rattle.line_server.specs.Spelling.{input_cell}
use Rattle.trail_lines.specs.Writing.{Says, can_write, worded}
use Rattle.trail_lines.specs.declared.writing.TheConstants.{LONGEST, NESTED}
use Rattle.trail_lines.proofs.Written.{input-line}
use Rattle.trail_lines.proofs.writing.input_line.Goals as goal

pub returns-clause-says : goal.returns-clause-says
returns-clause-says c =
    let P = c.args.plan.now in
    let x = c.args.cell.now in
    let t = tree c.args.value.now in
    let can : can_write t ≡ true = search rules in
    let parts = and_parts (nat_le (depth t) NESTED) (nat_le (length (canonical t)) LONGEST) can in
    let lengths : HasLengths t = c.small_has_lengths.ensures t LONGEST (leb-true (length (canonical t)) LONGEST parts.1) (omega arith) in
    let is : c.is_input_cell.result ≡ true = search rules in
    let same : x ≡ input_cell P x.name = same_cell-true x (input_cell P x.name) (sym c.is_input_cell.ensures ∙ is) in
    let text : string_bytes c.in_ok-format.field-0 ≡ worded (codes "in") (worded (name_text x.name.0) (encode_upper (canonical t))) = search rules in
    subst (Says P (theory.Input x t ∷ [])) (sym text)
    (subst (λ (y : CellRef). Says P (theory.Input y t ∷ []) (worded (codes "in") (worded (name_text x.name.0) (encode_upper (canonical t))))) (sym same)
    (input-line P x.name t c.know_name.ensures lengths c.in_ok-write_data.ensures.ranges (leb-true (depth t) NESTED parts.0)))
