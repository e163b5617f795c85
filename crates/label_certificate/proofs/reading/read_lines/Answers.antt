use Rattle.std.proofs.Common.{◌≡◌, ◌∷◌, ◌++◌, [], ◌+◌, ◌≤◌, length, Ok, sym, ap, subst, ◌∙◌, arith}
use Rattle.std.proofs.lemmas.List.{append-nil}
use Rattle.std.specs.Option.{option_map_or}
use Rattle.label_certificate.specs.LabelLine.{parts}
use Rattle.label_certificate.specs.LabelText.{labels_from, labels_of_text}
use Rattle.label_certificate.specs.LineView.{parts_left}
use Rattle.label_certificate.proofs.InOrder.{read_in_order}
use Rattle.label_certificate.proofs.LinesFrom.{behind_labels, read-end, read-fault, read-more, read-rest, shorter_left}
use Rattle.label_certificate.proofs.Parts.{parts-some}
use Rattle.label_certificate.proofs.reading.read_lines.Goals as goal

pub returns-in-Err : goal.returns-in-Err
returns-in-Err c =
    let P = c.args.plan.now in
    let front = c.loop-behind.entries.items in
    let number = c.loop-behind.number in
    let least = c.loop-behind.least in
    let line = c.loop-behind.line.now in
    let rest = c.in-Some.rest.now in
    sym c.loop-behind.invariant.0
    ∙ ap (λ r. behind_labels front (labels_from P number least (line ∷ parts_left 10 r))) c.in-Some.is
    ∙ read-fault P number least front line (parts 10 rest) c.in-Err.code (parts-some 10 rest) (sym c.read_line.ensures ∙ c.in-Err.is)

pub loop-behind-preserved : goal.loop-behind-preserved
loop-behind-preserved c =
    let P = c.args.plan.now in
    let front = c.loop-behind.entries.items in
    let number = c.loop-behind.number in
    let least = c.loop-behind.least in
    let line = c.loop-behind.line.now in
    let rest = c.in-Some.rest.now in
    let entry = c.in-Ok.entry in
    let place = c.in-Ok.place in
    let next = c.first_part-in-Some.result.0.now in
    let left = c.first_part-in-Some.result.1 in
    let counted : number + (length rest + 1) ≤ length c.args.text.now + 1 =
    subst (λ r. number + option_map_or (λ t. length t.now + 1) r 0 ≤ length c.args.text.now + 1) c.in-Some.is c.loop-behind.invariant.1 in
    let shorter : option_map_or (λ t. length t.now + 1) left 0 ≤ length rest = shorter_left left (length rest) c.first_part-in-Some.ensures.shorter in (
      ap (λ f. behind_labels f (labels_from P (number + 1) (c.from-least.result + 1) (next ∷ parts_left 10 left))) c.in_ok-push-in-Ok.ensures.items
          ∙ ap (λ p. behind_labels (front ++ entry ∷ []) (labels_from P (number + 1) (p + 1) (next ∷ parts_left 10 left))) c.from-least.ensures
          ∙ ap (λ ps. behind_labels (front ++ entry ∷ []) (labels_from P (number + 1) (place + 1) ps)) (sym c.first_part-in-Some.ensures.split)
          ∙ sym (read-more P number least front line (parts 10 rest) (place, entry) (parts-some 10 rest) (sym c.read_line.ensures ∙ c.in-Ok.is))
          ∙ ap (λ r. behind_labels front (labels_from P number least (line ∷ parts_left 10 r))) (sym c.in-Some.is)
          ∙ c.loop-behind.invariant.0,
      omega (arith, counted, shorter),
    )

pub returns-then-not-is_empty : goal.returns-then-not-is_empty
returns-then-not-is_empty c =
    let P = c.args.plan.now in
    let front = c.loop-behind.entries.items in
    let number = c.loop-behind.number in
    let least = c.loop-behind.least in
    let line = c.loop-behind.line.now in
    sym c.loop-behind.invariant.0
    ∙ ap (λ r. behind_labels front (labels_from P number least (line ∷ parts_left 10 r))) c.in_default.is
    ∙ read-rest P number least front line (sym c.is_empty.ensures ∙ c.if-not-is_empty.true)

-- the labels that were read are those of the text, and so in plan order
pub new-requires : goal.new-requires
new-requires c =
    let P = c.args.plan.now in
    let front = c.loop-behind.entries.items in
    let number = c.loop-behind.number in
    let least = c.loop-behind.least in
    let line = c.loop-behind.line.now in
    let whole : labels_of_text P c.args.text.now ≡ Ok front =
    sym c.loop-behind.invariant.0
    ∙ ap (λ r. behind_labels front (labels_from P number least (line ∷ parts_left 10 r))) c.in_default.is
    ∙ read-end P number least front line (sym c.is_empty.ensures ∙ c.if-not-is_empty.false)
    ∙ ap Ok (append-nil front) in
    (P, c.known.ensures.sound, read_in_order P c.args.text.now (Ok front) whole)
