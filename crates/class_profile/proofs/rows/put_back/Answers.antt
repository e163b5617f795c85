use Rattle.std.proofs.Common.{◌<◌, ◌∷◌, map, take, length, option_map, sym, ap, ◌∙◌, arith}
use Rattle.cosem_data.specs.View.{tree}
use Rattle.class_profile.specs.Reversal.{rows_before}
use Rattle.class_profile.proofs.Rings.{front_rows, row_in_front}
use Rattle.class_profile.proofs.TakenBack.{rows_before-none}
use Rattle.class_profile.proofs.rows.put_back.Goals as goal

pub returns-in-Some : goal.returns-in-Some
returns-in-Some c =
    let ring = c.args.ring.now in
    let some : 0 < length ring.items = omega arith in
    ap (λ b. map tree b.items) c.push_front-none.ensures.items
    ∙ ap (λ b. map tree (take b.capacity (c.in-Some.oldest ∷ b.items))) c.pop_back-newest.ensures.items
    ∙ row_in_front ring.capacity ring.items c.in-Some.oldest some (omega arith)
    ∙ ap (λ d. rows_before (option_map tree d) (map tree ring.items)) (sym c.in-Some.is)

pub returns : goal.returns
returns c =
    let rows = c.args.ring.now.items in
    ap (λ b. map tree b.items) c.pop_back-newest.ensures.items
    ∙ front_rows rows
    ∙ sym (rows_before-none (map tree rows))
    ∙ ap (λ d. rows_before (option_map tree d) (map tree rows)) (sym c.in_default.is)
