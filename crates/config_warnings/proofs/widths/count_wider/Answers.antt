use Rattle.std.proofs.Common.{◌≡◌, ◌∙◌, ◌<◌, ◌+◌, ℕ, List, ap, arith, get_or, length, map, subst, sym}
use Rattle.std.proofs.lemmas.List.{get_or-map, length-map}
use Rattle.std.proofs.lemmas.List.Sums.{count_by_more_no, count_by_more_yes}
use Rattle.cosem_data.specs.declared.cell.CellRef.{CellRef}
use Rattle.meter_theory.specs.declared.flow.Label.{Label}
use Rattle.meter_theory.specs.Labels.{Labelling, Labels}
use Rattle.config_warnings.specs.Widths.{is_wider}
use Rattle.config_warnings.proofs.widths.count_wider.Goals as goal
use Rattle.config_warnings.proofs.widths.count_wider.Goals.{then-is_wider, else-is_wider}

-- the label with a number is that of the cell with the number
numbered : (labelling : Labelling) (labels : List Label) (least : Labels) (n : ℕ) (entry : CellRef × Label) (label : Label) → labels ≡ map labelling (map {A = CellRef × Label} (λ e. e.0) least) →
    n < length least → label ≡ get_or labels n label → entry ≡ get_or least n entry → label ≡ labelling entry.0
numbered labelling labels least n entry label same below is entry_is =
    let cells : List CellRef = map {A = CellRef × Label} (λ e. e.0) least in
    is
    ∙ (ap (λ (ls : List Label). get_or ls n label) same
    ∙ (get_or-map labelling cells n entry.0 label (subst (λ k. n < k) (sym (length-map least (λ (e : CellRef × Label). e.0))) below)
    ∙ (ap labelling (get_or-map (λ (e : CellRef × Label). e.0) least n entry entry.0 below) ∙ ap (λ (e : CellRef × Label). labelling e.0) (sym entry_is))))

pub loop-number-preserved : goal.loop-number-preserved
loop-number-preserved c =
    let n = c.loop-number.number in
    let least = c.args.least.now in
    let entry = c.index-least-number.result in
    let label = c.index-labels-number.result in
    let before = c.loop-number.invariant in
    let below = c.loop-number-test.true in
    let passes : (labelling : Labelling) → c.args.labels.now ≡ map labelling (map {A = CellRef × Label} (λ e. e.0) least) →
    is_wider (labelling (get_or least n entry).0) (get_or least n entry).1 ≡ c.is_wider.result = λ labelling same.
    ap (λ (e : CellRef × Label). is_wider (labelling e.0) e.1) (sym c.index-least-number.is)
    ∙ (ap (λ (l : Label). is_wider l entry.1) (sym (numbered labelling c.args.labels.now least n entry label same below c.index-labels-number.is c.index-least-number.is)) ∙ sym c.is_wider.ensures) in
    elim c.if-is_wider.branch [
      | then-is_wider w ↦ (
        omega (arith, w.wider-is, before.0),
        λ labelling same. w.wider-is ∙ (ap (λ (k : ℕ). k + 1) (before.1 labelling same) ∙ sym (count_by_more_yes (λ (e : CellRef × Label). is_wider (labelling e.0) e.1) least n entry below (passes labelling same ∙ w.if-is_wider.true))),
      )
      | else-is_wider w ↦ (
        omega (arith, w.wider-is, before.0),
        λ labelling same. w.wider-is ∙ (before.1 labelling same ∙ sym (count_by_more_no (λ (e : CellRef × Label). is_wider (labelling e.0) e.1) least n entry below (passes labelling same ∙ w.if-is_wider.false))),
      )
    ]
