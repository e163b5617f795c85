use Rattle.std.proofs.Common.{◌≡◌, ◌∙◌, Bool, ap, get_or, map, refl, sym}
use Rattle.std.proofs.lemmas.List.{get_or-map}
use Rattle.cosem_data.specs.declared.cell.CellRef.{CellRef}
use Rattle.flow_edges.specs.Table.{cell_at, no_cell}
use Rattle.flow_changes.specs.Facts.{Reaches}
use Rattle.flow_changes.specs.Shown.{shown}
use Rattle.flow_changes.specs.Singles.{is_new_reach}
use Rattle.flow_changes.proofs.Lists.{kept-more, put-more}
use Rattle.flow_changes.proofs.reaches.push_reach.Goals as goal
use Rattle.flow_changes.proofs.reaches.push_reach.Goals.{then-is_new+in_ok-push, else-is_new}

pub loop-number-preserved : goal.loop-number-preserved
loop-number-preserved c = λ pair told.
    let who = c.args.who.now in
    let cs = c.args.cells.now in
    let i = c.loop-number.number in
    let found = c.index-pairs-number.result in
    let p : CellRef → Bool = λ x. is_new_reach c.args.reach who.client who.other (pair x) in
    let f = Reaches who.name.now c.args.reach in
    let start = map shown c.args.facts.now.items in
    let at : found ≡ pair (cell_at cs i) = c.index-pairs-number.is ∙ ap (λ ps. get_or ps i found) told ∙ get_or-map pair cs i no_cell found c.loop-number-test.true in
    let is : p (cell_at cs i) ≡ c.is_new.result = ap (is_new_reach c.args.reach who.client who.other) (sym at) ∙ sym c.is_new.ensures in
    elim c.if-is_new.branch [
      | then-is_new+in_ok-push w ↦
          ap (λ v. map shown v.items) w.facts-is
          ∙ put-more shown f p cs i no_cell start c.loop-number.facts.items w.push.new.self.items _ c.loop-number-test.true (c.loop-number.invariant pair told) (is ∙ w.if-is_new.true) refl w.in_ok-push.ensures.items
      | else-is_new w ↦
          ap (λ v. map shown v.items) w.facts-is
          ∙ kept-more shown f p cs i no_cell start c.loop-number.facts.items c.loop-number-test.true (c.loop-number.invariant pair told) (is ∙ w.if-is_new.false)
    ]
