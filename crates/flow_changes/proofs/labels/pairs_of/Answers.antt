use Rattle.std.proofs.Common.{◌∙◌, ap, ap₂, map, cond, Some, None}
use Rattle.std.proofs.lemmas.List.{take_all}
use Rattle.cosem_data.specs.declared.cell.CellRef.{CellRef}
use Rattle.meter_theory.specs.Plan.{is_cell}
use Rattle.flow_edges.specs.Table.{no_cell}
use Rattle.flow_changes.specs.Singles.{pair_of}
use Rattle.flow_changes.specs.declared.labels.Pair.{Pair}
use Rattle.flow_changes.proofs.Labelled.{label-at-number}
use Rattle.flow_changes.proofs.Lists.{map-more}
use Rattle.flow_changes.proofs.labels.pairs_of.Goals as goal

pub loop-number-preserved : goal.loop-number-preserved
loop-number-preserved c = λ Q R mine theirs.
    let cs = c.args.cells.now in
    let i = c.loop-number.number in
    let f : CellRef → Pair = λ x. pair_of c.args.kind (Q x) (cond (is_cell c.args.other.now x) (Some (R x)) None) in
    let pair = c.side_by_side.ensures ∙ ap₂ (pair_of c.args.kind) (label-at-number Q cs c.args.mine.now i c.index-mine-number.result mine c.loop-number-test.true c.index-mine-number.is) (c.label_there-there.ensures R theirs) in
    map-more f cs i no_cell c.loop-number.pairs.items c.push.new.self.items c.side_by_side.result c.loop-number-test.true (c.loop-number.invariant Q R mine theirs) pair c.in_ok-push.ensures.items

pub returns : goal.returns
returns c = λ Q R mine theirs.
    let f : CellRef → Pair = λ x. pair_of c.args.kind (Q x) (cond (is_cell c.args.other.now x) (Some (R x)) None) in
    c.loop-number.invariant Q R mine theirs ∙ ap (map f) (take_all c.loop-number.number c.args.cells.now c.loop-number-test.false)
