use Rattle.std.proofs.Common.{ap, ◌∙◌, sym}
use Rattle.std.proofs.lemmas.Bool.{le-ltb}
use Rattle.cosem_class.specs.CellSets.{has}
use Rattle.cosem_data.proofs.Bits.{none_above}
use Rattle.cosem_class.proofs.cell_set.CellSet.has.Goals as goal

pub returns-else-cell-lt16 : goal.returns-else-cell-lt16
returns-else-cell-lt16 c =
    le-ltb _ _ c.if-cell-lt16.false
    ∙ sym (none_above c.self.inside.mask c.args.cell c.self.invariant c.if-cell-lt16.false)
    ∙ ap (λ n. has n c.args.cell) c.self.view_is
