use Rattle.std.proofs.Common.{ap, ◌||◌, ◌∙◌}
use Rattle.cosem_class.specs.CellSets.{has}
use Rattle.cosem_data.proofs.Bits.{either_bit}
use Rattle.cosem_class.proofs.cell_set.CellSet.union.Goals as goal

pub returns : goal.returns
returns c i =
    either_bit c.self.inside.mask c.other.inside.mask i
    ∙ ap (λ n. has n i || has c.other.inside.mask i) c.self.view_is
    ∙ ap (λ n. has c.args.self i || has n i) c.other.view_is
