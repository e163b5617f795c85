use Rattle.std.proofs.Common.{ap, ◌||◌, ◌∙◌, eqb}
use Rattle.cosem_class.specs.CellSets.{has}
use Rattle.cosem_data.proofs.Bits.{set_bit}
use Rattle.cosem_class.proofs.cell_set.CellSet.with.Goals as goal

pub returns : goal.returns
returns c i = set_bit c.self.inside.mask c.args.cell i c.requires ∙ ap (λ n. eqb i c.args.cell || has n i) c.self.view_is
