use Rattle.std.proofs.Common.{ap, ◌∙◌}
use Rattle.meter_live.proofs.Fronts.{lie_either, lie_same}
use Rattle.meter_live.proofs.reader.Reader.beside.Goals as goal

pub returns-clause-begins : goal.returns-clause-begins
returns-clause-begins c =
    let mine = ap (λ m. m.steps) c.self.invariant.1 ∙ ap (λ s. s.seen) c.self.view_is in
    let its = ap (λ m. m.steps) c.other.invariant.1 ∙ ap (λ s. s.seen) c.other.view_is in
    lie_either _ _ (lie_same _ _ _ _ mine its c.beside.ensures)
