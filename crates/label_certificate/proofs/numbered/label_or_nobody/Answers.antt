use Rattle.std.proofs.Common.{◌∙◌, sym, ap, ap₂}
use Rattle.meter_theory.specs.Labels.{nobody, or_else}
use Rattle.meter_theory.proofs.ClientSets.{new_is_nobody}
use Rattle.label_certificate.proofs.Placed.{labelled}
use Rattle.label_certificate.proofs.numbered.label_or_nobody.Goals as goal

pub returns-in-None : goal.returns-in-None
returns-in-None c =
    ap₂ labelled (new_is_nobody c.new.result c.new.ensures) (new_is_nobody c.new-in-None.result c.new-in-None.ensures)
    ∙ ap (or_else (labelled nobody nobody)) (sym c.in-None.is)
