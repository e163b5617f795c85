use Rattle.std.proofs.Common.{◌∙◌, ap, ap₂, get_or}
use Rattle.std.proofs.lemmas.List.{get_or-map}
use Rattle.meter_theory.specs.Labels.{label_at}
use Rattle.meter_theory.specs.Plan.{cells}
use Rattle.meter_theory.proofs.ClientSets.{new_is_nobody}
use Rattle.flow_edges.specs.Table.{no_cell}
use Rattle.label_certificate.proofs.Placed.{labelled}
use Rattle.flow_checker.specs.Clauses.{plan_of}
use Rattle.flow_checker.proofs.ByNumber.{or-nobody}
use Rattle.flow_checker.proofs.case.Case.given.Goals as goal

pub returns : goal.returns
returns c =
    let at = label_at c.args.self.now.labels.now in
    let o = c.index.result.now in
    c.unwrap_or.ensures
    ∙ or-nobody o _ (ap₂ labelled (new_is_nobody c.new.result c.new.ensures) (new_is_nobody c.new-2.result c.new-2.ensures)) _
    (c.index.ensures ∙ ap (λ found. get_or found c.args.number o) c.requires.found ∙ get_or-map at (cells (plan_of c.args.self.now)) c.args.number no_cell o c.requires.number)
