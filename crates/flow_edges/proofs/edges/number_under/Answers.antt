use Rattle.std.proofs.Common.{◌≡◌, ◌<◌, ◌∙◌, Some, ap, sym, subst, length}
use Rattle.meter_theory.specs.Lists.{IsIn}
use Rattle.meter_theory.specs.Plan.{cells}
use Rattle.object_model.specs.Tables.{number_at}
use Rattle.flow_edges.specs.Table.{cell_at}
use Rattle.flow_edges.proofs.edges.number_under.Goals as goal

pub numbered-requires : goal.numbered-requires
numbered-requires c = (c.args.cell.now.name, subst (λ P. number_at P.objects c.args.cell.now.name ≡ Some c.args.object) (sym c.plan.ensures) c.requires.number)

pub number_of-requires-clause-of_plan : goal.number_of-requires-clause-of_plan
number_of-requires-clause-of_plan c =
    let at = c.numbered.ensures c.args.cell.now.name (subst (λ P. number_at P.objects c.args.cell.now.name ≡ Some c.args.object) (sym c.plan.ensures) c.requires.number) in
    subst (λ P. IsIn (cells P) c.args.cell.now) (sym (ap (λ i. i.plan) at ∙ c.plan.ensures)) c.requires.of_plan

pub number_of-requires-clause-named : goal.number_of-requires-clause-named
number_of-requires-clause-named c =
    let at = c.numbered.ensures c.args.cell.now.name (subst (λ P. number_at P.objects c.args.cell.now.name ≡ Some c.args.object) (sym c.plan.ensures) c.requires.number) in
    ap (λ i. i.name) (sym at)

pub returns-clause-within : goal.returns-clause-within
returns-clause-within c =
    let at = c.numbered.ensures c.args.cell.now.name (subst (λ P. number_at P.objects c.args.cell.now.name ≡ Some c.args.object) (sym c.plan.ensures) c.requires.number) in
    subst (λ P. c.number_of.result < length (cells P)) (ap (λ i. i.plan) at ∙ c.plan.ensures) c.number_of.ensures.within

pub returns-clause-there : goal.returns-clause-there
returns-clause-there c =
    let at = c.numbered.ensures c.args.cell.now.name (subst (λ P. number_at P.objects c.args.cell.now.name ≡ Some c.args.object) (sym c.plan.ensures) c.requires.number) in
    subst (λ P. cell_at (cells P) c.number_of.result ≡ c.args.cell.now) (ap (λ i. i.plan) at ∙ c.plan.ensures) c.number_of.ensures.there
