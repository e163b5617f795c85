use Rattle.std.proofs.Common.{◌==◌, ◌∙◌, ap₂, sym, subst, eqb-true}
use Rattle.std.proofs.lemmas.Bool.{and_parts}
use Rattle.cosem_data.specs.Cells.{cell}
use Rattle.cosem_data.specs.View.{tree}
use Rattle.meter_theory.specs.Lists.{IsIn}
use Rattle.meter_theory.specs.Plan.{cells}
use Rattle.object_model.proofs.Puts.{put-is-there}
use Rattle.object_model.proofs.meter.Meter.put.Goals as goal

pub choose-requires-clause-there : goal.choose-requires-clause-there
choose-requires-clause-there c =
    let x = c.args.cell.now in
    let both = and_parts (x.class_id == 7) (x.index == 3) (sym c.empties.ensures ∙ c.if-empties.true) in
    subst (λ n. IsIn (cells c.args.instance.now.plan) (cell 7 n 3)) c.requires.named
    (subst (IsIn (cells c.args.instance.now.plan)) (ap₂ (λ class index. cell class x.name index) (eqb-true x.class_id 7 both.0) (eqb-true x.index 3 both.1))
    (put-is-there c.args.instance.now.plan c.args.self.now x (tree c.args.given) c.requires.of_plan c.requires.fits))
