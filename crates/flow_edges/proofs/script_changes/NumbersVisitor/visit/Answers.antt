use Rattle.std.proofs.Common.{◌∙◌, subst}
use Rattle.meter_theory.specs.Lists.{IsIn}
use Rattle.meter_effects.specs.Planned.{planned_of}
use Rattle.meter_effects.proofs.Shown.{changed-of}
use Rattle.flow_edges.proofs.script_changes.NumbersVisitor.visit.Goals as goal

pub push_numbers-requires : goal.push_numbers-requires
push_numbers-requires c = λ x i. changed-of (planned_of c.args.effect.now) x (subst (λ xs. IsIn xs x) (c.as_slice.ensures ∙ c.changed-changed.ensures) i) ∙ c.requires
