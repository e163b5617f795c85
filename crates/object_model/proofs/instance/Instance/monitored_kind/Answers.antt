use Rattle.std.proofs.Common.{◌∙◌}
use Rattle.object_model.specs.PartView.{part_of}
use Rattle.object_model.proofs.Referred.{watched}
use Rattle.object_model.proofs.instance.Instance.monitored_kind.Goals as goal

pub returns-in-Some-Some : goal.returns-in-Some-Some
returns-in-Some-Some c =
    c.start_kind.ensures
    ∙ watched c.args.self.now.plan c.args.self.now.name (part_of c.args.part.now) c.in-Some-Some.cell c.in-Some-Some.source c.requires c.in-Some-Some.ensures c.in-Some-Some.ensures'
