use Rattle.class_profile.proofs.Places.{slice_between}
use Rattle.class_profile.proofs.selection.between.Goals as goal

pub returns : goal.returns
returns c = slice_between c.args.start c.args.end c.min.result c.min-end.result c.args.values.now c.min-end.ensures c.min.ensures
