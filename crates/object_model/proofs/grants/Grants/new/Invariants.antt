use Rattle.std.proofs.Common.{take}
use Rattle.object_model.specs.Grants.{AreGrants}
use Rattle.object_model.proofs.grants.Grants.new.Given as goal

abbrev pub invariant-loop-right : goal.invariant-loop-right
invariant-loop-right l = AreGrants l.index (take l.right-index l.rights) l.grants
