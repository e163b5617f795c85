use Rattle.std.proofs.Common.{◌≡◌, Bool, true, false, Some, ◌&&◌, refl}
use Rattle.cosem_data.specs.Tree.{Tree}
use Rattle.class_control.proofs.monitor.Monitor.put.Goals as goal

never_both : (b : Bool) → (b && false) ≡ false
never_both true = refl
never_both false = refl

same_value : (a b : Tree) → Some a ≡ Some b → a ≡ b
same_value a b e = cc

pub returns-clause-seen : goal.returns-clause-seen
returns-clause-seen c = same_value _ _ (c.put_into.ensures.others 0 (never_both _))
