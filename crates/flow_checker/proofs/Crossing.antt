-- Plans and policies that were accepted may cross threads. They lie behind an `Arc`, which asks both laws for each of its own.
use Rattle.std.proofs.Crossing.{Arc-send, Arc-sync}
use Rattle.cosem_data.proofs.Crosses.{Crosses, crosses, struct_crosses, view_crosses}
use Rattle.object_model.proofs.Crossing.{plan_crosses, policy_crosses}
use Rattle.flow_checker.specs.contracts.check.Admitted as admitted
use Rattle.flow_checker.specs.contracts.check.Checked as checked
use Rattle.flow_checker.specs.contracts.check.Checked.TheInside as inside

admitted_crosses : Crosses admitted.the_row
admitted_crosses = search (plan_crosses, policy_crosses, crosses) depth 30

pub checked_crosses : Crosses checked.the_row
checked_crosses = let a = admitted_crosses in view_crosses _ _ _ _ _ (struct_crosses inside.the_type (
  record {
    send = Arc-send _ a.send a.sync;
    sync = Arc-sync _ a.send a.sync;
  },
  tt,
))
