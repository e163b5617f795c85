-- Steps and replies may cross threads.
use Rattle.cosem_data.proofs.Crosses.{Crosses, crosses}
use Rattle.cosem_data.proofs.Crossing.{cell_crosses, data_crosses, name_crosses}
use Rattle.civil_moment.specs.contracts.moment.Moment as moments
use Rattle.meter_theory.specs.contracts.refs.Descriptor as descriptors
use Rattle.object_model.proofs.Crossing.{argument_crosses}
use Rattle.meter_core.specs.contracts.reply.Reply as replies
use Rattle.meter_core.specs.contracts.step.Step as steps

descriptor_crosses : Crosses descriptors.the_row
descriptor_crosses = search (name_crosses, crosses) depth 30

moment_crosses : Crosses moments.the_row
moment_crosses = search crosses depth 30

pub step_crosses : Crosses steps.the_row
step_crosses = search (
  argument_crosses,
  cell_crosses,
  data_crosses,
  descriptor_crosses,
  moment_crosses,
  name_crosses,
  crosses,
) depth 30

pub reply_crosses : Crosses replies.the_row
reply_crosses = search (data_crosses, crosses) depth 30
