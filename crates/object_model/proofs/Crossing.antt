-- Plans, policies, meters and arguments may cross threads. `part_crosses` names what is fixed of objects of each class,
-- `cells_crosses` what they keep.
use Rattle.cosem_data.proofs.Crosses.{Crosses, crosses}
use Rattle.cosem_data.proofs.Crossing.{cell_crosses, client_set_crosses, data_crosses, name_crosses}
use Rattle.civil_moment.specs.contracts.moment.Moment as moments
use Rattle.cosem_class.proofs.Crossing.{data1_crosses, data_part_crosses, register_crosses, register_part_crosses}
use Rattle.class_profile.proofs.Crossing.{profile_crosses, profile_part_crosses}
use Rattle.class_control.proofs.Crossing.{clock_crosses, clock_part_crosses, script_table_part_crosses}
use Rattle.class_control.proofs.Crossing.{monitor_crosses, monitor_part_crosses, schedule_crosses, schedule_part_crosses}
use Rattle.object_model.specs.contracts.argument.Argument as arguments
use Rattle.object_model.specs.contracts.part.Part as parts
use Rattle.object_model.specs.contracts.object.Object as objects
use Rattle.object_model.specs.contracts.client.Client as clients
use Rattle.object_model.specs.contracts.right.Right as rights
use Rattle.object_model.specs.contracts.index.Index as indexes
use Rattle.object_model.specs.contracts.grants.Grants as grants
use Rattle.object_model.specs.contracts.place.Place as places
use Rattle.object_model.specs.contracts.references.References as references
use Rattle.object_model.specs.contracts.script_places.ScriptPlace as script_places
use Rattle.object_model.specs.contracts.script_places.ScriptPlaces as places_of_scripts
use Rattle.object_model.specs.contracts.plan.Plan as plans
use Rattle.object_model.specs.contracts.policy.Policy as policies
use Rattle.object_model.specs.contracts.stored.Cells as held
use Rattle.object_model.specs.contracts.stored.Stored as stored
use Rattle.object_model.specs.contracts.meter.Meter as meters

part_crosses : Crosses parts.the_row
part_crosses = search (
  data_part_crosses,
  register_part_crosses,
  profile_part_crosses,
  clock_part_crosses,
  script_table_part_crosses,
  monitor_part_crosses,
  schedule_part_crosses,
  crosses,
) depth 30

object_crosses : Crosses objects.the_row
object_crosses = search (name_crosses, part_crosses, crosses) depth 30

client_crosses : Crosses clients.the_row
client_crosses = search crosses depth 30

right_crosses : Crosses rights.the_row
right_crosses = search (name_crosses, crosses) depth 30

index_crosses : Crosses indexes.the_row
index_crosses = search (name_crosses, crosses) depth 30

grants_crosses : Crosses grants.the_row
grants_crosses = search crosses depth 30

place_crosses : Crosses places.the_row
place_crosses = search crosses depth 30

references_crosses : Crosses references.the_row
references_crosses = search crosses depth 30

script_place_crosses : Crosses script_places.the_row
script_place_crosses = search crosses depth 30

script_places_crosses : Crosses places_of_scripts.the_row
script_places_crosses = search (script_place_crosses, crosses) depth 30

pub plan_crosses : Crosses plans.the_row
plan_crosses = search (
  client_crosses,
  object_crosses,
  right_crosses,
  index_crosses,
  grants_crosses,
  place_crosses,
  references_crosses,
  script_places_crosses,
  name_crosses,
  crosses,
) depth 30 fits 4000

pub policy_crosses : Crosses policies.the_row
policy_crosses = search (cell_crosses, client_set_crosses, crosses) depth 30

cells_crosses : Crosses held.the_row
cells_crosses = search (
  data1_crosses,
  register_crosses,
  profile_crosses,
  clock_crosses,
  monitor_crosses,
  schedule_crosses,
  crosses,
) depth 30

stored_crosses : Crosses stored.the_row
stored_crosses = search (name_crosses, cells_crosses, crosses) depth 30

moment_crosses : Crosses moments.the_row
moment_crosses = search crosses depth 30

pub meter_crosses : Crosses meters.the_row
meter_crosses = search (moment_crosses, stored_crosses, crosses) depth 30

pub argument_crosses : Crosses arguments.the_row
argument_crosses = search (data_crosses, crosses) depth 30
