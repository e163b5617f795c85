-- What data objects and registers keep and fix may cross threads.
use Rattle.cosem_data.proofs.Crosses.{Crosses, crosses}
use Rattle.cosem_data.proofs.Crossing.{data_crosses}
use Rattle.cosem_class.specs.contracts.data1.Data1 as data_objects
use Rattle.cosem_class.specs.contracts.data1.DataPart as data_parts
use Rattle.cosem_class.specs.contracts.register.Register as registers
use Rattle.cosem_class.specs.contracts.register.RegisterPart as register_parts

pub data_part_crosses : Crosses data_parts.the_row
data_part_crosses = search (data_crosses, crosses) depth 30

pub data1_crosses : Crosses data_objects.the_row
data1_crosses = search (data_crosses, crosses) depth 30

pub register_part_crosses : Crosses register_parts.the_row
register_part_crosses = search (data_crosses, crosses) depth 30

pub register_crosses : Crosses registers.the_row
register_crosses = search (data_crosses, crosses) depth 30
