use Rattle.std.proofs.Common.{[]}
use Rattle.cosem_class.specs.declared.class.Op.TheVariants.{Write}
use Rattle.meter_effects.proofs.Changes.{put-is_operation, puts-alone}
use Rattle.meter_effects.proofs.laws.puts_are_writes.Goals as goal

pub returns : goal.returns
returns g c = λ class_id name fixed index v accepted alone.
    let C = g.C.InterfaceClass in
    put-is_operation class_id name index (C.kept v) (C.touched (Write index)) (C.new_value fixed (Write index) v) (λ s. [])
    (λ s cells i. puts-alone (C.touched (Write index)) (C.new_value fixed (Write index) v []) cells index (C.kept v) alone (g.met.C.InterfaceClass.writes_its_value fixed index v cells accepted) i)
