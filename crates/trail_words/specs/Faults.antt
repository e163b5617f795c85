-- What is told of a fault of what is printed of a trail. All of it is own profile.
use Rattle.std.specs.Prelude.{ℕ, List, codes}
use Rattle.trail_words.specs.declared.fault.TrailTextFault.{TrailTextFault}
use Rattle.trail_words.specs.declared.fault.TrailTextFault.TheVariants.{NoTrail, Memory, Write, Damaged}

abbrev pub fault_words : TrailTextFault → List ℕ
fault_words NoTrail = codes "it is no trail of cosem-flow"
fault_words Memory = codes "out of memory"
fault_words Write = codes "the output can't be written"
fault_words Damaged = codes "its last entry isn't whole"
