use Rattle.std.proofs.Common.{◌≡◌, map, take}
use Rattle.config_rules.specs.PlanOf.{object_of}
use Rattle.config_reader.proofs.objects.objects_of.Given as goal

-- the objects before are taken
abbrev pub invariant-loop-part : goal.invariant-loop-part
invariant-loop-part l = l.objects.items ≡ map (object_of l.directory.config.now) (take l.part-index l.parts)
