use Rattle.std.proofs.Common.{◌≡◌, map, take, ◌++◌, flat_map}
use Rattle.class_control.specs.ScriptView.{script_of}
use Rattle.cosem_class.specs.Parts.{target}
use Rattle.class_control.proofs.references.push_scripts.Given as goal

abbrev pub invariant-loop-script : goal.invariant-loop-script
invariant-loop-script l = l.names.items ≡ l.initial.names.items ++ flat_map (λ s. map target s.actions) (map script_of (take l.script-index l.scripts))
