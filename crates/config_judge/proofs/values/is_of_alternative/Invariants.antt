use Rattle.std.proofs.Common.{◌≡◌, Bool, List, drop}
use Rattle.std.specs.List.{list_any}
use Rattle.cosem_data.specs.View.{tree}
use Rattle.cosem_data.specs.Equal.{same_tree}
use Rattle.meter_theory.specs.Menus.{capture_objects_value}
use Rattle.config_text.specs.Parts.{CaptureText}
use Rattle.config_rules.specs.PlanOf.{cells_named}
use Rattle.config_judge.proofs.values.is_of_alternative.Given as goal

-- none of those before is it
abbrev pub invariant-loop-alternative : goal.invariant-loop-alternative
invariant-loop-alternative l =
    let is : List CaptureText → Bool = λ a. same_tree (capture_objects_value (cells_named l.directory.config.now a)) (tree l.value) in
    list_any is (drop l.alternative-index l.menu) ≡ list_any is l.menu
