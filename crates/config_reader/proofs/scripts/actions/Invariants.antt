use Rattle.std.proofs.Common.{◌≡◌, map, take, true}
use Rattle.std.specs.List.{list_all}
use Rattle.class_control.specs.ActionView as view
use Rattle.config_rules.specs.PlanOf.{action_of}
use Rattle.config_reader.proofs.scripts.actions.Given as goal

-- the actions before are taken
abbrev pub invariant-loop-part : goal.invariant-loop-part
invariant-loop-part l = record {
  actions : map view.action_of l.list.items ≡ map (λ a. action_of l.directory.config.now a.service a.target a.value) (take l.part-index l.parts);
  indexes : list_all view.has_index l.list.items ≡ true;
}
