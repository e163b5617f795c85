use Rattle.meter_theory.proofs.Without.{captures-alone, runs-alone, profile-alone, schedule-alone, objects_rule-alone, script_rule-alone, profile_edges-alone, schedule_edges-alone, writes-alone}
use Rattle.meter_theory.proofs.laws.attributes_without_menus_are_fixed.Goals as goal

pub returns-clause-captures : goal.returns-clause-captures
returns-clause-captures c = captures-alone

pub returns-clause-runs : goal.returns-clause-runs
returns-clause-runs c = runs-alone

pub returns-clause-profile : goal.returns-clause-profile
returns-clause-profile c = profile-alone

pub returns-clause-schedule : goal.returns-clause-schedule
returns-clause-schedule c = schedule-alone

pub returns-clause-objects_rule : goal.returns-clause-objects_rule
returns-clause-objects_rule c = objects_rule-alone

pub returns-clause-script_rule : goal.returns-clause-script_rule
returns-clause-script_rule c = script_rule-alone

pub returns-clause-profile_edges : goal.returns-clause-profile_edges
returns-clause-profile_edges c = profile_edges-alone

pub returns-clause-schedule_edges : goal.returns-clause-schedule_edges
returns-clause-schedule_edges c = schedule_edges-alone

pub returns-clause-writes : goal.returns-clause-writes
returns-clause-writes c = writes-alone
