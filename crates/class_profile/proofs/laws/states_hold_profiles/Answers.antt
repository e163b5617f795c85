use Rattle.class_profile.specs.ProfileStates.{is_buffer-of_state, is_count-of_state}
use Rattle.class_profile.proofs.laws.states_hold_profiles.Goals as goal

pub returns-clause-buffer : goal.returns-clause-buffer
returns-clause-buffer c = is_buffer-of_state

pub returns-clause-count : goal.returns-clause-count
returns-clause-count c = is_count-of_state
