use Rattle.class_profile.proofs.TakenBack.{taken_back}
use Rattle.class_profile.proofs.laws.captures_are_taken_back.Goals as goal

pub returns : goal.returns
returns c = taken_back
