use Rattle.class_profile.proofs.profile.ProfileInterfaceClassLentProfilePart.invoke.Goals as goal

pub capture-requires : goal.capture-requires
capture-requires c = c.requires.rules 2
