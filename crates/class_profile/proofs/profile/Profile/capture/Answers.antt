use Rattle.std.proofs.Common.{ap, ◌∙◌}
use Rattle.meter_theory.specs.Value.{structure_of}
use Rattle.class_profile.specs.ProfileLaws.{room_in_buffer}
use Rattle.class_profile.specs.PartView.{captures_of_part}
use Rattle.class_profile.specs.ProfileView.{with_entries}
use Rattle.class_profile.proofs.TakenBack.{rows_taken_back}
use Rattle.class_profile.proofs.profile.Profile.capture.Goals as goal

pub capture-requires-clause-fits : goal.capture-requires-clause-fits
capture-requires-clause-fits c = room_in_buffer (captures_of_part c.args.part.now) c.args.part.now.profile_entries c.args.self.now.buffer c.requires

pub returns-clause-before : goal.returns-clause-before
returns-clause-before c =
    let old = c.args.self.now in
    let part = c.args.part.now in
    let fits = room_in_buffer (captures_of_part part) part.profile_entries old.buffer c.requires in
    let rows = rows_taken_back part.profile_entries old.buffer c.capture.new.self (structure_of c.args.row) _ part.has_entries fits c.in_ok-dropped.ensures.rows c.in_ok-dropped.ensures.dropped in
    ap (λ before. with_entries before c.replace.result old) rows
    ∙ ap (λ in_use. with_entries old.buffer in_use old) c.replace.ensures.value
