use Rattle.config_text.specs.Classes.{profile_of}
use Rattle.config_text.proofs.Readings.{refused_on, slips_in_both}
use Rattle.config_text.proofs.profile.profile_of.Goals as goal

pub returns-in_err-capture : goal.returns-in_err-capture
unfolding profile_of
returns-in_err-capture c =
    let others = simp c.known_keys.ensures at c.no_others_of-others.ensures.1 in
    let two = c.both.ensures.slips _ _ c.list_at-capture.ensures.1 c.natural_at-period.ensures.value.1 in
    let three = c.both-counts.ensures.slips _ _ two c.natural_at-entries.ensures.value.1 in
    let four = c.both-2.ensures.slips _ _ three c.optional_integer_at-sort_method.ensures.1 in
    let five = c.both-values.ensures.slips _ _ four c.menu_of-menu.ensures.1 in
    let all = c.in_err-capture.ensures.slips _ _ five others in
    refused_on _ _ _ _ c.from_residual.ensures (simp slips_in_both all)
