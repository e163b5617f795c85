use Rattle.std.proofs.Common.{refl}
use Rattle.std.proofs.lemmas.List.{map-id}
use Rattle.config_text.specs.Classes.{schedule_of}
use Rattle.config_text.proofs.Readings.{refused_on, slips_in_both, was_read}
use Rattle.config_text.proofs.schedule.schedule_of.Goals as goal

pub returns-in_err-script : goal.returns-in_err-script
unfolding schedule_of
returns-in_err-script c =
    let others = simp c.known_keys.ensures at c.no_others_of-others.ensures.1 in
    let two = c.both.ensures.slips _ _ c.table_at-script.ensures.1 c.natural_at-kind.ensures.value.1 in
    let three = c.both-2.ensures.slips _ _ two c.texts_at-times.ensures.1 in
    let four = c.both-values.ensures.slips _ _ three c.menu_of-menu.ensures.1 in
    let all = c.in_err-script.ensures.slips _ _ four others in
    refused_on _ _ _ _ c.from_residual.ensures (simp slips_in_both all)

pub returns : goal.returns
unfolding schedule_of
returns c =
    let last = c.in_ok-script.ensures.read in
    let four = simp last.0 at c.both-values.ensures.read in
    let three = simp four.0 at c.both-2.ensures.read in
    let two = simp three.0 at c.both.ensures.read in
    let script = simp two.0 at c.table_at-script.ensures.0 in
    let kind = simp two.1 at c.natural_at-kind.ensures.value.0 in
    let times = simp (three.1, map-id) at c.texts_at-times.ensures.0 in
    let menu = simp four.1 at c.menu_of-menu.ensures.0 in
    let others = simp (last.1, c.known_keys.ensures) at c.no_others_of-others.ensures.0 in
    was_read _ _ (rw (script, kind, times, menu, others) refl)
