use Rattle.config_text.specs.Rights.{right_of}
use Rattle.config_text.proofs.Readings.{refused_on, slips_in_both}
use Rattle.config_text.proofs.right.RightTableTableForm.read.Goals as goal

pub returns-in_err-client : goal.returns-in_err-client
unfolding right_of
returns-in_err-client c =
    let two = c.both-names.ensures.slips _ _ c.text_at.ensures.1 c.text_at-2.ensures.1 in
    let three = c.both.ensures.slips _ _ two c.indexes_at-gets.ensures.1 in
    let four = c.both-2.ensures.slips _ _ three c.indexes_at-sets.ensures.1 in
    let five = c.both-values.ensures.slips _ _ four c.indexes_at-acts.ensures.1 in
    let all = c.in_err-client.ensures.slips _ _ five c.no_others-others.ensures.1 in
    refused_on _ _ _ _ c.from_residual.ensures (simp slips_in_both all)
