use Rattle.std.proofs.Common.{rules}
use Rattle.config_text.specs.Classes.{register_of}
use Rattle.config_text.proofs.Readings.{refused_on, slips_in_both, was_read}
use Rattle.config_text.proofs.register.register_of.Goals as goal

pub returns-in_err-value : goal.returns-in_err-value
unfolding register_of
returns-in_err-value c =
    let two = c.both.ensures.slips _ _ c.text_at-value.ensures.1 c.text_at-default.ensures.1 in
    let three = c.both-2.ensures.slips _ _ two c.scaler_at-scaler.ensures.1 in
    let four = c.both-values.ensures.slips _ _ three c.natural_at-unit.ensures.value.1 in
    let all = c.in_err-value.ensures.slips _ _ four c.no_others-others.ensures.1 in
    refused_on _ _ _ _ c.from_residual.ensures (simp slips_in_both all)

pub returns : goal.returns
unfolding register_of
returns c =
    let last = c.in_ok-value.ensures.read in
    let four = simp last.0 at c.both-values.ensures.read in
    let three = simp four.0 at c.both-2.ensures.read in
    let two = simp three.0 at c.both.ensures.read in
    let value = simp two.0 at c.text_at-value.ensures.0 in
    let default = simp two.1 at c.text_at-default.ensures.0 in
    let scaler = simp three.1 at c.scaler_at-scaler.ensures.0 in
    let unit = simp four.1 at c.natural_at-unit.ensures.value.0 in
    let others = simp last.1 at c.no_others-others.ensures.0 in
    was_read _ _ (rw (value, default, scaler, unit, others) (search rules))
