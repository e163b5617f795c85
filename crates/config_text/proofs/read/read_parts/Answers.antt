use Rattle.std.proofs.Common.{refl}
use Rattle.config_text.specs.Document.{parts_of}
use Rattle.config_text.proofs.Readings.{number_read, refused_on, slips_in_both, was_read}
use Rattle.config_text.proofs.read.read_parts.Goals as goal

pub returns-in_err-version : goal.returns-in_err-version
unfolding parts_of
returns-in_err-version c =
    let top = c.top-top.ensures in
    let told = simp (c.in_ok-told.ensures.value _ c.natural_at-version.ensures.value, number_read, top) at c.version_told.ensures in
    let two = c.both.ensures.slips _ _ c.natural_at-version.ensures.value.1 c.list_at-clients.ensures.1 in
    let three = c.both-model.ensures.slips _ _ two c.list_at-objects.ensures.1 in
    let four = c.both-2.ensures.slips _ _ three c.optional_list_at-rights.ensures.1 in
    let five = c.both-3.ensures.slips _ _ four c.table_at-policy.ensures.1 in
    let six = c.both-values.ensures.slips _ _ five c.optional_list_at-labels.ensures.1 in
    let all = c.in_err-version.ensures.slips _ _ six c.no_others-others.ensures.1 in
    refused_on _ _ _ _ c.from_residual-in_err-version.ensures (simp slips_in_both (simp (top, told) at all))

pub returns : goal.returns
unfolding parts_of
returns c =
    let top = c.top-top.ensures in
    let told = simp (c.in_ok-told.ensures.value _ c.natural_at-version.ensures.value, number_read, top) at c.version_told.ensures in
    let last = c.in_ok-version.ensures.read in
    let six = simp last.0 at c.both-values.ensures.read in
    let five = simp six.0 at c.both-3.ensures.read in
    let four = simp five.0 at c.both-2.ensures.read in
    let three = simp four.0 at c.both-model.ensures.read in
    let two = simp three.0 at c.both.ensures.read in
    let version = simp (two.0, top) at c.natural_at-version.ensures.value.0 in
    let clients = simp (two.1, top) at c.list_at-clients.ensures.0 in
    let objects = simp (three.1, top, told) at c.list_at-objects.ensures.0 in
    let rights = simp (four.1, top) at c.optional_list_at-rights.ensures.0 in
    let policy = simp (five.1, top) at c.table_at-policy.ensures.0 in
    let labels = simp (six.1, top) at c.optional_list_at-labels.ensures.0 in
    let others = simp (last.1, top) at c.no_others-others.ensures.0 in
    was_read _ _ (rw (version, clients, objects, rights, policy, labels, others) refl)
