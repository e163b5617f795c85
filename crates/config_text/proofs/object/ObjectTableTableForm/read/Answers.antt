use Rattle.std.proofs.Common.{refl}
use Rattle.config_text.specs.Objects.{object_of}
use Rattle.config_text.proofs.Readings.{number_read, refused_on, slips_in_both, was_read}
use Rattle.config_text.proofs.object.ObjectTableTableForm.read.Goals as goal

pub returns-in_err-class_id : goal.returns-in_err-class_id
unfolding object_of
returns-in_err-class_id c =
    let class = simp (c.in_ok-told.ensures.value _ c.natural_at-class_id.ensures.value, number_read) at c.class_told-class.ensures in
    let two = c.both.ensures.slips _ _ c.natural_at-class_id.ensures.value.1 c.text_at-name.ensures.1 in
    let three = c.both-2.ensures.slips _ _ two (simp class at c.fed_of-fed.ensures.1) in
    let all = c.in_err-class_id.ensures.slips _ _ three (simp (class, c.has_menus.ensures) at c.body_of-body.ensures.1) in
    refused_on _ _ _ _ c.from_residual-in_err-class_id.ensures (simp slips_in_both all)

pub returns : goal.returns
unfolding object_of
returns c =
    let class = simp (c.in_ok-told.ensures.value _ c.natural_at-class_id.ensures.value, number_read) at c.class_told-class.ensures in
    let last = c.in_ok-class_id.ensures.read in
    let three = simp last.0 at c.both-2.ensures.read in
    let two = simp three.0 at c.both.ensures.read in
    let class_id = simp two.0 at c.natural_at-class_id.ensures.value.0 in
    let name = simp two.1 at c.text_at-name.ensures.0 in
    let fed = simp (three.1, class) at c.fed_of-fed.ensures.0 in
    let body = simp (last.1, class, c.has_menus.ensures) at c.body_of-body.ensures.0 in
    was_read _ _ (rw (class_id, name, fed, body) refl)
