use Rattle.std.proofs.Common.{◌∷◌, [], ◌∙◌, OnOk, is_some, option_map, sym, ap, subst}
use Rattle.std.specs.Prelude.{slice_get}
use Rattle.meter_theory.specs.Labels.{has}
use Rattle.flow_forms.specs.Csv.{AreWritten, edges_text, yes_or_no}
use Rattle.flow_forms.proofs.Records.{name-there}
use Rattle.flow_forms.proofs.csv_form.write_reach.Goals as goal

pub returns : goal.returns
returns g c =
    let P = c.args.ways.now.plan in
    let who = sym (ap (λ p. slice_get p.clients c.args.client) c.plan-plan.ensures) ∙ sym c.client.ensures ∙ ap (option_map (λ w. w.now)) c.in-Some.is in
    let client = c.name.ensures ∙ sym (name-there P.clients c.args.client c.in-Some.who.now who) in
    let kind = c.as_bytes.ensures.value ∙ c.reach_word.ensures in
    let found = c.distance-distance.ensures.found in
    let may = c.as_bytes-2.ensures.value ∙ c.yes_or_no.ensures ∙ ap yes_or_no (c.is_some.ensures ∙ ap is_some found) in
    let edges = c.as_bytes-3.ensures.value ∙ c.in_ok-edges.ensures ∙ ap edges_text found in
    let allowed = c.as_bytes-4.ensures.value ∙ c.yes_or_no-2.ensures ∙ ap yes_or_no (c.has.ensures ∙ ap (λ set. has set c.args.client) c.set_for.ensures) in
    let same = c.record_of-record.ensures ∙ (λ i. c.requires.text i ∷ client i ∷ kind i ∷ may i ∷ edges i ∷ allowed i ∷ []) in
    subst (λ fields. OnOk c.write_fields.result (AreWritten g.W.Write.contents c.args.writer.now c.write_fields.new.writer (fields ∷ []))) same c.write_fields.ensures
