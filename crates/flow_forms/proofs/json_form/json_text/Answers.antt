use Rattle.std.proofs.Common.{◌∙◌, ap, subst}
use Rattle.std.proofs.lemmas.Result.{IfOk-weaker}
use Rattle.meter_theory.specs.Labels.{labelling_of_policy}
use Rattle.meter_theory.specs.Plan.{cells}
use Rattle.meter_theory.specs.Sound.{IsSound}
use Rattle.serde_json.specs.Written.{has_float}
use Rattle.flow_ways.specs.Found.{distance_of}
use Rattle.flow_ways.proofs.Distance.{are-distances}
use Rattle.flow_forms.specs.Csv.{client_names}
use Rattle.flow_forms.specs.Json.{json_line}
use Rattle.flow_forms.specs.Rights.{heads_of, rights_of}
use Rattle.flow_forms.proofs.NoFloats.{report-none}
use Rattle.flow_forms.proofs.json_form.json_text.Goals as goal

pub line_of-requires : goal.line_of-requires
line_of-requires c =
    let P = c.args.ways.now.plan in
    ap has_float c.in_ok-report.ensures
    ∙ report-none c.args.verdict.now (cells P) (client_names P) (heads_of P) (rights_of P) (labelling_of_policy P c.args.ways.now.policy) (distance_of P)

pub returns : goal.returns
returns c =
    let P = c.args.ways.now.plan in
    let sound = subst IsSound c.plan.ensures c.known.ensures.sound in
    IfOk-weaker c.line_of.result _ _ (λ text h. record { found = distance_of P; are_distances = are-distances P sound; text_is = h ∙ ap json_line c.in_ok-report.ensures }) c.line_of.ensures
