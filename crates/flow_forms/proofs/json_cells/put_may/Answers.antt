use Rattle.std.proofs.Common.{◌∙◌, sym, ap}
use Rattle.std.proofs.lemmas.Result.{on_ok_weaker}
use Rattle.serde_json.specs.Data.{put}
use Rattle.serde_json.specs.View.{members_view, view}
use Rattle.flow_forms.specs.Csv.{client_names}
use Rattle.flow_forms.specs.Json.{client_at, distance_member, put_all}
use Rattle.flow_forms.proofs.json_cells.put_may.Goals as goal

pub returns-in-Some : goal.returns-in-Some
returns-in-Some c =
    let P = c.args.ways.now.plan in
    let old = members_view c.args.members.now.entries in
    let name = client_at (client_names P) c.args.client in
    let found = sym c.distance.ensures.found ∙ c.in-Some.is in
    let named = c.client_name.ensures ∙ ap (λ p. client_at (client_names p) c.args.client) c.plan-plan.ensures in
    on_ok_weaker c.put_member.result
    (λ h.
    h
    ∙ ap (λ k. put k (view c.from.result) old) named
    ∙ ap (λ v. put name v old) c.from.ensures
    ∙ ap (λ d. put_all old (distance_member name d)) (sym found)) c.put_member.ensures

pub returns-in-None : goal.returns-in-None
returns-in-None c =
    let P = c.args.ways.now.plan in
    let old = members_view c.args.members.now.entries in
    let name = client_at (client_names P) c.args.client in
    let found = sym c.distance.ensures.found ∙ c.in-None.is in
    ap (λ d. put_all old (distance_member name d)) (sym found)
