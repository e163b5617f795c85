use Rattle.std.proofs.Common.{◌∙◌, codes, map, ap}
use Rattle.serde_json.specs.Data.{object, put, string}
use Rattle.serde_json.specs.View.{members_view}
use Rattle.serde_json.proofs.Views.{view-Object}
use Rattle.meter_theory.specs.Labels.{labelling_of_policy}
use Rattle.meter_theory.specs.Plan.{Plan, cells}
use Rattle.flow_ways.specs.Found.{distance_of}
use Rattle.flow_forms.specs.Csv.{client_names}
use Rattle.flow_forms.specs.Json as spec
use Rattle.flow_forms.specs.Rights.{Head, heads_of, rights_of}
use Rattle.flow_forms.proofs.json_form.report_value.Goals as goal

pub returns : goal.returns
returns c =
    let P = c.args.ways.now.plan in
    let found_cells = spec.cells_data (client_names P) (distance_of P) (labelling_of_policy P c.args.ways.now.policy) (cells P) in
    let clients = λ (p : Plan). spec.array_of (map string (client_names p)) in
    let objects = λ (p : Plan). spec.array_of (map (λ (o : Head). string (spec.head_text o)) (heads_of p)) in
    let rights = λ (p : Plan). spec.rights_data (client_names p) (rights_of p) (heads_of p) in
    let with_cells = c.in_ok-put_cells.ensures ∙ ap (λ es. put (codes "cells") found_cells (members_view es)) c.new-members.ensures.empty in
    let with_clients =
    c.in_ok-put_clients.ensures
    ∙ ap (λ p. put (codes "clients") (clients p) (members_view c.put_cells.new.members.entries)) c.plan.ensures
    ∙ ap (put (codes "clients") (clients P)) with_cells in
    let with_objects =
    c.in_ok-put_objects.ensures
    ∙ ap (λ p. put (codes "objects") (objects p) (members_view c.put_clients.new.members.entries)) c.plan-2.ensures
    ∙ ap (put (codes "objects") (objects P)) with_clients in
    let with_rights =
    c.in_ok-put_rights.ensures
    ∙ ap (λ p. put (codes "rights") (rights p) (members_view c.put_objects.new.members.entries)) c.plan-3.ensures
    ∙ ap (put (codes "rights") (rights P)) with_objects in
    let with_verdict = c.in_ok-put_text.ensures ∙ ap (put (codes "verdict") (string c.args.verdict.now)) with_rights in
    let with_version =
    c.in_ok-put_member.ensures
    ∙ ap (λ v. put (codes "version") v (members_view c.put_text.new.members.entries)) c.from.ensures
    ∙ ap (put (codes "version") (spec.count 1)) with_verdict in
    view-Object c.put_member.new.members ∙ ap object with_version
