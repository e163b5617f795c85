use Rattle.std.specs.Prelude.{◌≡◌, true, unsigned_abs}
use Rattle.std.proofs.Common.{rules, ap, sym, ◌∙◌}
use Rattle.meter_theory.specs.Plan.{interface_at, rule_of}
use Rattle.meter_theory.specs.Rights.{class_is, has_attribute, has_right, in_view, lists}
use Rattle.object_model.specs.ArgumentView.{argument_of}
use Rattle.association_views.specs.Permits.{permitted, value_code}
use Rattle.association_views.proofs.Codes.{all_passed, named}
use Rattle.association_views.proofs.permits.permit_set_at.Goals as goal

pub returns : goal.returns
returns c =
    let P = c.args.instance.now.plan in
    let n = c.args.instance.now.name in
    let d = c.args.descriptor.now in
    let first = named (in_view P c.args.client n) (class_is d.class_id (interface_at P n)) c.in_ok-interface.ensures.code in
    let seen : in_view P c.args.client d.name ≡ true = ap (in_view P c.args.client) c.requires ∙ first.0 in
    let class : class_is d.class_id (interface_at P d.name) ≡ true = ap (λ n. class_is d.class_id (interface_at P n)) c.requires ∙ first.1 in
    let has : has_attribute d.index (interface_at P d.name) ≡ true =
    ap (λ n. has_attribute d.index (interface_at P n)) c.requires
    ∙ (ap (has_attribute d.index) c.in_ok-interface.ensures.ok ∙ search rules) in
    let may : has_right P c.args.client d.name (λ r. lists r.sets (unsigned_abs d.index)) ≡ true =
    ap (λ n. has_right P c.args.client n (λ r. lists r.sets (unsigned_abs d.index))) c.requires
    ∙ (ap (λ x. has_right P c.args.client n (λ r. lists r.sets x.index)) (sym c.attribute-cell.ensures)
    ∙ (sym c.may_set.ensures ∙ c.if-not-may_set.false)) in
    c.permit_value.ensures
    ∙ (ap (λ x. permitted (value_code (rule_of P x) (argument_of c.args.value.now))) c.attribute-cell.ensures
    ∙ ap permitted (all_passed seen class has may c.if-selected.false))
