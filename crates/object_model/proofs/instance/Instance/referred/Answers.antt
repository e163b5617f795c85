use Rattle.std.proofs.Common.{◌∙◌, ap, sym, Option, Some, ℕ}
use Rattle.std.specs.Prelude.{option_map, slice_get}
use Rattle.object_model.specs.InstanceView.{AtName}
use Rattle.object_model.specs.Tables.{references_at}
use Rattle.object_model.proofs.Referred.{reference-none, unreferred, is_reference}
use Rattle.object_model.proofs.instance.Instance.referred.Goals as goal
use Rattle.object_model.proofs.instance.Instance.referred.Goals.{In_ok-number}

-- what there is at a place of the references
abbrev meant : AtName → ℕ → Option AtName
meant i place = option_map (λ name. record { plan = i.plan; name = name }) (slice_get (references_at i.plan i.name) place)

pub returns-in_err-self : goal.returns-in_err-self
returns-in_err-self c =
    c.from_residual.ensures
    ∙ ap (option_map (λ name. record { plan = c.self.inside.plan.now; name = name })) (sym (reference-none c.self.inside.plan.now c.self.inside.name c.args.place (sym c.in_err-self.was ∙ c.self.invariant)))
    ∙ ap (λ i. meant i c.args.place) c.self.view_is

pub returns-in_err-number : goal.returns-in_err-number
returns-in_err-number c =
    c.from_residual-in_err-number.ensures
    ∙ ap (option_map (λ name. record { plan = c.self.inside.plan.now; name = name }))
    (sym (unreferred c.self.inside.plan.now c.self.inside.name c.in_ok-self.field-0 c.args.place (sym c.in_ok-self.was ∙ c.self.invariant) c.in_err-number.ensures))
    ∙ ap (λ i. meant i c.args.place) c.self.view_is

pub numbered-requires : goal.numbered-requires
numbered-requires c =
    let found = is_reference c.self.inside.plan.now c.self.inside.name c.in_ok-self.field-0 c.args.place c.in_ok-number.number (sym c.in_ok-self.was ∙ c.self.invariant) c.in_ok-number.ensures in
    (found.name, sym found.number)

pub returns : goal.returns
returns c =
    let found = is_reference c.self.inside.plan.now c.self.inside.name c.in_ok-self.field-0 c.args.place c.in_ok-number.number (sym c.in_ok-self.was ∙ c.self.invariant) c.in_ok-number.ensures in
    ap Some (c.numbered.ensures found.name (sym found.number))
    ∙ ap (option_map (λ name. record { plan = c.self.inside.plan.now; name = name })) (sym found.there)
    ∙ ap (λ i. meant i c.args.place) c.self.view_is
