use Rattle.std.proofs.Common.{◌≡◌, ◌∙◌, List, Option, Result, Ok, Err, IfOk, ap, ap₂, map, option_map, subst, sym}
use Rattle.cosem_data.specs.declared.memory.Memory.{Memory}
use Rattle.meter_theory.specs.Labels.{Policy, labelling_of_policy}
use Rattle.meter_theory.specs.Plan.{Plan, cells}
use Rattle.meter_theory.specs.declared.flow.Label.{Label}
use Rattle.flow_changes.specs.declared.compare.Comparison.{Comparison}
use Rattle.flow_map.specs.Map.{Mapped}
use Rattle.flow_page.specs.declared.changes.Changes.{Changes}
use Rattle.flow_page.specs.declared.page.Page.{Page}
use Rattle.flow_page.specs.Changes.{AreChangesOf}
use Rattle.flow_page.specs.Marks.{Told}
use Rattle.flow_page.specs.Shown.{IsPage, IsPageOf, told_of}
use Rattle.flow_page.specs.declared.page.Heading.{Heading}
use Rattle.flow_page.proofs.view.page.page_of.Goals as goal

abbrev told-with : Plan → List Label → List Label → List Label → Told
told-with P allowed gained lost = record { plan = P; allowed = allowed; gained = gained; lost = lost }

of-page : (P : Plan) (Q : Policy) (told : Told) (comparison : Option Comparison) (heading : Heading) (changes : Option Changes) (r : Result Page Memory) → told ≡ told_of P Q comparison →
    AreChangesOf P comparison changes → IfOk r (λ page. IsPage told heading page) → IfOk r (λ page. page.changes ≡ changes) → IfOk r (λ page. IsPageOf P Q comparison heading page)
of-page P Q told comparison heading changes (Ok page) e are is same =
    record { page_is = subst (λ t. IsPage t heading page) e is; changes_are = subst (AreChangesOf P comparison) (sym same) are }
of-page P Q told comparison heading changes (Err fault) e are is same = tt

pub returns : goal.returns
returns c =
    let P = c.args.ways.now.plan in
    let Q = c.args.ways.now.policy in
    let comparison = option_map (λ told. told.now) c.args.comparison in
    let allowed = c.allowed.ensures ∙ ap (λ (C : Mapped). map (labelling_of_policy C.plan C.policy) (cells C.plan)) c.map.ensures in
    let told = ap (λ labels. told-with P labels c.gained_by.result.now c.lost_by.result.now) allowed
    ∙ ap₂ (told-with P (map (labelling_of_policy P Q) (cells P))) c.gained_by.ensures c.lost_by.ensures in
    of-page P Q _ comparison c.args.heading c.in_ok-changes.changes c.page_from.result told c.in_ok-changes.ensures c.page_from.ensures.page c.page_from.ensures.changes
