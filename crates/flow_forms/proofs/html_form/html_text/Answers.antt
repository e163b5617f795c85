use Rattle.std.proofs.Common.{◌∙◌, ℕ, List, IfOk, Ok, Err, Option, Result, String, Global, ap, ap₂, map, option_map, string_bytes, subst, sym}
use Rattle.cosem_data.specs.declared.memory.Memory.{Memory}
use Rattle.meter_theory.specs.Labels.{Policy}
use Rattle.meter_theory.specs.Plan.{Plan}
use Rattle.flow_picture.specs.Picture.{IsPictureOf}
use Rattle.flow_changes.specs.declared.compare.Comparison.{Comparison}
use Rattle.flow_page.specs.Page.{IsPageText}
use Rattle.flow_page.specs.Shown.{IsPageOf}
use Rattle.flow_page.specs.declared.page.Page.{Page}
use Rattle.flow_picture.specs.Svg.{IsPicture}
use Rattle.flow_picture.specs.declared.picture.Picture.{Picture}
use Rattle.flow_page.specs.declared.page.Heading.{Heading}
use Rattle.flow_forms.specs.Html.{IsHtml, numbers_of}
use Rattle.flow_forms.proofs.html_form.html_text.Goals as goal

of-page : (P : Plan) (Q : Policy) (changes : Option Comparison) (heading : Heading) (page : Page) (picture : Picture) (drawn : List ℕ) (r : Result (String Global) Memory) → IsPageOf P Q changes heading page → IsPictureOf P (numbers_of P page.rows.items) picture →
    IsPicture picture drawn → IfOk r (λ text. IsPageText page drawn (string_bytes text)) → IfOk r (λ text. IsHtml P Q changes heading (string_bytes text))
of-page P Q changes heading page picture drawn (Ok text) p q d is = record { page = page; page_is = p; picture = picture; picture_is = q; drawn = drawn; drawn_is = d; text_is = is }
of-page P Q changes heading page picture drawn (Err fault) p q d is = tt

pub returns : goal.returns
returns c =
    let P = c.args.ways.now.plan in
    let page = c.in_ok-page.page in
    let picture = c.in_ok-picture.picture in
    let groups = ap (map (λ g. g.items)) c.deref-2.ensures.value ∙ (c.in_ok-groups.ensures ∙ ap₂ numbers_of c.plan.ensures c.deref.ensures.value) in
    of-page P c.args.ways.now.policy (option_map (λ k. k.now) c.args.changes) c.args.heading page picture c.as_str.result.now c.page_text.result c.in_ok-page.ensures (subst (λ gs. IsPictureOf P gs picture) groups c.in_ok-picture.ensures)
    (subst (IsPicture picture) (sym c.as_str.ensures.value) c.in_ok-drawn.ensures) c.page_text.ensures
