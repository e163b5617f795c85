use Rattle.std.proofs.Common.{◌≡◌, ◌-◌, ◌∙◌, ap, ap₂, arith, ℕ, List, length, map, sym}
use Rattle.std.proofs.lemmas.List.{length-map, take-map}
use Rattle.flow_map.specs.declared.kind.Kind.{Kind}
use Rattle.flow_page.specs.Changes.{FactShown, KindTold, changed_shown, fact_told}
use Rattle.flow_page.specs.declared.view.limits.TheConstants.{CHANGES}
use Rattle.flow_page.proofs.view.changes.kind_changes.Goals as goal

abbrev told-of : Kind → List FactShown → ℕ → KindTold
told-of kind facts more = record { kind = kind; facts = facts; more = more }

pub returns : goal.returns
returns c =
    let xs = c.args.changed.items in
    let P = c.args.ways.now.plan in
    let facts = c.in_ok-facts_told.ensures ∙ ap (map (fact_told P)) (ap (map changed_shown) (c.deref.ensures.value ∙ c.truncate.ensures.items) ∙ sym (take-map changed_shown CHANGES xs)) in
    let more : c.saturating_sub-more.result ≡ length (map changed_shown xs) - CHANGES = omega (arith, c.saturating_sub-more.ensures, c.len.ensures, length-map xs changed_shown) in
    ap₂ (told-of c.args.kind) facts more
