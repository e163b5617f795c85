use Rattle.std.proofs.Common.{◌∙◌, sym, subst}
use Rattle.std.proofs.lemmas.Result.{err_from_is_err_and}
use Rattle.flow_map.specs.Map.{Mapped}
use Rattle.flow_forms.specs.Listing.{IsWhyOf}
use Rattle.flow_forms.proofs.why.write_why.Goals as goal

pub returns-in_err-write_whole : goal.returns-in_err-write_whole
returns-in_err-write_whole g c =
    let p = err_from_is_err_and c.from_residual-in_err-write_whole.result c.from_residual-in_err-write_whole.ensures.1 in
    let cut = c.in_err-write_whole.ensures.err in
    let text = c.in_ok-text.text.items in
    let why = subst (λ (C : Mapped). IsWhyOf C.plan C.policy c.args.client c.args.cell text) c.in_ok-ways.ensures c.in_ok-text.ensures in
    rw (p.1, p.2) (text, why, (cut.0, cut.1, sym c.deref.ensures.value ∙ cut.2, cut.3, cut.4))
