use Rattle.std.proofs.Common.{◌++◌, List, ℕ, ap, subst, ◌∙◌}
use Rattle.line_sources.specs.Texts.{Tells, skipped_text}
use Rattle.line_sources.proofs.text.tell_skipped.Goals as goal

pub returns : goal.returns
returns g c =
    let told = skipped_text c.args.count in
    subst (λ (t : List ℕ). Tells (g.W.Write.contents c.args.output.now) (g.W.Write.contents c.tell.new.output) t c.tell.result)
    (c.as_bytes.ensures.value ∙ c.in-Ok.ensures.bytes ∙ ap (λ (t : List ℕ). t ++ told) c.clear.ensures.bytes) c.tell.ensures
