use Rattle.std.proofs.Common.{sym, ap, ◌∙◌, arith, length}
use Rattle.std.specs.Str.{bytes_eq}
use Rattle.object_model.proofs.Puts.{position-within}
use Rattle.object_model.proofs.plan.Plan.client_named.Goals as goal

pub overflow_cast-result : goal.overflow_cast-result
overflow_cast-result c =
    let less = position-within (λ k. bytes_eq k.name c.args.name.now) 0 c.deref.result.now c.in_ok-place.place (sym c.in_ok-place.was ∙ c.place_named.ensures) in
    let few = c.known.ensures.sound.few_clients in
    let same = c.deref.ensures.len in
    let whole = ap (λ P. length P.clients) c.self.view_is in
    omega (arith, less, few, same, whole)
