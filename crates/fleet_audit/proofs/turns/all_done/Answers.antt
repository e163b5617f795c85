use Rattle.std.proofs.Common.{◌≡◌, IsOkAnd, ◌∷◌, [], subst, sym}
use Rattle.fleet_audit.proofs.Joined.{joined}
use Rattle.fleet_audit.proofs.turns.all_done.Goals as goal

pub loop-share-preserved : goal.loop-share-preserved
loop-share-preserved c =
    let one : IsOkAnd c.in-Some.share (λ verdicts. verdicts.items ≡ c.from.result.items) =
    subst (λ share. IsOkAnd share (λ verdicts. verdicts.items ≡ c.from.result.items)) (sym c.in_ok-share.was) (sym c.from.ensures.0) in
    rw c.in-Ok-push_back.ensures.items (joined (λ share list. IsOkAnd share (λ verdicts. verdicts.items ≡ list.items)) c.loop-share.yielded (c.in-Some.share ∷ []) c.loop-share.lists.items (c.from.result ∷ []) c.loop-share.invariant (one, tt))
