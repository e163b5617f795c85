use Rattle.std.proofs.Common.{◌≡◌, Option, subst}
use Rattle.meter_theory.specs.Plan.{Plan}
use Rattle.xdlms_services.specs.Blocks.{Transfer}
use Rattle.acse_association.specs.declared.association.Association.{Association}
use Rattle.acse_session.specs.Answering.{Speaks}
use Rattle.acse_session.specs.Keeping.{Kept}
use Rattle.acse_session.specs.Turns.{Turn}
use Rattle.acse_session.proofs.OneTurn.{speaks-from_steps}
use Rattle.acse_session.proofs.session.Session.answer.Goals as goal

same-kept : (plan : Plan) (a a' : Option Association) (t t' : Option Transfer) (s : Kept) → a ≡ a' → t ≡ t' → (let k : Kept = record { plan = plan; association = a'; transfer = t' } in k) ≡ s → (let k : Kept = record { plan = plan; association = a; transfer = t } in k) ≡ s
same-kept plan a a' t t' s p q e = rw (p, q) e

pub returns-clause-ok : goal.returns-clause-ok
returns-clause-ok g c =
    let was = same-kept c.self.inside.plan.now c.take-association.result c.self.inside.association c.take-transfer.result c.self.inside.transfer c.args.self.now c.take-association.ensures.value c.take-transfer.ensures.value c.self.view_is in
    let new : Kept = record { plan = c.self.inside.plan.now; association = c.in_ok-after.after.association; transfer = c.in_ok-after.after.transfer } in
    let turn : Turn = record { source = c.args.source; apdu = c.args.apdu.now; asked = c.in_ok-after.ensures.ok.0; answer = c.in_ok-after.after.answer.items } in (
      c.in_ok-after.ensures.ok.0,
      c.in_ok-after.ensures.ok.1,
      subst (λ (s : Kept). Speaks s new turn) was (speaks-from_steps c.self.inside.plan.now c.take-association.result c.take-transfer.result turn c.in_ok-after.after.association c.in_ok-after.after.transfer c.in_ok-after.ensures.ok.2),
    )
