use Rattle.std.proofs.Common.{◌∙◌, Some, None, Err, refl, sym, ap, subst}
use Rattle.xdlms_services.specs.Asking.{asked}
use Rattle.xdlms_services.specs.Reading.{Reads, request_at}
use Rattle.xdlms_services.specs.declared.reading.ApduFault.{ApduFault}
use Rattle.xdlms_services.specs.declared.request.Request.{Request}
use Rattle.acse_session.specs.Answering.{unknown}
use Rattle.xdlms_services.specs.Conversation.{Exchange, answered}
use Rattle.acse_session.proofs.OneTurn.{inside_says, inside-next, inside-unreadable, inside-asked, not-named, on_err_from}
use Rattle.acse_session.proofs.turning.inside.Goals as goal

pub returns-in-Ok-Next-clause-ok : goal.returns-in-Ok-Next-clause-ok
returns-in-Ok-Next-clause-ok g c =
    inside_says g.A.Asker.answers c.args.asker.now c.args.asker.now c.args.a c.args.transfer c.args.apdu.now None c.next_block.result _ _ c.next_block.ensures.transfer c.next_block.ensures.answer refl
    (inside-next c.args.a c.args.transfer _ c.in-Ok-Next.invoke c.in-Ok-Next.block (c.in-Ok-Next.ensures.exact ∙ ap (λ (r : Request). Some r) c.in-Ok-Next.field-0-is) refl refl)

pub returns-in-Ok : goal.returns-in-Ok
returns-in-Ok g c =
    let step = asked c.in-Some.asking in
    let exchange : Exchange = record { step = step.step; reply = answered c.ask-reply.result } in
    let asks = sym c.in-Some.ensures.asking in
    record {
      ok = inside_says g.A.Asker.answers c.args.asker.now c.ask-reply.new.self c.args.a c.args.transfer c.args.apdu.now (Some exchange) c.replied.result _ _ c.replied.ensures.transfer c.replied.ensures.answer (c.ask-reply.new.self, c.ask-reply.ensures.answer, refl)
          (inside-asked c.args.a c.args.transfer _ c.in-Ok.request step exchange.reply c.in-Ok.ensures.exact (not-named c.args.a.client c.in-Ok.request step asks) asks refl refl);
      association = c.replied.ensures.association;
      err = on_err_from c.replied.result (Some exchange, (c.ask-reply.new.self, c.ask-reply.ensures.answer, refl));
      fits = c.replied.ensures.fits;
      plan = c.ask-reply.ensures.plan;
    }

pub returns-in-Err-Unreadable-clause-ok : goal.returns-in-Err-Unreadable-clause-ok
returns-in-Err-Unreadable-clause-ok g c =
    inside_says g.A.Asker.answers c.args.asker.now c.args.asker.now c.args.a c.args.transfer c.args.apdu.now None c.unreadable.result None unknown c.unreadable.ensures.transfer c.unreadable.ensures.answer refl
    (inside-unreadable c.args.a c.args.transfer _ (subst (λ (e : ApduFault). Reads (Err e) (request_at c.args.apdu.now)) c.in-Err-Unreadable.field-0-is c.in-Err-Unreadable.ensures.exact) refl refl)
