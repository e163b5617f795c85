use Rattle.std.proofs.Common.{List, ℕ, ap, sym, subst, ◌∙◌}
use Rattle.std.specs.Io.KnownBytes.{Appends}
use Rattle.tcp_wrapper.specs.declared.message.Message.{Message}
use Rattle.tcp_wrapper.specs.Stream.{framed}
use Rattle.frame_server.proofs.serving.answer_one.Goals as goal

pub returns-in_default-write_whole-clause-one : goal.returns-in_default-write_whole-clause-one
returns-in_default-write_whole-clause-one g c =
    let h = c.in-Ok.ensures.ok in
    let source = c.args.message.now.source in
    let whole = c.deref-2.ensures.value ∙ c.in-Ok-frame.ensures ∙ ap (λ (t : List ℕ). framed 1 source t) c.deref.ensures.value in
    let w = c.in_default-write_whole.ensures.err in (
      record { source = source; apdu = c.as_slice.result.now; asked = h.0; answer = c.in-Ok.answer.items },
      w.0,
      w.1,
      ap (λ (t : List ℕ). let m : Message = record { source = source; apdu = t } in m) c.as_slice.ensures,
      h.2,
      h.1,
      w.3,
      sym whole ∙ w.2,
      w.4,
    )

pub returns-clause-one : goal.returns-clause-one
returns-clause-one g c =
    let h = c.in-Ok.ensures.ok in
    let source = c.args.message.now.source in
    let whole = c.deref-2.ensures.value ∙ c.in-Ok-frame.ensures ∙ ap (λ (t : List ℕ). framed 1 source t) c.deref.ensures.value in (
      record { source = source; apdu = c.as_slice.result.now; asked = h.0; answer = c.in-Ok.answer.items },
      ap (λ (t : List ℕ). let m : Message = record { source = source; apdu = t } in m) c.as_slice.ensures,
      h.2,
      h.1,
      subst (λ (t : List ℕ). Appends (g.W.Write.contents c.args.writer.now) (g.W.Write.contents c.write_whole.new.writer) t) whole c.in-Ok-write_whole.ensures.ok,
    )
