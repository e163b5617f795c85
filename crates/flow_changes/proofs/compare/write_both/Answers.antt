use Rattle.std.proofs.Common.{◌++◌, ◌∙◌, append_assoc, arith, ap, sym}
use Rattle.std.proofs.KnownBytes.{Appends-trans}
use Rattle.std.proofs.lemmas.List.{length-append}
use Rattle.std.proofs.lemmas.Result.{on_err_weaker}
use Rattle.flow_changes.proofs.compare.write_both.Goals as goal

pub returns-in-Ok-clause-err : goal.returns-in-Ok-clause-err
returns-in-Ok-clause-err g c =
    let first = c.args.first.now in
    on_err_weaker c.write_whole-in-Ok.result
    (λ w. (
      first ++ w.0,
      w.1,
      ap (λ t. first ++ t) w.2 ∙ sym (append_assoc first w.0 w.1),
      Appends-trans (g.W.Write.contents c.args.writer.now) (g.W.Write.contents c.write_whole.new.writer) (g.W.Write.contents c.write_whole-in-Ok.new.writer) first w.0 c.in-Ok.ensures.ok w.3,
      w.4,
    ))
    c.write_whole-in-Ok.ensures.err

pub returns-in-Err-clause-err : goal.returns-in-Err-clause-err
returns-in-Err-clause-err g c =
    let second = c.args.second.now in
    let w = c.in-Err.ensures.err in (
      w.0,
      w.1 ++ second,
      ap (λ t. t ++ second) w.2 ∙ append_assoc w.0 w.1 second,
      w.3,
      omega (arith, w.4, length-append w.1 second),
    )
