use Rattle.std.proofs.Common.{rules, ◌≡◌, ◌++◌, List, ℕ, Err, subst, sym}
use Rattle.std.specs.Prelude.{Result}
use Rattle.whole_writes.specs.declared.WriteFailed.{WriteFailed}
use Rattle.meter_server.specs.Remarks.{WritesError, ending_of, told_of, told_text}
use Rattle.meter_server.proofs.Written.{cut-before, written}
use Rattle.meter_server.proofs.remarks.Remarks.write.Goals as goal

pub returns-in_err-write_whole : goal.returns-in_err-write_whole
returns-in_err-write_whole g c =
    let is : c.from_residual.result ≡ Err c.in_err-write_whole.field-0.0 = search rules in
    let ending = ending_of c.args.self.now.is_cut in
    let before = g.E.Write.contents c.args.errors.now in
    let after = g.E.Write.contents c.write_whole.new.writer in
    let cut = cut-before c.as_bytes.result.now ending before after c.in_err-write_whole.ensures.err in
    subst (λ (r : Result (Unit {0}) WriteFailed). WritesError (told_text (told_of c.args.self.now)) before after r) (sym is)
    (subst (λ (l : List ℕ). WritesError (l ++ ending) before after (Err c.in_err-write_whole.field-0.0)) c.as_bytes.ensures.value cut)

pub returns : goal.returns
returns g c =
    let before = g.E.Write.contents c.args.errors.now in
    let between = g.E.Write.contents c.write_whole.new.writer in
    let after = g.E.Write.contents c.write_whole-2.new.writer in
    let lines = c.as_bytes.result.now in
    rw (sym c.as_bytes.ensures.value, sym c.ending.ensures, sym c.as_bytes-2.ensures.value)
    (written lines c.as_bytes-2.result.now before between after c.write_whole-2.result c.in_ok-write_whole.ensures.ok c.write_whole-2.ensures.ok c.write_whole-2.ensures.err)
