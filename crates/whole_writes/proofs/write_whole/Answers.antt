use Rattle.std.proofs.Common.{◌++◌, List, ℕ, take, drop, sym, ap, ◌∙◌, append_assoc}
use Rattle.std.proofs.lemmas.List.{take_rest, take-append-drop}
use Rattle.std.proofs.KnownBytes.{Appends-trans}
use Rattle.whole_writes.proofs.write_whole.Goals as goal

pub loop-rest-preserved : goal.loop-rest-preserved
loop-rest-preserved g c =
    let rest = c.loop-rest.rest.now in
    let n = c.in-Ok.count in
    let front = c.loop-rest.invariant.0 in (
      front ++ take n rest,
      c.loop-rest.invariant.1 ∙ ap (λ (t : List ℕ). front ++ t) (sym (take-append-drop n rest)) ∙ sym (append_assoc front (take n rest) (drop n rest)) ∙ ap (λ (t : List ℕ). (front ++ take n rest) ++ t) (sym (take_rest rest n)),
      Appends-trans (g.W.Write.contents c.args.writer.now) (g.W.Write.contents c.loop-rest.writer) (g.W.Write.contents c.write.new.self) front (take n rest) c.loop-rest.invariant.2 c.in-Ok.ensures.bytes,
    )
