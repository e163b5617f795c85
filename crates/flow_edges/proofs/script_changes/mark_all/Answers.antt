use Rattle.std.proofs.Common.{◌≡◌, ◌<◌, ◌∙◌, ap, subst, sym, arith, length, get_or, slice_set, false, true, vec_len, rules}
use Rattle.std.proofs.lemmas.List.{length-set}
use Rattle.object_model.proofs.Positions.{in-at}
use Rattle.flow_edges.proofs.Targets.{marked-more}
use Rattle.flow_edges.proofs.script_changes.mark_all.Goals as goal

pub index_mut-requires : goal.index_mut-requires
index_mut-requires c =
    let xs = c.args.numbers.now in
    let i = c.loop-number.number-index in
    let within = c.requires (get_or xs i 0) (in-at xs i 0 c.loop-number-test.true) in
    let long : vec_len c.loop-number.marks ≡ length c.loop-number.marks.items = search rules in
    omega (arith, c.from.ensures, within, long, c.loop-number.invariant.size)

pub loop-number-preserved : goal.loop-number-preserved
loop-number-preserved c =
    let xs = c.args.numbers.now in
    let i = c.loop-number.number-index in
    let now = c.loop-number.marks.items in
    let within = c.requires (get_or xs i 0) (in-at xs i 0 c.loop-number-test.true) in
    record {
      size = length-set now c.from.result true ∙ c.loop-number.invariant.size;
      marked = λ k h.
          ap (λ n. get_or (slice_set now n true) k false) c.from.ensures
          ∙ marked-more c.args.marks.now.items now xs i k c.loop-number-test.true (subst (λ z. get_or xs i 0 < z) (sym c.loop-number.invariant.size) within) (c.loop-number.invariant.marked k h);
    }
