use Rattle.std.proofs.Common.{◌≡◌, ◌∙◌, Ok, ap, false, map, subst, sym, true}
use Rattle.std.specs.Prelude.{◌++◌}
use Rattle.std.specs.List.{flat_map}
use Rattle.trail_file.specs.Text.{entry_of}
use Rattle.trail_lines.specs.Reading.{says}
use Rattle.trail_store.specs.Past.{IsFirstUnkept, is_kept_line, steps_of_said}
use Rattle.trail_store.proofs.Entries.{each-put, first-unkept, same-number, steps-put}
use Rattle.trail_store.proofs.past.Past.of.Goals as goal

pub returns-then-not-branch-clause-unreadable : goal.returns-then-not-branch-clause-unreadable
returns-then-not-branch-clause-unreadable c n is =
    let P = c.args.plan.now in
    let e = c.index-entries-index.result in
    let unkept : is_kept_line P e.line.items ≡ false = ap (is_kept_line P) (sym c.as_slice.ensures.value) ∙ sym c.in_ok-put_said.ensures.kept ∙ c.if-not-branch.true in
    subst (IsFirstUnkept P (map entry_of c.args.entries.now)) (same-number _ n is)
    (first-unkept P c.args.entries.now c.loop-index.index e c.loop-index-test.true c.index-entries-index.is c.loop-index.invariant.each unkept)

pub loop-index-preserved : goal.loop-index-preserved
loop-index-preserved c =
    let P = c.args.plan.now in
    let e = c.index-entries-index.result in
    let kept : is_kept_line P e.line.items ≡ true = ap (is_kept_line P) (sym c.as_slice.ensures.value) ∙ sym c.in_ok-put_said.ensures.kept ∙ c.if-not-branch.false in
    let before = flat_map steps_of_said c.loop-index.said.items in
    let put : flat_map steps_of_said c.put_said.new.said.items ≡ before ++ says P e.line.items =
    c.put_said.ensures.said (c.in_ok-put_said.was ∙ ap Ok c.if-not-branch.false) ∙ ap (λ l. before ++ says P l) c.as_slice.ensures.value in
    record {
      steps = steps-put P c.args.entries.now c.loop-index.index e c.loop-index-test.true c.index-entries-index.is before _ c.loop-index.invariant.steps put;
      each = each-put P c.args.entries.now c.loop-index.index e c.loop-index-test.true c.index-entries-index.is c.loop-index.invariant.each kept;
    }
