use Rattle.std.proofs.Common.{◌≡◌, ◌∙◌, ◌++◌, ◌∷◌, [], true, ap, sym, subst, arith, rules}
use Rattle.std.specs.Prelude.{replicate}
use Rattle.std.specs.List.{range_with_len}
use Rattle.label_certificate.specs.Waiting.{AreMarked}
use Rattle.label_certificate.proofs.Marked.{marked-all, range-more}
use Rattle.label_certificate.proofs.waiting.Waiting.all.Goals as goal

-- all numbers were pushed
abbrev all : (c : goal.In_ok-marks) → c.loop-number.numbers.items ≡ range_with_len 0 c.args.bound
all c =
    let last : c.loop-number.number ≡ c.args.bound = omega (arith, c.loop-number-test.false, c.loop-number.auto.number-end) in
    c.loop-number.invariant ∙ ap (range_with_len 0) last

pub loop-number-preserved : goal.loop-number-preserved
loop-number-preserved c =
    c.in_ok-push_back.ensures.items ∙ (ap (λ numbers. numbers ++ c.loop-number.number ∷ []) c.loop-number.invariant ∙ range-more c.loop-number.number)

pub invariant_of-result : goal.invariant_of-result
invariant_of-result c =
    let marks : c.in_ok-marks.marks.items ≡ replicate c.args.bound true = search rules in
    subst (λ numbers. AreMarked numbers c.in_ok-marks.marks.items) (sym (all c)) (marked-all c.args.bound c.in_ok-marks.marks.items marks)
