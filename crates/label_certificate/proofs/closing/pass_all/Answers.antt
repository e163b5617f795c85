use Rattle.std.proofs.Common.{◌≡◌, ◌<◌, ◌∙◌, ap, length, sym, subst}
use Rattle.object_model.proofs.Positions.{in-at}
use Rattle.label_certificate.specs.declared.arrows.Arrow.{Arrow}
use Rattle.label_certificate.specs.Chains.{IsLast}
use Rattle.label_certificate.specs.Closing.{arrow_at}
use Rattle.label_certificate.proofs.Passing.{IsPassing}
use Rattle.label_certificate.proofs.Settled.{passing-grown, passing-still}
use Rattle.label_certificate.proofs.closing.pass_all.Goals as goal
use Rattle.label_certificate.proofs.closing.pass_all.Goals.{then-pass+in_ok-add, else-pass}

pub pass-requires-clause-to : goal.pass-requires-clause-to
pass-requires-clause-to c =
    let i = c.in-Some.number in
    let so_far = subst (IsPassing c.args.arrows.now c.args.from c.args.sets.now c.loop-next.sets c.args.waiting.now c.loop-next.waiting) c.in-Some.is c.loop-next.invariant in
    subst (λ n. c.at-to.result.to < n) (sym c.loop-next.auto.sets)
    (subst (λ (a : Arrow). a.to < length c.args.sets.now) (sym c.at-to.ensures)
    (c.requires.arrows (arrow_at c.args.arrows.now i) (in-at c.args.arrows.now i (record { from = 0; to = 0 }) so_far.there.0)).1)

pub add-requires : goal.add-requires
add-requires c =
    let i = c.in-Some.number in
    let so_far = subst (IsPassing c.args.arrows.now c.args.from c.args.sets.now c.loop-next.sets c.args.waiting.now c.loop-next.waiting) c.in-Some.is c.loop-next.invariant in
    subst (λ n. c.at-to.result.to < n) (sym (so_far.bound ∙ c.requires.bound))
    (subst (λ (a : Arrow). a.to < length c.args.sets.now) (sym c.at-to.ensures)
    (c.requires.arrows (arrow_at c.args.arrows.now i) (in-at c.args.arrows.now i (record { from = 0; to = 0 }) so_far.there.0)).1)

pub loop-next-preserved : goal.loop-next-preserved
loop-next-preserved c =
    let xs = c.args.arrows.now in
    let from = c.args.from in
    let i = c.in-Some.number in
    let to = c.at-to.result.to in
    let to-is : to ≡ (arrow_at xs i).to = ap (λ (a : Arrow). a.to) c.at-to.ensures in
    let old = c.args.sets.now in
    let sets = c.loop-next.sets in
    let new = c.pass.new.sets in
    let before = c.args.waiting.now in
    let w = c.loop-next.waiting in
    let next = c.before-next.result in
    let so_far = subst (IsPassing xs from old sets before w) c.in-Some.is c.loop-next.invariant in
    let low : i < length c.args.chains.now.earlier.items = subst (λ n. i < n) (sym c.requires.earlier) so_far.there.0 in
    let last : IsLast xs (arrow_at xs i).from i next = subst (IsLast xs (arrow_at xs i).from i) (sym c.before-next.ensures) (c.requires.chained.of_arrows i low) in
    elim c.if-pass.branch [
      | then-pass+in_ok-add w' ↦ subst (λ v. IsPassing xs from old new before v next) (sym w'.waiting-is)
          (passing-grown xs from i to old sets new before w w'.add.new.self next so_far to-is last c.pass.ensures.above c.pass.ensures.least c.pass.ensures.passed c.pass.ensures.others
          (c.pass.ensures.grown w'.if-pass.true) w'.in_ok-add.ensures)
      | else-pass w' ↦ subst (λ v. IsPassing xs from old new before v next) (sym w'.waiting-is)
          (passing-still xs from i to old sets new before w next so_far to-is last c.pass.ensures.passed (c.pass.ensures.still w'.if-pass.false))
    ]
