use Rattle.std.proofs.Common.{◌≡◌, true, false, eqb, Some, None, refl, sym, ◌∙◌, rules, tests}
use Rattle.acse_session.specs.Answering.{not_allowed}
use Rattle.acse_association.specs.Answers.{rlre_bytes}
use Rattle.acse_session.proofs.OneTurn.{after_says, steps-open, steps-outside, steps-elsewhere, steps-release, turn-inside}
use Rattle.acse_session.proofs.turning.turn.Goals as goal

pub returns-then-is_aarq-clause-ok : goal.returns-then-is_aarq-clause-ok
returns-then-is_aarq-clause-ok g c =
    after_says g.A.Asker.answers c.args.asker.now c.args.asker.now c.args.plan.now c.args.association c.args.transfer c.args.source c.args.apdu.now None c.opening.result _ _ _ c.opening.ensures.association c.opening.ensures.transfer c.opening.ensures.answer refl
    (steps-open c.args.plan.now c.args.association c.args.transfer _ (sym c.is_aarq.ensures ∙ c.if-is_aarq.true) refl refl)

pub returns-in_default-clause-ok : goal.returns-in_default-clause-ok
returns-in_default-clause-ok g c =
    rw c.in_default.is
    (after_says g.A.Asker.answers c.args.asker.now c.args.asker.now c.args.plan.now None c.args.transfer c.args.source c.args.apdu.now None c.outside.result None None not_allowed c.outside.ensures.association c.outside.ensures.transfer c.outside.ensures.answer refl
    (steps-outside c.args.plan.now c.args.transfer _ (sym c.is_aarq.ensures ∙ c.if-is_aarq.false) refl refl))

pub returns-then-a-source-clause-ok : goal.returns-then-a-source-clause-ok
returns-then-a-source-clause-ok g c =
    let other : eqb c.args.source c.in-Some.a.source ≡ false = search (rules, tests) in
    rw c.in-Some.is
    (after_says g.A.Asker.answers c.args.asker.now c.args.asker.now c.args.plan.now (Some c.in-Some.a) c.args.transfer c.args.source c.args.apdu.now None c.outside-then-a-source.result (Some c.in-Some.a) c.args.transfer not_allowed c.outside-then-a-source.ensures.association c.outside-then-a-source.ensures.transfer c.outside-then-a-source.ensures.answer refl
    (steps-elsewhere c.args.plan.now c.in-Some.a c.args.transfer _ (sym c.is_aarq.ensures ∙ c.if-is_aarq.false) other refl refl))

pub returns-then-is_rlrq-clause-ok : goal.returns-then-is_rlrq-clause-ok
returns-then-is_rlrq-clause-ok g c =
    let here : eqb c.args.source c.in-Some.a.source ≡ true = search (rules, tests) in
    rw c.in-Some.is
    (after_says g.A.Asker.answers c.args.asker.now c.args.asker.now c.args.plan.now (Some c.in-Some.a) c.args.transfer c.args.source c.args.apdu.now None c.release.result None None rlre_bytes c.release.ensures.association c.release.ensures.transfer c.release.ensures.answer refl
    (steps-release c.args.plan.now c.in-Some.a c.args.transfer _ (sym c.is_aarq.ensures ∙ c.if-is_aarq.false) here (sym c.is_rlrq.ensures ∙ c.if-is_rlrq.true) refl refl))

pub returns-clause-ok : goal.returns-clause-ok
returns-clause-ok g c =
    let here : c.args.source ≡ c.in-Some.a.source = search (rules, tests) in
    rw c.in-Some.is
    (turn-inside g.A.Asker.answers c.args.asker.now c.inside.new.asker c.args.plan.now c.in-Some.a c.args.transfer c.args.source c.args.apdu.now c.inside.result
    (sym c.is_aarq.ensures ∙ c.if-is_aarq.false) here (sym c.is_rlrq.ensures ∙ c.if-is_rlrq.false) c.inside.ensures.ok c.inside.ensures.association)
