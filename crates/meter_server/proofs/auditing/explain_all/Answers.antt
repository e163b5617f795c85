use Rattle.std.proofs.Common.{inr, map, refl}
use Rattle.meter_server.specs.Auditing.{ExplainsAll, ExplainsOne}
use Rattle.meter_server.specs.Remarks.{told_of}
use Rattle.meter_server.proofs.Told.{ends-cut, goes-on}
use Rattle.meter_server.proofs.auditing.explain_all.Goals as goal

pub returns-then-told : goal.returns-then-told
returns-then-told c =
    ends-cut (ExplainsAll (map (λ name. name.now) c.args.names.now) c.args.texts.now c.args.verdicts.now)
    (ExplainsAll (map (λ name. name.now) c.loop-one.left.names.now) c.loop-one.left.texts.now c.loop-one.left.verdicts.now)
    (ExplainsOne c.in-Some.one.name.now c.in-Some.one.verdict.now)
    (map (λ name. name.now) c.in-Some.behind.names.now) c.in-Some.behind.texts.now c.in-Some.behind.verdicts.now
    c.in-Some.ensures.some (told_of c.loop-one.told) c.loop-one.invariant.1
    (told_of c.explain_one-here.result) (told_of c.with-told.result) c.explain_one-here.ensures (inr refl) c.with-told.ensures c.if-told.true

pub loop-one-preserved : goal.loop-one-preserved
loop-one-preserved c = (
  c.if-told.false,
  goes-on (ExplainsAll (map (λ name. name.now) c.args.names.now) c.args.texts.now c.args.verdicts.now)
      (ExplainsAll (map (λ name. name.now) c.loop-one.left.names.now) c.loop-one.left.texts.now c.loop-one.left.verdicts.now)
      (ExplainsOne c.in-Some.one.name.now c.in-Some.one.verdict.now)
      (map (λ name. name.now) c.in-Some.behind.names.now) c.in-Some.behind.texts.now c.in-Some.behind.verdicts.now
      c.in-Some.ensures.some (told_of c.loop-one.told) c.loop-one.invariant.1
      (told_of c.explain_one-here.result) (told_of c.with-told.result) c.explain_one-here.ensures c.with-told.ensures c.if-told.false,
)
