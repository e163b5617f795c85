use Rattle.std.proofs.Common.{◌+◌, List, Result, Ok, Err, OnErr, sym, ◌∙◌, subst, take}
use Rattle.std.specs.List.{filter_map}
use Rattle.meter_theory.specs.Plan.{Object}
use Rattle.line_server.specs.Doing.{StopsBehind, TakesAll}
use Rattle.meter_core.specs.Moments.{offered}
use Rattle.line_server.proofs.Doing.{none-offered, offered-more, offered-stops}
use Rattle.line_server.proofs.driving.take_driven.Goals as goal
use Rattle.line_server.proofs.driving.take_driven.Goals.{then-is_offered+in_ok-take_offered, else-is_offered}

pub loop-object-preserved : goal.loop-object-preserved
loop-object-preserved g c = record {
  taken = elim c.if-is_offered.branch [
    | then-is_offered+in_ok-take_offered w ↦
        subst (TakesAll g.A.Asker.answers c.args.asker.now (filter_map offered (take (c.loop-object.object-index + 1) c.objects-object-items.result.now))) (sym w.asker-is)
        (offered-more g.A.Asker.answers c.args.asker.now c.loop-object.asker w.take_offered.new.asker c.objects-object-items.result.now c.loop-object.object-index c.object-item.result
        c.loop-object-test.true c.object-item.is c.loop-object.invariant.taken w.in_ok-take_offered.ensures.taken)
    | else-is_offered w ↦
        subst (TakesAll g.A.Asker.answers c.args.asker.now (filter_map offered (take (c.loop-object.object-index + 1) c.objects-object-items.result.now))) (sym w.asker-is)
        (none-offered g.A.Asker.answers c.args.asker.now c.loop-object.asker c.objects-object-items.result.now c.loop-object.object-index c.object-item.result
        c.loop-object-test.true c.object-item.is c.loop-object.invariant.taken (sym c.is_offered.ensures ∙ w.if-is_offered.false))
  ];
}

on_err : {A E P : Type 0} (r : Result A E) → P → OnErr r P
on_err (Ok x) p = tt
on_err (Err e) p = p

pub returns-in_err-take_offered-clause-err : goal.returns-in_err-take_offered-clause-err
returns-in_err-take_offered-clause-err g c =
    on_err c.from_residual.result (subst (λ (l : List Object). StopsBehind g.A.Asker.answers c.args.asker.now (filter_map offered l) c.take_offered.new.asker) c.objects-object-items.ensures
    (offered-stops g.A.Asker.answers c.args.asker.now c.loop-object.asker c.take_offered.new.asker c.objects-object-items.result.now c.loop-object.object-index c.object-item.result
    c.loop-object-test.true c.object-item.is c.loop-object.invariant.taken c.in_err-take_offered.ensures.err))
