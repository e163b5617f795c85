use Rattle.std.proofs.Common.{◌++◌, List, ℕ, filter, not, ap, sym, ◌∙◌}
use Rattle.std.proofs.lemmas.List.{take_all}
use Rattle.meter_server.proofs.Audits.{is_name, none-put, one-put, said}
use Rattle.meter_server.proofs.auditing.names_with.Goals as goal
use Rattle.meter_server.proofs.auditing.names_with.Goals.{then-not-is_empty+in_ok-push, else-not-is_empty}

pub loop-line-preserved : goal.loop-line-preserved
loop-line-preserved c =
    let front = said c.args.names.now in
    let lines = c.deref-line-items.result.now in
    let old = c.loop-line.all.items in
    elim c.if-not-is_empty.branch [
      | then-not-is_empty+in_ok-push w ↦ one-put front lines c.loop-line.line-index _ c.loop-line-test.true old c.if-not-is_empty.all.items
          (ap (λ v. v.items) w.all-is ∙ w.in_ok-push.ensures.items) (ap not (sym w.if-not-is_empty.ensures)) c.loop-line.invariant
      | else-not-is_empty w ↦ ap (λ v. said v.items) w.all-is
          ∙ none-put front lines c.loop-line.line-index _ c.loop-line-test.true old (ap not (sym w.if-not-is_empty.ensures)) c.loop-line.invariant
    ]

pub returns : goal.returns
returns c =
    c.loop-line.invariant
    ∙ ap (λ (l : List (List ℕ)). said c.args.names.now ++ filter is_name l)
    (ap said (take_all c.loop-line.line-index c.deref-line-items.result.now c.loop-line-test.false ∙ c.deref-line-items.ensures.value) ∙ c.in_ok-listed.ensures)
