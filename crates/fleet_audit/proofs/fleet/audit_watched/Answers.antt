use Rattle.std.proofs.Common.{◌≡◌, ℕ, ◌+◌, ◌<◌, List, length, map, get_or, sym, subst, arith, Result, IfOk, MatchResult, Vec, Global}
use Rattle.fleet_audit.specs.declared.fault.AuditFault.{AuditFault}
use Rattle.fleet_audit.specs.declared.fault.AuditFault.TheVariants.{Memory}
use Rattle.fleet_audit.specs.declared.text.Text.{Text}
use Rattle.verdict.specs.declared.Verdict.{Verdict}
use Rattle.fleet_audit.specs.Audits.{Audits, IsVerdictOf}
use Rattle.fleet_audit.specs.Giving.{IsFaultAt}
use Rattle.fleet_audit.specs.Turns.{every, turns}
use Rattle.fleet_audit.proofs.Dealt.{Shared, shared, taken, ok-then, err-then, ok-part}
use Rattle.fleet_audit.proofs.fleet.audit_watched.Goals as goal

-- what a worker gives of the texts that it was lent
lent_share : (step number : ℕ) (texts : List Text) (Q : AuditFault → Type 0) (share : Result (Vec Verdict Global) AuditFault) → MatchResult share (λ v. Audits (every step number texts) v.items) Q → IfOk share (λ v. Audits (every step (0 + number) texts) v.items)
lent_share step number texts Q share h =
    let place : number ≡ 0 + number = omega arith in
    let value = ok-part (λ v. Audits (every step number texts) v.items) Q share h in
    subst (λ (n : ℕ). IfOk share (λ v. Audits (every step n texts) v.items)) place value

-- want of memory says nothing of the gate
memory_only : (may_give_up : ℕ → Type 0) (seats : ℕ) (fault : AuditFault) → fault ≡ Memory → IsFaultAt may_give_up seats fault
memory_only may_give_up seats fault is = subst (λ (f : AuditFault). IsFaultAt may_give_up seats f) (sym is) tt

pub returns-clause-fault : goal.returns-clause-fault
returns-clause-fault g c =
    err-then (λ fault. fault ≡ Memory) (IsFaultAt (g.G.Gate.may_give_up c.args.gate.now) (length c.args.texts.now)) c.in_turn.result c.in_turn.ensures.fault
    (memory_only (g.G.Gate.may_give_up c.args.gate.now) (length c.args.texts.now))

pub returns-clause-verdicts : goal.returns-clause-verdicts
returns-clause-verdicts g c =
    let texts = c.args.texts.now in
    let step = c.min-workers.result in
    let lists = c.in_ok-all_done.field-0.items in
    let count : length c.in-Ok.shares.items ≡ step = omega (arith, c.in-Ok.ensures.len, c.in-Ok.shares.ok.0) in
    let each : (i : ℕ) (d : Result (Vec Verdict Global) AuditFault) → i < length c.in-Ok.shares.items → IfOk (get_or c.in-Ok.shares.items i d) (λ v. Audits (every step (0 + i) texts) v.items) = λ i d within.
    lent_share step i texts (IsFaultAt (g.G.Gate.may_give_up c.args.gate.now) (length texts)) (get_or c.in-Ok.shares.items i d) (c.in-Ok.ensures.each i d (omega arith)).1.met in
    let all : Shared IsVerdictOf step 0 texts (map (λ list. list.items) lists) =
    shared IsVerdictOf (λ verdicts. verdicts.items) (λ list. list.items) step 0 texts c.in-Ok.shares.items lists (omega arith) each c.in_ok-all_done.ensures.lists in
    let some : 0 < length texts → 0 < step = omega (arith, c.min-workers.ensures, c.get.ensures.value, c.args.workers.ok) in
    ok-then (λ verdicts. verdicts.items ≡ turns (length texts) (map (λ list. list.items) lists)) (λ verdicts. Audits texts verdicts.items) c.in_turn.result c.in_turn.ensures.verdicts
    (λ verdicts is. rw is (taken IsVerdictOf step texts (map (λ list. list.items) lists) some all))
