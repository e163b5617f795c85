use Rattle.std.proofs.Common.{◌-◌, ◌++◌, List, drop, length}
use Rattle.verdict.specs.declared.Verdict.{Verdict}
use Rattle.fleet_audit.specs.Audits.{Audits}
use Rattle.fleet_audit.specs.Turns.{every}
use Rattle.fleet_audit.proofs.worker.work.Given as goal

-- with the verdicts on the texts that are left, the worker has those on all its texts
abbrev pub invariant-loop-text : goal.invariant-loop-text
invariant-loop-text g l = (rest : List Verdict) → Audits (every l.workers 0 (drop l.seat l.texts)) rest → Audits (every l.workers l.first l.texts) (l.verdicts.items ++ rest)

abbrev pub decreases-loop-text : goal.decreases-loop-text
decreases-loop-text g l = length l.texts - l.seat
