use Rattle.meter_effects.proofs.Accepted.{put-accepted, remember-operation, capture-accepted, clear-accepted, reset-operation}
use Rattle.meter_effects.proofs.laws.effects_are_operations.Goals as goal

pub returns-clause-put : goal.returns-clause-put
returns-clause-put c = λ P.
    put-accepted P c.puts_are_writes.ensures c.puts_are_writes-2.ensures c.puts_are_writes-3.ensures c.puts_are_writes-4.ensures c.puts_are_writes-5.ensures c.puts_are_writes-6.ensures

pub returns-clause-remember : goal.returns-clause-remember
returns-clause-remember c = λ P o x v is. remember-operation P o.name o.part x v is

pub returns-clause-capture : goal.returns-clause-capture
returns-clause-capture c = capture-accepted

pub returns-clause-clear : goal.returns-clause-clear
returns-clause-clear c = clear-accepted

pub returns-clause-reset : goal.returns-clause-reset
returns-clause-reset c = reset-operation
