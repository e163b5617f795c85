use Rattle.meter_theory.proofs.InnerClock.{capture-looks, schedule-looks, cells-stay, clock-left}
use Rattle.meter_theory.proofs.laws.moments_are_looked_at.Goals as goal

pub returns-clause-capture : goal.returns-clause-capture
returns-clause-capture c = λ P s t n none is moment. capture-looks P s t n none is moment

pub returns-clause-schedule : goal.returns-clause-schedule
returns-clause-schedule c = λ P s t n none is moment. schedule-looks P s t n none is moment

pub returns-clause-cells : goal.returns-clause-cells
returns-clause-cells c = λ P s t x i. cells-stay P s t x i

pub returns-clause-clock : goal.returns-clause-clock
returns-clause-clock c = λ P s t o is. clock-left P s t o is
