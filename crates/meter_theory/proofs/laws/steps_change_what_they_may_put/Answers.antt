use Rattle.meter_theory.specs.States.{IsState}
use Rattle.meter_theory.specs.Safety.{HasCells}
use Rattle.meter_theory.proofs.Noticed.{put_where, unnoticed, told_notice, notice_told}
use Rattle.meter_theory.proofs.laws.steps_change_what_they_may_put.Goals as goal

pub returns-clause-changed : goal.returns-clause-changed
returns-clause-changed c = λ P s step x laws differs. put_where P laws s step x differs

pub returns-clause-quiet : goal.returns-clause-quiet
returns-clause-quiet c = λ P Q who step laws none.
    (unnoticed P laws (HasCells P) Q who step none, unnoticed P laws (IsState P) Q who step none)

pub returns-clause-told : goal.returns-clause-told
returns-clause-told c = λ P Q who step. (told_notice P Q who step, notice_told P Q who step)
