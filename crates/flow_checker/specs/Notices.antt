-- What a client could notice of a step, as the code tells it.
use Rattle.std.specs.Prelude.{◌≡◌, ℕ, Bool, find}
use Rattle.std.specs.Option.{option_or}
use Rattle.cosem_data.specs.declared.cell.CellRef.{CellRef}
use Rattle.meter_theory.specs.Plan.{inner_clock}
use Rattle.meter_theory.specs.Notice as theory
use Rattle.meter_theory.specs.Labels.{labelling_of_policy, may_learn}
use Rattle.meter_theory.specs.Steps.{Effect, changed_by}
use Rattle.flow_checker.specs.Accepted.{Accepted}
use Rattle.flow_checker.specs.declared.looking.Looking.{Looking}
use Rattle.flow_checker.specs.declared.notice.Notice.{Notice}
use Rattle.flow_checker.specs.declared.notice.Notice.TheVariants as told

-- the notice of the theory that a notice is: own profile
abbrev pub notice_of : Notice → theory.Notice
notice_of told.Own = theory.Own
notice_of told.InnerClock = theory.Changed inner_clock
notice_of (told.Cell x) = theory.Changed x

-- whether the client may learn a cell by the policy of an accepted plan: own profile
abbrev pub learns : Accepted → ℕ → CellRef → Bool
learns a client = may_learn (labelling_of_policy a.plan a.policy) client

-- the first cell that the effect changes and the client may learn is found, if none was found before: own profile
pub record LooksOn (old : Looking) (e : Effect) (new : Looking) : Type 0 where
  pub same_plan : new.checked.now ≡ old.checked.now
  pub same_client : new.client ≡ old.client
  pub finds : new.found ≡ option_or old.found (find (learns old.checked.now old.client) (changed_by e))
