-- Clients that a walk lets influence cells.
use Rattle.std.specs.Prelude.{◌≡◌, ◌||◌, ℕ, List, length, set}
use Rattle.cosem_data.specs.declared.clients.ClientSet.{ClientSet}
use Rattle.meter_theory.specs.declared.flow.Label.{Label}
use Rattle.meter_theory.specs.Labels.{has}
use Rattle.meter_theory.specs.Plan.{Plan, cells}
use Rattle.meter_theory.specs.Steps.{Effect, changed_by}
use Rattle.label_certificate.specs.Granted.{AreJoined, by_clients, label_in}
use Rattle.label_certificate.specs.declared.joining.Joining.{Joining}

-- the label with this number has the clients more among those that influence its cell, and nothing else was changed: own profile
pub record IsLet (clients : ClientSet) (number : ℕ) (old new : List Label) : Type 0 where
  pub label : Label
  pub there : new ≡ set old number label
  pub influence : (c : ℕ) → has label.influence c ≡ (has (label_in old number).influence c || has clients c)
  pub learn : label.learn ≡ (label_in old number).learn

-- where each cell of the plan has a label, the clients may influence those that the effect changes; they and where the labels stand stay: own profile
pub record JoinsMore (P : Plan) (old : Joining) (effect : Effect) (new : Joining) : Type 0 where
  pub clients : new.clients ≡ old.clients
  pub same_reference : new.labels.ghost_name ≡ old.labels.ghost_name
  pub size : length new.labels.now ≡ length old.labels.now
  pub labels : length old.labels.now ≡ length (cells P) → AreJoined P (by_clients old.clients (changed_by effect)) old.labels.now new.labels.now
