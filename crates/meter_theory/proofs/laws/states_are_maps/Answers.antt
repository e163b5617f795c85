use Rattle.meter_theory.proofs.State.{put-itself, put-twice, put-swap, keys-put}
use Rattle.meter_theory.proofs.laws.states_are_maps.Goals as goal

pub returns-clause-itself : goal.returns-clause-itself
returns-clause-itself c = λ s x. put-itself s x

pub returns-clause-twice : goal.returns-clause-twice
returns-clause-twice c = λ s x v w. put-twice s x v w

pub returns-clause-swap : goal.returns-clause-swap
returns-clause-swap c = λ s x y v w h. put-swap s x y v w h

pub returns-clause-cells : goal.returns-clause-cells
returns-clause-cells c = λ s x v. keys-put s x v
