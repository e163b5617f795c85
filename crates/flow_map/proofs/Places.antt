-- What is known of the places of list elements, for who tells of a plan by numbers.
use Rattle.std.specs.Prelude.{◌≡◌, ◌<◌, ◌≤◌, ◌+◌, ◌*◌, ℕ, Bool, true, false, List, Some, None, get_or, length}
use Rattle.std.specs.List.{position_from}
use Rattle.meter_theory.specs.Lists.{IsIn}
use Rattle.meter_theory.specs.Plan.{Plan, cells}
use Rattle.meter_theory.specs.Sound.{IsSound}
use Rattle.meter_theory.specs.declared.limits.TheConstants.{OBJECTS}
use Rattle.object_model.proofs.Numbers as numbers
use Rattle.object_model.proofs.Positions as positions
use Rattle.object_model.proofs.Puts as puts

-- an element at a place is of the list
pub in-at : {A : Type 0} (xs : List A) (k : ℕ) (d : A) → k < length xs → IsIn xs (get_or xs k d)
in-at xs k d h = positions.in-at xs k d h

pub item-in : {A : Type 0} (xs : List A) (k : ℕ) (x : A) → k < length xs → x ≡ get_or xs k x → IsIn xs x
item-in xs k x h is = positions.item-in xs k x h is

-- a place before which no test passes is the first, or there is none
pub is-first : {A : Type 0} (test : A → Bool) (xs : List A) (k : ℕ) (d : A) → k < length xs → ((j : ℕ) → j < k → test (get_or xs j d) ≡ false) → test (get_or xs k d) ≡ true →
    Some k ≡ position_from test 0 xs
is-first test xs k d within before here = positions.is-first test xs k d within before here

pub is-nowhere : {A : Type 0} (test : A → Bool) (xs : List A) (d : A) → ((j : ℕ) → j < length xs → test (get_or xs j d) ≡ false) → None ≡ position_from test 0 xs
is-nowhere test xs d none = positions.is-nowhere test xs d none

-- a place that is found lies in the list
pub position-within : {A : Type 0} (test : A → Bool) (i : ℕ) (xs : List A) (k : ℕ) → Some k ≡ position_from test i xs → k < i + length xs
position-within test i xs k e = puts.position-within test i xs k e

-- a plan has few cells
pub cells-few : (P : Plan) → IsSound P → length (cells P) ≤ 4 * OBJECTS
cells-few P sound = numbers.cells-few P sound
