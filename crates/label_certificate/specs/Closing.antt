-- Sets of clients that flow along arrows.
use Rattle.std.specs.Prelude.{◌≡◌, ℕ, ◌+◌, ◌<◌, ◌⊎◌, true, cond, List, [], ◌∷◌, length, get_or}
use Rattle.std.specs.List.{range_with_len}
use Rattle.cosem_data.specs.declared.clients.ClientSet.{ClientSet}
use Rattle.cosem_data.specs.Clients.{has_client}
use Rattle.meter_theory.specs.Lists.{IsIn}
use Rattle.meter_theory.specs.Labels.{nobody}
use Rattle.meter_theory.specs.declared.limits.TheConstants as limits
use Rattle.label_certificate.specs.declared.arrows.Arrow.{Arrow}

-- each client of the one is in the other: own profile
abbrev pub IsSub : ClientSet → ClientSet → Type 0
IsSub a b = (c : ℕ) → has_client a c ≡ true → has_client b c ≡ true

-- the set with this number, nobody past the last: own profile
abbrev pub set_at : List ClientSet → ℕ → ClientSet
set_at sets i = get_or sets i nobody

-- each set is within that with its number: own profile
abbrev pub Below : List ClientSet → List ClientSet → Type 0
Below xs ys = (k : ℕ) → IsSub (set_at xs k) (set_at ys k)

-- the arrows are between the first n numbers: own profile
abbrev pub AreArrows : ℕ → List Arrow → Type 0
AreArrows n arrows = (a : Arrow) → IsIn arrows a → (a.from < n) × (a.to < n)

-- no client is lost along an arrow: own profile
abbrev pub IsClosedBy : List Arrow → List ClientSet → Type 0
IsClosedBy arrows sets = (a : Arrow) → IsIn arrows a → IsSub (set_at sets a.from) (set_at sets a.to)

-- the arrow with this number: own profile
abbrev pub arrow_at : List Arrow → ℕ → Arrow
arrow_at arrows i = get_or arrows i (record { from = 0; to = 0 })

-- no client is lost along an arrow, but from sets that wait: own profile
abbrev pub IsClosedBut : List ℕ → List Arrow → List ClientSet → Type 0
IsClosedBut waiting arrows sets = (i : ℕ) → i < length arrows →
    IsIn waiting (arrow_at arrows i).from ⊎ IsSub (set_at sets (arrow_at arrows i).from) (set_at sets (arrow_at arrows i).to)

-- how many of these a set lacks: own profile
abbrev pub lacking : ClientSet → List ℕ → ℕ
lacking s [] = 0
lacking s (c ∷ cs) = cond (has_client s c) 0 1 + lacking s cs

-- how many of the clients that a set has places for the sets lack in all: own profile
unfoldable pub missing : List ClientSet → ℕ
missing [] = 0
missing (s ∷ ss) = lacking s (range_with_len 0 limits.CLIENTS) + missing ss
