-- What the reader of names keeps.
use Rattle.std.specs.Prelude.{ℕ, Bool, List}
use Rattle.cosem_data.specs.declared.clients.ClientSet.{ClientSet}
use Rattle.meter_theory.specs.Labels.{nobody}
use Rattle.label_certificate.specs.Members.{with_clients, rise_from}

-- the set of the clients at these places, and whether the places rise (own profile)
abbrev pub set_of : List ℕ → ClientSet × Bool
set_of places = (with_clients nobody places, rise_from 0 places)
