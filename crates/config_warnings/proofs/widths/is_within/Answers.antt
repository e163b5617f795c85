use Rattle.std.specs.Prelude.{◌≡◌, ◌↔◌, Bool, true, false, IsTrue}
use Rattle.std.proofs.Common.{refl, sym}
use Rattle.cosem_data.specs.declared.clients.ClientSet.{ClientSet}
use Rattle.cosem_data.specs.Clients.{IsWithin}
use Rattle.meter_theory.specs.Labels.{within}
use Rattle.meter_theory.proofs.Theorem.{within_from, within_has}
use Rattle.config_warnings.proofs.widths.is_within.Goals as goal

-- the test of sets is the one of the definitions
within-is : (a b : ClientSet) (r : Bool) → (IsTrue r ↔ IsWithin a b) → r ≡ within a b
within-is a b true h = sym (within_from a b (h.0 refl))
within-is a b false h = at (within a b) refl
  where
    at : (w : Bool) → within a b ≡ w → false ≡ w
    at false e = refl
    at true e = h.1 (within_has a b e)

pub returns : goal.returns
returns c = within-is c.args.set c.args.other c.within.result c.within.ensures
