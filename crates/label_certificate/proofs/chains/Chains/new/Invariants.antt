use Rattle.std.proofs.Common.{◌≡◌, length}
use Rattle.label_certificate.specs.Chains.{AreChained}
use Rattle.label_certificate.proofs.chains.Chains.new.Given as goal

abbrev pub invariant-loop-number : goal.invariant-loop-number
invariant-loop-number l = record {
  chained : AreChained l.arrows l.lasts.items l.earlier.items;
  lasts : length l.lasts.items ≡ l.sets;
  earlier : length l.earlier.items ≡ l.number;
}
