use Rattle.std.proofs.Common.{arith}
use Rattle.object_model.proofs.Worths.{all-bytes}
use Rattle.object_model.proofs.index.know_bytes.Goals as goal

pub returns : goal.returns
returns c = all-bytes c.args._bytes.now (λ i. omega (arith, c.type_inv._bytes i))
