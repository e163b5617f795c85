use Rattle.std.proofs.Common.{arith}
use Rattle.line_server.proofs.DigitTables.{value_at_digit}
use Rattle.line_server.proofs.digits.value_of.Goals as goal

pub returns : goal.returns
returns c = rw c.from.ensures (value_at_digit c.args.digit (omega arith))
