use Rattle.std.proofs.Common.{Ok, ap}
use Rattle.cosem_data.specs.Digits.{name_at}
use Rattle.cosem_data.proofs.Decimals.{is_found, text_gives, one_name, no_name}
use Rattle.cosem_data.proofs.name.LogicalName.read_bytes.Goals as goal

pub returns-in-Some-clause-found : goal.returns-in-Some-clause-found
returns-in-Some-clause-found c = is_found c.args.text.now c.in-Some.name c.in-Some.ensures

pub returns-in-Some-clause-only : goal.returns-in-Some-clause-only
returns-in-Some-clause-only c = λ name fits len e.
    ap Ok (one_name c.in-Some.name name (name_at c.args.text.now) c.in-Some.ensures (text_gives c.args.text.now name fits len e))

pub returns-in-None-clause-only : goal.returns-in-None-clause-only
returns-in-None-clause-only c = λ name fits len e.
    no_name name.0 (name_at c.args.text.now) c.in-None.ensures (text_gives c.args.text.now name fits len e)
