use Rattle.std.proofs.Common.{◌≡◌, ℕ, List, length, drop, Ok, Result, sym, ap, ◌∙◌, arith}
use Rattle.std.proofs.lemmas.List.{drop_all}
use Rattle.cosem_data.specs.Tree.{Tree}
use Rattle.cosem_data.specs.View.{tree, data_of-tree}
use Rattle.cosem_data.specs.declared.data.Data.{Data}
use Rattle.cosem_axdr.specs.declared.fault.ReadFault.{ReadFault}
use Rattle.cosem_axdr.specs.Reading.{data_at}
use Rattle.object_model.specs.declared.argument.Argument.TheVariants.{Value}
use Rattle.xdlms_services.specs.Reading.{argument_at, argument_from}
use Rattle.xdlms_services.proofs.reading.argument_of.Goals as goal

whole : (bytes : List ℕ) (d : Data) (used : ℕ) → data_at 16 bytes ≡ Ok (tree d, drop used bytes) → used ≡ length bytes → Value d ≡ argument_at bytes
whole bytes d used e u =
    let f = e ∙ ap (λ (rest : List ℕ). let r : Result (Tree × List ℕ) ReadFault = Ok (tree d, rest) in r) (drop_all used bytes (omega arith)) in
    sym (ap argument_from f ∙ ap Value (data_of-tree d))

pub returns-in-Ok-clause-ok : goal.returns-in-Ok-clause-ok
returns-in-Ok-clause-ok c = whole c.args.bytes.now c.in-Ok.value c.in-Ok.used c.in-Ok.ensures.exact c.if-used-bytes.true
