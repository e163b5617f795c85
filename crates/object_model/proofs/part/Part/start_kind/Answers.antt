use Rattle.std.proofs.Common.{◌∙◌, ap, sym}
use Rattle.cosem_data.specs.Kinds.{kind_of}
use Rattle.meter_theory.specs.Plan.{start_of}
use Rattle.meter_theory.specs.State.{value}
use Rattle.object_model.specs.PartView.{part_of}
use Rattle.object_model.proofs.part.Part.start_kind.Goals as goal

pub returns-in-ScriptTable : goal.returns-in-ScriptTable
returns-in-ScriptTable c =
    c.start_kind-in-ScriptTable.ensures c.args.name ∙ sym (ap (λ part. kind_of (value (start_of c.args.name (part_of part)) c.args.cell.now)) c.in-ScriptTable.is)
