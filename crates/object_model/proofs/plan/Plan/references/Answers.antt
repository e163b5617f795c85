use Rattle.std.proofs.Common.{subst}
use Rattle.std.specs.Prelude.{slice_get, IfSome}
use Rattle.cosem_class.specs.Parts.{references}
use Rattle.object_model.specs.Tables.{AreNumbers}
use Rattle.object_model.proofs.Columns.{numbers-of}
use Rattle.object_model.proofs.plan.Plan.references.Goals as goal

pub returns : goal.returns
returns c =
    subst (λ P. IfSome (slice_get P.objects c.args.object) (λ o. AreNumbers P (references o.part) c.of.result.now)) c.self.view_is
    (numbers-of (record { version = c.self.inside.version; clients = c.self.inside.clients.items; objects = c.self.inside.objects.items; rights = c.self.inside.rights.items }) c.self.inside.index c.self.inside.references c.args.object c.of.result.now c.self.invariant.named c.self.invariant.referred c.of.ensures)
