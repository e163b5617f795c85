use Rattle.std.proofs.Common.{◌≡◌, ◌∙◌, Option, sym, subst}
use Rattle.std.specs.Prelude.{IfOk}
use Rattle.cosem_data.specs.View.{tree}
use Rattle.xdlms_services.specs.Blocks.{Transfer}
use Rattle.acse_session.proofs.Sending.{first-begun}
use Rattle.acse_session.proofs.turning.value_answer.Goals as goal

pub returns-then-takes_blocks-clause-transfer : goal.returns-then-takes_blocks-clause-transfer
returns-then-takes_blocks-clause-transfer c =
    subst (λ (t : Option Transfer). IfOk c.first_block.result (λ after. after.transfer ≡ t))
    (first-begun c.args.a (tree c.args.value.now) (sym c.is_short.ensures ∙ c.if-is_short.false) (sym c.takes_blocks.ensures ∙ c.if-takes_blocks.true))
    c.first_block.ensures.transfer
