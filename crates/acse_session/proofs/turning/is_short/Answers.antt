use Rattle.std.proofs.Common.{◌-◌, ◌∙◌, ℕ, ap, length}
use Rattle.std.specs.Prelude.{nat_le}
use Rattle.cosem_data.specs.View.{tree}
use Rattle.cosem_axdr.specs.Canonical.{canonical}
use Rattle.acse_session.proofs.Sending.{within-behind}
use Rattle.acse_session.proofs.turning.is_short.Goals as goal

pub returns : goal.returns
returns c =
    c.is_encoded_within.ensures ∙ ap (λ (n : ℕ). nat_le (length (canonical (tree c.args.value.now))) (n - 4)) c.from.ensures ∙ within-behind c.args.limit (tree c.args.value.now) c.requires
