use Rattle.std.proofs.Common.{ap, ◌∙◌}
use Rattle.std.proofs.lemmas.Grind.{merely}
use Rattle.std.specs.Prelude.{Err}
use Rattle.live_server.proofs.sitting.sit.Goals as goal

pub give_up-requires : goal.give_up-requires
give_up-requires g c =
    merely (c.args.number, c.requires, c.converse-ended.ensures (c.in-Err.is ∙ ap Err (c.is_given_up.ensures c.if-is_given_up.true)))
