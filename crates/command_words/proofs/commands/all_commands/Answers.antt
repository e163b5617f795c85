use Rattle.std.proofs.Common.{sym, subst}
use Rattle.clap.specs.Words.{App, with_subcommand}
use Rattle.command_words.specs.CommandLine.{IsCommand, all_names, app_named, bare_program}
use Rattle.command_words.proofs.BuildLemmas.{folded-more, subcommand-added}
use Rattle.command_words.proofs.commands.all_commands.Goals as goal

pub loop-name-preserved : goal.loop-name-preserved
loop-name-preserved c =
    subst (λ (app : App). IsCommand app c.in-Ok-subcommand.more)
    (sym (folded-more with_subcommand bare_program (λ name. (app_named name).top) all_names c.loop-name.name-index _ c.loop-name-test.true))
    (subcommand-added _ _ _ _ _ c.loop-name.invariant
    (subst (λ (app : App). IsCommand app c.in-Ok-command_of.command) c.row_of.ensures c.in-Ok-command_of.ensures) c.in-Ok-subcommand.ensures)
