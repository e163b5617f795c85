use Rattle.std.proofs.Common.{fold, map, take}
use Rattle.clap.specs.Words.{with_subcommand}
use Rattle.command_words.specs.CommandLine.{IsCommand, all_names, app_named, bare_program}
use Rattle.command_words.proofs.commands.all_commands.Given as goal

-- the commands before are added
abbrev pub invariant-loop-name : goal.invariant-loop-name
invariant-loop-name l = IsCommand (fold with_subcommand bare_program (map (λ name. (app_named name).top) (take l.name-index all_names))) l.app
