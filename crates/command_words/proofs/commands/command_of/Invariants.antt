use Rattle.std.proofs.Common.{fold, map, take}
use Rattle.clap.specs.Words.{new_app, with_rule}
use Rattle.command_words.specs.CommandLine.{IsCommand}
use Rattle.command_words.specs.Rows.{rule_of_row}
use Rattle.command_words.proofs.commands.command_of.Given as goal

-- the arguments before are added
abbrev pub invariant-loop-argument : goal.invariant-loop-argument
invariant-loop-argument l = IsCommand (fold with_rule (new_app l.row.word.now) (map rule_of_row (take l.argument-index l.row.arguments.now))) l.command
