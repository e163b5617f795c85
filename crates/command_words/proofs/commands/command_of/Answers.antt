use Rattle.std.proofs.Common.{List, fold, map, sym, subst}
use Rattle.std.proofs.lemmas.List.{take_all}
use Rattle.clap.specs.Words.{App, new_app, with_rule}
use Rattle.command_words.specs.CommandLine.{IsCommand}
use Rattle.command_words.specs.Rows.{rule_of_row}
use Rattle.command_words.specs.declared.arguments.ArgumentRow.{ArgumentRow}
use Rattle.command_words.proofs.BuildLemmas.{arg-added, folded-more}
use Rattle.command_words.proofs.commands.command_of.Goals as goal

pub loop-argument-preserved : goal.loop-argument-preserved
loop-argument-preserved c =
    subst (λ (app : App). IsCommand app c.in-Ok.more)
    (sym (folded-more with_rule (new_app c.args.row.now.word.now) rule_of_row c.args.row.now.arguments.now c.loop-argument.argument-index _ c.loop-argument-test.true))
    (arg-added _ _ _ _ _ c.loop-argument.invariant c.arg_of.ensures c.in-Ok.ensures)

pub returns : goal.returns
returns c =
    subst (λ (rows : List ArgumentRow). IsCommand (fold with_rule (new_app c.args.row.now.word.now) (map rule_of_row rows)) c.loop-argument.command)
    (take_all c.loop-argument.argument-index c.args.row.now.arguments.now c.loop-argument-test.false)
    c.loop-argument.invariant
