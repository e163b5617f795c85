use Rattle.std.proofs.Common.{◌≡◌, ◌∙◌, ◌⊎◌, List, map, option_and_then, is_some, sym, ap, subst}
use Rattle.clap.specs.Words.{App, IsAmong, Text, app_of, fault_of, is_simple, is_simple_and_free, kind_of, subcommand_of, subcommand_rows_of}
use Rattle.clap.specs.declared.error.kind.ErrorKind.TheVariants.{OutOfMemory}
use Rattle.command_words.specs.CommandLine.{app, kinds_of}
use Rattle.command_words.specs.Commands.{asked_in}
use Rattle.command_words.proofs.WordsLemmas.{claps-kind, misuse-command, misuse-help, misuse-no_command, misuse-usage, misuse-version, told-help, told-no_command, told-usage, told-version}
use Rattle.command_words.proofs.CommandLaw.{words_without_fault_are_a_command}
use Rattle.command_words.proofs.reading.read_words.Goals as goal

pub command_of_matches-requires : goal.command_of_matches-requires
command_of_matches-requires c =
    let words : List Text = map (λ w. w.now) c.args.words.now in
    let app_is : app_of c.in-Ok.commands ≡ app = c.in-Ok.ensures.0 in
    let m = c.in-Ok-try_get_matches_from in
    let none = ap (λ (a : App). fault_of a words) (sym app_is) ∙ m.ensures.kinds (ap is_simple_and_free app_is) in
    let rows = (m.ensures.matches (ap is_simple app_is)).1 ∙ ap (λ (a : App). subcommand_of a words) app_is in
    ap (λ r. is_some (option_and_then asked_in r)) rows ∙ words_without_fault_are_a_command words none

pub returns-in-Ok-try_get_matches_from-clause-command : goal.returns-in-Ok-try_get_matches_from-clause-command
returns-in-Ok-try_get_matches_from-clause-command c =
    let words : List Text = map (λ w. w.now) c.args.words.now in
    let app_is : app_of c.in-Ok.commands ≡ app = c.in-Ok.ensures.0 in
    let m = c.in-Ok-try_get_matches_from in
    let none = ap (λ (a : App). fault_of a words) (sym app_is) ∙ m.ensures.kinds (ap is_simple_and_free app_is) in
    let rows = (m.ensures.matches (ap is_simple app_is)).1 ∙ ap (λ (a : App). subcommand_of a words) app_is in
    let r = c.command_of_matches in
    misuse-command words (subcommand_rows_of m.matches) none rows r.result r.ensures.fine r.ensures.command

pub returns-in-Ok-try_get_matches_from-clause-no_command : goal.returns-in-Ok-try_get_matches_from-clause-no_command
returns-in-Ok-try_get_matches_from-clause-no_command c =
    let words : List Text = map (λ w. w.now) c.args.words.now in
    let app_is : app_of c.in-Ok.commands ≡ app = c.in-Ok.ensures.0 in
    let m = c.in-Ok-try_get_matches_from in
    let none = ap (λ (a : App). fault_of a words) (sym app_is) ∙ m.ensures.kinds (ap is_simple_and_free app_is) in
    let rows = (m.ensures.matches (ap is_simple app_is)).1 ∙ ap (λ (a : App). subcommand_of a words) app_is in
    let r = c.command_of_matches in
    misuse-no_command words (subcommand_rows_of m.matches) none rows r.result r.ensures.fault

pub returns-in-Ok-try_get_matches_from-clause-usage : goal.returns-in-Ok-try_get_matches_from-clause-usage
returns-in-Ok-try_get_matches_from-clause-usage c =
    let words : List Text = map (λ w. w.now) c.args.words.now in
    let app_is : app_of c.in-Ok.commands ≡ app = c.in-Ok.ensures.0 in
    let m = c.in-Ok-try_get_matches_from in
    let none = ap (λ (a : App). fault_of a words) (sym app_is) ∙ m.ensures.kinds (ap is_simple_and_free app_is) in
    let rows = (m.ensures.matches (ap is_simple app_is)).1 ∙ ap (λ (a : App). subcommand_of a words) app_is in
    let r = c.command_of_matches in
    misuse-usage words (subcommand_rows_of m.matches) none rows r.result r.ensures.fault

pub returns-in-Err-clause-no_command : goal.returns-in-Err-clause-no_command
returns-in-Err-clause-no_command c =
    let words : List Text = map (λ w. w.now) c.args.words.now in
    let app_is : app_of c.in-Ok.commands ≡ app = c.in-Ok.ensures.0 in
    let e = c.in-Err in
    let kinds = claps-kind words (kind_of e.error) (subst (λ (a : App). (kind_of e.error ≡ OutOfMemory) ⊎ IsAmong (kind_of e.error) (fault_of a words)) app_is (e.ensures.kinds (ap is_simple_and_free app_is))) in
    told-no_command words (kind_of e.error) c.fault_told.result c.fault_told.ensures kinds

pub returns-in-Err-clause-help : goal.returns-in-Err-clause-help
returns-in-Err-clause-help c =
    let words : List Text = map (λ w. w.now) c.args.words.now in
    let app_is : app_of c.in-Ok.commands ≡ app = c.in-Ok.ensures.0 in
    let e = c.in-Err in
    let kinds = claps-kind words (kind_of e.error) (subst (λ (a : App). (kind_of e.error ≡ OutOfMemory) ⊎ IsAmong (kind_of e.error) (fault_of a words)) app_is (e.ensures.kinds (ap is_simple_and_free app_is))) in
    told-help (kinds_of words) (kind_of e.error) c.fault_told.result c.fault_told.ensures kinds

pub returns-in-Err-clause-version : goal.returns-in-Err-clause-version
returns-in-Err-clause-version c =
    let words : List Text = map (λ w. w.now) c.args.words.now in
    let app_is : app_of c.in-Ok.commands ≡ app = c.in-Ok.ensures.0 in
    let e = c.in-Err in
    let kinds = claps-kind words (kind_of e.error) (subst (λ (a : App). (kind_of e.error ≡ OutOfMemory) ⊎ IsAmong (kind_of e.error) (fault_of a words)) app_is (e.ensures.kinds (ap is_simple_and_free app_is))) in
    told-version (kinds_of words) (kind_of e.error) c.fault_told.result c.fault_told.ensures kinds

pub returns-in-Err-clause-usage : goal.returns-in-Err-clause-usage
returns-in-Err-clause-usage c =
    let words : List Text = map (λ w. w.now) c.args.words.now in
    let app_is : app_of c.in-Ok.commands ≡ app = c.in-Ok.ensures.0 in
    let e = c.in-Err in
    let kinds = claps-kind words (kind_of e.error) (subst (λ (a : App). (kind_of e.error ≡ OutOfMemory) ⊎ IsAmong (kind_of e.error) (fault_of a words)) app_is (e.ensures.kinds (ap is_simple_and_free app_is))) in
    told-usage (kinds_of words) (kind_of e.error) c.fault_told.result c.fault_told.ensures kinds

pub returns-in-Ok-try_get_matches_from-clause-help : goal.returns-in-Ok-try_get_matches_from-clause-help
returns-in-Ok-try_get_matches_from-clause-help c = misuse-help _ _ c.command_of_matches.result c.command_of_matches.ensures.fault

pub returns-in-Ok-try_get_matches_from-clause-version : goal.returns-in-Ok-try_get_matches_from-clause-version
returns-in-Ok-try_get_matches_from-clause-version c = misuse-version _ _ c.command_of_matches.result c.command_of_matches.ensures.fault
