-- What the matches of a command line ask for.
use Rattle.std.proofs.Common.{◌≡◌, ◌∙◌, Bool, true, false, List, Option, Some, None, Result, Ok, Err, IfOk, is_some, ap, option_and_then, option_map, refl, sym}
use Rattle.std.specs.Prelude.{if◌then◌else◌}
use Rattle.clap.specs.Words.{Row, Text, subcommand_name_of, subcommand_rows_of}
use Rattle.clap.specs.declared.parser.matches.ArgMatches.{ArgMatches}
use Rattle.clap.specs.declared.parser.matches.ArgMatches.TheViews.{out-ArgMatches}
use Rattle.command_words.specs.CommandLine.{named}
use Rattle.command_words.specs.Commands.{Asked, asked_as, asked_by, asked_in, has_all}
use Rattle.command_words.specs.Said.{Said, said_in}
use Rattle.command_words.specs.declared.command.Command.{Command}
use Rattle.command_words.specs.declared.name.CommandName.{CommandName}

paired : {S : Type 0} (f : S → Text) (g : S → List Row) (o : Option S) (name : Text) (rows : List Row) → Some name ≡ option_map f o
    → Some rows ≡ option_map (λ p. p.1) (option_map {U = Text × List Row} (λ s. (f s, g s)) o) → option_map {U = Text × List Row} (λ s. (f s, g s)) o ≡ Some (name, rows)
paired f g None name rows word found = cc
paired f g (Some s) name rows word found = cc

-- the name and the rows of the subcommand, of which each is known
pub rows-known : (m : ArgMatches) (name : Text) (rows : List Row) → Some name ≡ subcommand_name_of m → Some rows ≡ option_map (λ p. p.1) (subcommand_rows_of m)
    → subcommand_rows_of m ≡ Some (name, rows)
rows-known m name rows word found = paired _ _ (out-ArgMatches m).subcommand name rows word found

-- what is asked for, where it is
given : (asked : Asked) (b : Bool) → is_some (if b then Some asked else None) ≡ true → Some asked ≡ (if b then Some asked else None)
given asked true is = refl
given asked false is = cc

-- what a command asks for that has all that it needs
pub asked-named : (p : Text × List Row) (name : CommandName) (said : Said) → named p.0 ≡ Some name → said ≡ said_in p.1 → is_some (asked_in p) ≡ true
    → Some (asked_as name said) ≡ asked_in p
asked-named p name said is says has =
    let P : Option CommandName → Option Asked = λ n. option_and_then (λ name. if has_all name p.1 then Some (asked_as name (said_in p.1)) else None) n in
    let known : asked_in p ≡ P (Some name) = ap P is in
    ap (λ s. Some (asked_as name s)) says ∙ given _ _ (sym (ap is_some known) ∙ has) ∙ sym known

-- and so a command that asks for it
pub asked-ok : {E : Type 0} (r : Result Command E) (asked : Asked) (found : Option Asked) → IfOk r (λ command. asked_by command ≡ asked) → Some asked ≡ found
    → IfOk r (λ command. Some (asked_by command) ≡ found)
asked-ok (Ok command) asked found is said = ap Some is ∙ said
asked-ok (Err error) asked found is said = tt
