-- What the words of a command line ask for. All of it is own profile.
use Rattle.std.specs.Prelude.{◌==◌, ◌&&◌, Bool, List, ◌∷◌, [], ℕ, Option, Some, None, codes, is_some, length, map, option_and_then, option_map, true, unwrap_or}
use Rattle.std.specs.Prelude.{if◌then◌else◌}
use Rattle.std.specs.Int.NonZero.{non_zero_usize_get}
use Rattle.std.specs.List.{list_all}
use Rattle.clap.specs.Words.{Row, Text, first_of, subcommand_of}
use Rattle.command_words.specs.CommandLine.{app, kinds_of, named}
use Rattle.command_words.specs.Found.{count_in}
use Rattle.command_words.specs.Said.{Said, said_in}
use Rattle.command_words.specs.Serving.{Served, has_numbers, served_by}
use Rattle.command_words.specs.declared.command.Command.{Command}
use Rattle.command_words.specs.declared.command.Command.TheVariants as commands
use Rattle.command_words.specs.declared.command.EdgesForm.{EdgesForm}
use Rattle.command_words.specs.declared.command.ReportForm.{ReportForm}
use Rattle.command_words.specs.declared.command.Warned.{Warned}
use Rattle.command_words.specs.declared.command.Warned.TheVariants as warnings
use Rattle.command_words.specs.declared.name.CommandName.{CommandName}
use Rattle.command_words.specs.declared.name.CommandName.TheVariants as names

-- what is asked for, with the paths of the files that are named: of lines whether they are told of, and whether a trail's are among them; of edges the
-- form; of least labels and of a verdict of what is warned, and of the latter whether all that is refused is told; of ways the client and the cell; of a report the labels and the configuration that it is
-- compared with, where they are given, and the form; of whether lines are noticed the client; of an audit how many workers, which names, the file of
-- further names, where it is given, and whether verdicts are explained and it is told how far it is; of a served meter how it is served;
-- of a trail the client and the moment, where they are given, and whether it is printed as JSON; of a translation whether it is one of values (own profile)
pub data Asked : Type 0 where
  Demo : Bool → Asked
  Run : List ℕ → Bool → Bool → Asked
  Edges : List ℕ → EdgesForm → Asked
  Label : List ℕ → Warned → Asked
  Check : List ℕ → List ℕ → Bool → Warned → Asked
  Why : List ℕ → List ℕ → List ℕ → Asked
  Compare : List ℕ → List ℕ → Asked
  Report : List ℕ → Option (List ℕ) → Option (List ℕ) → ReportForm → Asked
  Quiet : List ℕ → List ℕ → List ℕ → Bool → Asked
  Audit : ℕ → List (List ℕ) → Option (List ℕ) → Bool → Bool → Asked
  Session : List ℕ → Asked
  Serve : List ℕ → List ℕ → Served → Asked
  Trail : List ℕ → Option (List ℕ) → Option (List ℕ) → Bool → Asked
  Encode : Bool → Asked
  Decode : Bool → Asked

-- what a command asks for
abbrev pub asked_by : Command → Asked
asked_by (commands.Demo is_verbose) = Demo is_verbose
asked_by (commands.Run config is_verbose reads_trail) = Run config.now is_verbose reads_trail
asked_by (commands.Edges config form) = Edges config.now form
asked_by (commands.Label config warned) = Label config.now warned
asked_by (commands.Check config labels tells_all warned) = Check config.now labels.now tells_all warned
asked_by (commands.Why config client cell) = Why config.now client.now cell.now
asked_by (commands.Compare old new) = Compare old.now new.now
asked_by (commands.Report config labels against form) =
    Report config.now (option_map (λ text. text.now) labels) (option_map (λ text. text.now) against) form
asked_by (commands.Quiet config labels client is_verbose) = Quiet config.now labels.now client.now is_verbose
asked_by (commands.Audit workers names names_file explains tells_progress) =
    Audit (non_zero_usize_get workers) (map (λ name. name.now) names.items) (option_map (λ text. text.now) names_file) explains tells_progress
asked_by (commands.Session config) = Session config.now
asked_by (commands.Serve config labels serving) = Serve config.now labels.now (served_by serving)
asked_by (commands.Trail file client since is_json) =
    Trail file.now (option_map (λ text. text.now) client) (option_map (λ text. text.now) since) is_json
asked_by (commands.Encode is_value) = Encode is_value
asked_by (commands.Decode is_value) = Decode is_value

-- of what is warned: of nothing with `--quiet`, and else of more with `-v` (own profile)
abbrev pub warned_of : (is_silent is_verbose : Bool) → Warned
warned_of is_silent is_verbose = if is_silent then warnings.Nothing else if is_verbose then warnings.SlipsAndWidths else warnings.Slips

-- what a command asks for, by what its words say (own profile)
abbrev pub asked_as : CommandName → Said → Asked
asked_as names.Demo said = Demo said.is_verbose
asked_as names.Run said = Run said.config said.is_verbose said.reads_trail
asked_as names.Edges said = Edges said.config said.edges_form
asked_as names.Label said = Label said.config (warned_of said.is_silent said.is_verbose)
asked_as names.Check said = Check said.config said.labels said.tells_all (warned_of said.is_silent said.is_verbose)
asked_as names.Why said = Why said.config said.client said.cell
asked_as names.Compare said = Compare said.old said.new
asked_as names.Report said = Report said.config said.given_labels said.against said.report_form
asked_as names.Quiet said = Quiet said.config said.labels said.client said.is_verbose
asked_as names.Audit said = Audit said.workers (unwrap_or said.names []) said.names_file said.explains said.tells_progress
asked_as names.Session said = Session said.config
asked_as names.Serve said = Serve said.config said.labels said.serving
asked_as names.Trail said = Trail said.file said.given_client said.since said.is_json
asked_as names.Encode said = Encode said.is_value
asked_as names.Decode said = Decode said.is_value

-- whether each of these arguments is there (own profile)
abbrev pub has : List Text → List Row → Bool
has ids rows = list_all (λ id. is_some (first_of id rows)) ids

-- whether all is there that a command needs, given or by default (own profile)
abbrev pub has_all : CommandName → List Row → Bool
has_all names.Demo rows = true
has_all names.Run rows = has (codes "config" ∷ []) rows
has_all names.Edges rows = has (codes "config" ∷ codes "format" ∷ []) rows
has_all names.Label rows = has (codes "config" ∷ []) rows
has_all names.Check rows = has (codes "config" ∷ codes "labels" ∷ []) rows
has_all names.Why rows = has (codes "config" ∷ codes "client" ∷ codes "cell" ∷ []) rows
has_all names.Compare rows = has (codes "old" ∷ codes "new" ∷ []) rows
has_all names.Report rows = has (codes "config" ∷ codes "format" ∷ []) rows
has_all names.Quiet rows = has (codes "config" ∷ codes "labels" ∷ codes "client" ∷ []) rows
has_all names.Audit rows = is_some (count_in (codes "workers") rows)
has_all names.Session rows = has (codes "config" ∷ []) rows
has_all names.Serve rows = has (codes "config" ∷ codes "labels" ∷ codes "bind" ∷ []) rows && has_numbers rows
has_all names.Trail rows = has (codes "file" ∷ []) rows
has_all names.Encode rows = true
has_all names.Decode rows = true

-- a command by its name, and what clap found for it in the words: nothing where one is missing that it needs (own profile)
abbrev pub asked_in : Text × List Row → Option Asked
asked_in p = option_and_then (λ name. if has_all name p.1 then Some (asked_as name (said_in p.1)) else None) (named p.0)

-- the words of a command line, the program's name first: nothing is wrong with them, and clap's matches name a command (own profile)
unfoldable pub command_of : List Text → Option Asked
command_of words = if length (kinds_of words) == 0 then option_and_then asked_in (subcommand_of app words) else None
