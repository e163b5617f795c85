-- The command line as clap's definition of a simple command sees it. All of it is own profile.
use Rattle.std.specs.Prelude.{◌≡◌, Bool, List, [], ◌∷◌, ◌||◌, ◌&&◌, Option, None, Some, codes, false, find, fold, is_some, map, neg_ℤ, not, option_and_then, pos, true}
use Rattle.std.specs.Prelude.{if◌then◌else◌}
use Rattle.std.specs.Option.{option_or as first_or}
use Rattle.std.specs.Str.{bytes_eq}
use Rattle.clap.specs.Kinds.{or_else}
use Rattle.clap.specs.Words.{App, Kinds, Row, Rule, Shape, Text, all_of, app_of, fault_of, first_of, new_app, new_rule, rule_of, subcommand_of, with_rule}
use Rattle.clap.specs.Simple.{new_shape}
use Rattle.clap.specs.declared.builder.arg.Arg.{Arg}
use Rattle.clap.specs.declared.builder.command.Command.{Command}
use Rattle.clap.specs.declared.builder.command.Command.TheViews.{out-Command}
use Rattle.clap.specs.declared.builder.action.ArgAction.TheVariants.{Append, Count, Set}
use Rattle.clap.specs.declared.error.kind.ErrorKind.{ErrorKind}
use Rattle.clap.specs.declared.error.kind.ErrorKind.TheVariants.{InvalidValue, MissingRequiredArgument, ArgumentConflict}
use Rattle.command_words.specs.Found.{has_flag}
use Rattle.command_words.specs.declared.name.CommandName.{CommandName}
use Rattle.command_words.specs.declared.name.CommandName.TheVariants as commands
use Rattle.clap.specs.declared.builder.value_parser.ValueParser.TheVariants.{Signed, Unsigned}

-- an argument that clap sees as this rule, and that isn't handed down to the commands below
abbrev pub IsArgument : Rule → Arg → Type 0
IsArgument rule arg = (rule_of arg ≡ rule) × (arg.global ≡ false)

-- a command that clap sees so, and that hands no argument down
abbrev pub IsCommand : App → Command → Type 0
IsCommand app command = (app_of command ≡ app) × ((out-Command command).has_globals ≡ false)

-- an argument that has to stand there (own profile)
abbrev pub needed : Text → Rule
needed id = record (new_rule id) { required = true; action = Some Set; value_names = 1 }

-- the file of a configuration (own profile)
abbrev pub config_file : Rule
config_file = needed (codes "config")

-- the file of labels (own profile)
abbrev pub labels_file : Rule
labels_file = needed (codes "labels")

-- the name of a client (own profile)
abbrev pub client : Rule
client = needed (codes "client")

-- the form of a cell (own profile)
abbrev pub cell : Rule
cell = needed (codes "cell")

-- the file of the configuration that is compared with (own profile)
abbrev pub old_file : Rule
old_file = needed (codes "old")

-- the file of the configuration that is compared (own profile)
abbrev pub new_file : Rule
new_file = needed (codes "new")

-- an option without a value, `--id`, also more than once (own profile)
abbrev pub flag : Text → Rule
flag id = record (new_rule id) { long = Some id; action = Some Count }

-- `-v` or `--verbose`, also more than once (own profile)
abbrev pub verbose : Rule
verbose = record (flag (codes "verbose")) { short = Some 118 }

-- an option with one value, `--id` (own profile)
abbrev pub option : Text → Rule
option id = record (new_rule id) { long = Some id; action = Some Set; value_names = 1 }

-- `--workers N`, which has to stand there: a number from 1 to 64 (own profile)
abbrev pub workers : Rule
workers = record (option (codes "workers")) { required = true; parser = Some (Unsigned 1 64) }

-- `--progress`, also more than once (own profile)
abbrev pub progress : Rule
progress = flag (codes "progress")

-- an option with one value, which has this one where it isn't given (own profile)
abbrev pub option_or : Text → Text → Rule
option_or id default = record (option id) { defaults = default ∷ [] }

-- `--bind ADDRESS`, the machine itself where it isn't given (own profile)
abbrev pub bind : Rule
bind = option_or (codes "bind") (codes "127.0.0.1")

-- `--port N`, a number from 1 to 65535: 4059, which is registered for DLMS/COSEM, where it isn't given (own profile)
abbrev pub port : Rule
port = record (option_or (codes "port") (codes "4059")) { parser = Some (Signed (pos 1) (pos 65535)) }

-- `--sessions N`, a number of 64 bits: 0, which is without end, where it isn't given (own profile); the end waits for the lines too
abbrev pub sessions : Rule
sessions = record (option_or (codes "sessions") (codes "0")) { parser = Some (Unsigned 0 18446744073709551615) }

-- `--seats N`, a number from 1 to 64: 64 where it isn't given (own profile)
abbrev pub seats : Rule
seats = record (option_or (codes "seats") (codes "64")) { parser = Some (Unsigned 1 64) }

-- `--idle SECONDS`, a number from 0, which is never, to 86400: 180 where it isn't given (own profile)
abbrev pub idle : Rule
idle = record (option_or (codes "idle") (codes "180")) { parser = Some (Unsigned 0 86400) }

-- `--penalty MILLISECONDS`, a number from 0 to 8000: 500 where it isn't given (own profile)
abbrev pub penalty : Rule
penalty = record (option_or (codes "penalty") (codes "500")) { parser = Some (Unsigned 0 8000) }

-- `--store FILE`, the file that keeps steps (own profile)
abbrev pub store : Rule
store = option (codes "store")

-- `--steps FILE`, the file that the lines are read from (own profile)
abbrev pub steps : Rule
steps = option (codes "steps")

-- `--clock`, also more than once (own profile)
abbrev pub clock : Rule
clock = flag (codes "clock")

-- `--offset MINUTES`, a number from -840 to 840 (own profile)
abbrev pub offset : Rule
offset = record (option (codes "offset")) { parser = Some (Signed (neg_ℤ (pos 840)) (pos 840)) }

-- `--trail`, also more than once (own profile)
abbrev pub trail_lines : Rule
trail_lines = flag (codes "trail")

-- `--client NAME`, the client whose steps are printed (own profile)
abbrev pub of_client : Rule
of_client = option (codes "client")

-- `--since MOMENT`, the moment from which steps are printed (own profile)
abbrev pub since : Rule
since = option (codes "since")

-- `--json`, also more than once (own profile)
abbrev pub json : Rule
json = flag (codes "json")

-- the file that keeps steps, of which they are printed (own profile)
abbrev pub trail_file : Rule
trail_file = needed (codes "file")

-- `--names FILE`, the file of further names (own profile)
abbrev pub names_file : Rule
names_file = option (codes "names")

-- `--explain`, also more than once (own profile)
abbrev pub explain : Rule
explain = flag (codes "explain")

-- `--value`, also more than once (own profile)
abbrev pub value : Rule
value = flag (codes "value")

-- names, as many as there are (own profile)
abbrev pub names : Rule
names = record (new_rule (codes "name")) { action = Some Append; value_names = 1 }

-- `--format FORM`, this one where it isn't given (own profile)
abbrev pub form : Text → Rule
form default = option_or (codes "format") default

-- `--against OLD`, the file of the configuration that a report is compared with (own profile)
abbrev pub against : Rule
against = option (codes "against")

-- the file of labels, which needn't stand there (own profile)
abbrev pub given_labels : Rule
given_labels = record (new_rule (codes "labels")) { action = Some Set; value_names = 1 }

-- `--all`, also more than once (own profile)
abbrev pub all : Rule
all = flag (codes "all")

-- `--quiet`, also more than once (own profile)
abbrev pub silent : Rule
silent = flag (codes "quiet")

-- a command with these arguments, one behind another (own profile)
abbrev pub with_rules : App → List Rule → App
with_rules app rules = fold with_rule app rules

-- `demo [--verbose]` (own profile)
abbrev pub demo_app : App
demo_app = with_rule (new_app (codes "demo")) verbose

-- `run [--verbose] [--trail] CONFIG` (own profile)
abbrev pub run_app : App
run_app = with_rules (new_app (codes "run")) (verbose ∷ trail_lines ∷ config_file ∷ [])

-- `edges [--format FORM] CONFIG`: lines where no form is given (own profile)
abbrev pub edges_app : App
edges_app = with_rules (new_app (codes "edges")) (form (codes "text") ∷ config_file ∷ [])

-- `label [--verbose] [--quiet] CONFIG` (own profile)
abbrev pub label_app : App
label_app = with_rules (new_app (codes "label")) (verbose ∷ silent ∷ config_file ∷ [])

-- `check [--all] [--verbose] [--quiet] CONFIG LABELS` (own profile)
abbrev pub check_app : App
check_app = with_rules (new_app (codes "check")) (all ∷ verbose ∷ silent ∷ config_file ∷ labels_file ∷ [])

-- `why CONFIG CLIENT CELL` (own profile)
abbrev pub why_app : App
why_app = with_rules (new_app (codes "why")) (config_file ∷ client ∷ cell ∷ [])

-- `compare OLD NEW` (own profile)
abbrev pub compare_app : App
compare_app = with_rules (new_app (codes "compare")) (old_file ∷ new_file ∷ [])

-- `report [--format FORM] [--against OLD] CONFIG [LABELS]`: a page where no form is given (own profile)
abbrev pub report_app : App
report_app = with_rules (new_app (codes "report")) (form (codes "html") ∷ against ∷ config_file ∷ given_labels ∷ [])

-- `quiet [--verbose] CONFIG LABELS CLIENT` (own profile)
abbrev pub quiet_app : App
quiet_app = with_rules (new_app (codes "quiet")) (verbose ∷ config_file ∷ labels_file ∷ client ∷ [])

-- `audit --workers N [--names FILE] [--explain] [--progress] [NAME...]` (own profile)
abbrev pub audit_app : App
audit_app = with_rules (new_app (codes "audit")) (workers ∷ names_file ∷ explain ∷ progress ∷ names ∷ [])

-- `session CONFIG` (own profile)
abbrev pub session_app : App
session_app = with_rule (new_app (codes "session")) config_file

-- `serve [--bind ADDRESS] [--port N] [--sessions N] [--seats N] [--idle SECONDS] [--penalty MILLISECONDS] [--store FILE] [--steps FILE] [--clock]
-- [--offset MINUTES] [--verbose] CONFIG LABELS` (own profile)
abbrev pub serve_app : App
serve_app = with_rules (new_app (codes "serve"))
    (bind ∷ port ∷ sessions ∷ seats ∷ idle ∷ penalty ∷ store ∷ steps ∷ clock ∷ offset ∷ verbose ∷ config_file ∷ labels_file ∷ [])

-- `trail [--client NAME] [--since MOMENT] [--json] FILE` (own profile)
abbrev pub trail_app : App
trail_app = with_rules (new_app (codes "trail")) (of_client ∷ since ∷ json ∷ trail_file ∷ [])

-- `encode [--value]` (own profile)
abbrev pub encode_app : App
encode_app = with_rule (new_app (codes "encode")) value

-- `decode [--value]` (own profile)
abbrev pub decode_app : App
decode_app = with_rule (new_app (codes "decode")) value

-- the program: it has a version, and wants a command (own profile)
abbrev pub program : Shape
program = record (new_shape (codes "cosem-flow")) { has_version = true; subcommand_required = true; is_leaf = false }

-- the program before it has commands (own profile)
abbrev pub bare_program : App
bare_program = record { top = record program { is_leaf = true }; subs = [] }

-- what clap sees of a command (own profile)
abbrev pub app_named : CommandName → App
app_named commands.Demo = demo_app
app_named commands.Run = run_app
app_named commands.Edges = edges_app
app_named commands.Label = label_app
app_named commands.Check = check_app
app_named commands.Why = why_app
app_named commands.Compare = compare_app
app_named commands.Report = report_app
app_named commands.Quiet = quiet_app
app_named commands.Audit = audit_app
app_named commands.Session = session_app
app_named commands.Serve = serve_app
app_named commands.Trail = trail_app
app_named commands.Encode = encode_app
app_named commands.Decode = decode_app

-- all commands, in the order of the help (own profile)
abbrev pub all_names : List CommandName
all_names = commands.Demo ∷ commands.Run ∷ commands.Edges ∷ commands.Label ∷ commands.Check ∷ commands.Why ∷ commands.Compare ∷ commands.Report ∷ commands.Quiet ∷ commands.Audit ∷ commands.Session ∷ commands.Serve ∷ commands.Trail ∷ commands.Encode ∷ commands.Decode ∷ []

-- the name of a command among the words
abbrev pub word_of : CommandName → Text
word_of name = (app_named name).top.name

-- the command that a word names
abbrev pub named : Text → Option CommandName
named word = find (λ name. bytes_eq word (word_of name)) all_names

-- the program with its commands (own profile)
abbrev pub app : App
app = record { top = program; subs = map (λ name. (app_named name).top) all_names }

-- whether a report has a form of this name (own profile)
abbrev pub is_report_form : Text → Bool
is_report_form name = bytes_eq name (codes "html") || (bytes_eq name (codes "csv") || bytes_eq name (codes "json"))

-- whether this command has a form of this name: of a report, or of a list of edges (own profile)
abbrev pub is_form : Text → Text → Bool
is_form command name =
    if bytes_eq command (codes "report") then is_report_form name
    else bytes_eq name (codes "text") || bytes_eq name (codes "dot")

-- what may be wrong with words that clap takes: a command has no form of a name, minutes ahead of UTC are given to no clock, a meter that follows a clock is to take lines
-- too, of the lines of a trail is to be told, or an audit is given neither a name nor a file of names (own profile)
pub data Misuse : Type 0 where
  UnknownForm : (command name : Text) → Misuse
  OffsetAlone : Misuse
  ClockBesideSteps : Misuse
  TrailAloud : Misuse
  Nameless : Misuse

-- the name of a form that a command hasn't, in its rows (own profile)
abbrev pub unknown_form : Text → List Row → Option Misuse
unknown_form command rows = option_and_then (λ name. if is_form command name then None else Some (UnknownForm command name)) (first_of (codes "format") rows)

-- whether `--offset` stands there without `--clock` (own profile)
abbrev pub is_offset_alone : List Row → Bool
is_offset_alone rows = is_some (first_of (codes "offset") rows) && not (has_flag (codes "clock") rows)

-- whether `--clock` stands beside `--steps` (own profile)
abbrev pub is_clock_beside_steps : List Row → Bool
is_clock_beside_steps rows = has_flag (codes "clock") rows && is_some (first_of (codes "steps") rows)

-- whether `--trail` stands beside `--verbose` (own profile)
abbrev pub is_trail_aloud : List Row → Bool
is_trail_aloud rows = has_flag (codes "trail") rows && has_flag (codes "verbose") rows

-- whether `--workers` stands there without a name and without `--names` (own profile)
abbrev pub is_nameless : List Row → Bool
is_nameless rows = is_some (first_of (codes "workers") rows) && (not (is_some (all_of (codes "name") rows)) && not (is_some (first_of (codes "names") rows)))

-- what is wrong with options of which each is taken (own profile)
abbrev pub misuse_of_options : List Row → Option Misuse
misuse_of_options rows =
    if is_offset_alone rows then Some OffsetAlone
    else if is_clock_beside_steps rows then Some ClockBesideSteps
    else if is_trail_aloud rows then Some TrailAloud
    else if is_nameless rows then Some Nameless
    else None

-- what is wrong with a command and its rows (own profile)
abbrev pub misuse_in : Option (Text × List Row) → Option Misuse
misuse_in found = option_and_then (λ p. first_or (unknown_form p.0 p.1) (misuse_of_options p.1)) found

-- the kind of error that this is, as clap would name it (own profile)
abbrev pub misuse_kind : Misuse → ErrorKind
misuse_kind (UnknownForm command name) = InvalidValue
misuse_kind OffsetAlone = MissingRequiredArgument
misuse_kind ClockBesideSteps = ArgumentConflict
misuse_kind TrailAloud = ArgumentConflict
misuse_kind Nameless = MissingRequiredArgument

-- the kinds of what is wrong, none where nothing is (own profile)
abbrev pub misuse_kinds : Option Misuse → Kinds
misuse_kinds None = []
misuse_kinds (Some misuse) = misuse_kind misuse ∷ []

-- the kinds that the error on these words may have: clap's, and where clap takes them that of a misuse; none where they are a command (own profile)
abbrev pub kinds_of : List Text → Kinds
kinds_of words = or_else (fault_of app words) (misuse_kinds (misuse_in (subcommand_of app words)))
