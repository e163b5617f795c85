-- What the words of a command say, argument by argument. All of it is own profile.
use Rattle.std.specs.Prelude.{Bool, List, ℕ, Option, codes, map, option_map}
use Rattle.std.specs.Prelude.{if◌then◌else◌}
use Rattle.std.specs.Int.NonZero.{non_zero_usize_get}
use Rattle.std.specs.Str.{bytes_eq}
use Rattle.clap.specs.Words.{Row, Text, all_of, first_of}
use Rattle.command_words.specs.Found.{count, has_flag, text}
use Rattle.command_words.specs.Serving.{Served, served_by, served_in}
use Rattle.command_words.specs.declared.command.EdgesForm.{EdgesForm}
use Rattle.command_words.specs.declared.command.EdgesForm.TheVariants as forms
use Rattle.command_words.specs.declared.command.ReportForm.{ReportForm}
use Rattle.command_words.specs.declared.command.ReportForm.TheVariants as reports
use Rattle.command_words.specs.declared.words.Words.{Words}

-- what each argument says; where it isn't there, what stands for nothing (own profile)
pub record Said : Type 0 where
  pub config : Text
  pub labels : Text
  pub client : Text
  pub cell : Text
  pub old : Text
  pub new : Text
  pub file : Text
  pub given_labels : Option Text
  pub against : Option Text
  pub given_client : Option Text
  pub since : Option Text
  pub edges_form : EdgesForm
  pub report_form : ReportForm
  pub names : Option (List Text)
  pub names_file : Option Text
  pub workers : ℕ
  pub serving : Served
  pub is_verbose : Bool
  pub is_silent : Bool
  pub is_json : Bool
  pub is_value : Bool
  pub reads_trail : Bool
  pub tells_all : Bool
  pub explains : Bool
  pub tells_progress : Bool

-- the form of this name: no other name than `text` and `dot` is let through (own profile)
abbrev pub form_named : Text → EdgesForm
form_named name = if bytes_eq name (codes "dot") then forms.Dot else forms.Text

-- the form of a report by its name: no other name than `html`, `csv` and `json` is let through (own profile)
abbrev pub report_form_named : Text → ReportForm
report_form_named name = if bytes_eq name (codes "csv") then reports.Csv else if bytes_eq name (codes "json") then reports.Json else reports.Html

-- what clap's rows of a command say (own profile)
abbrev pub said_in : List Row → Said
said_in rows = record {
  config = text (codes "config") rows;
  labels = text (codes "labels") rows;
  client = text (codes "client") rows;
  cell = text (codes "cell") rows;
  old = text (codes "old") rows;
  new = text (codes "new") rows;
  file = text (codes "file") rows;
  given_labels = first_of (codes "labels") rows;
  against = first_of (codes "against") rows;
  given_client = first_of (codes "client") rows;
  since = first_of (codes "since") rows;
  edges_form = form_named (text (codes "format") rows);
  report_form = report_form_named (text (codes "format") rows);
  names = all_of (codes "name") rows;
  names_file = first_of (codes "names") rows;
  workers = count (codes "workers") rows;
  serving = served_in rows;
  is_verbose = has_flag (codes "verbose") rows;
  is_silent = has_flag (codes "quiet") rows;
  is_json = has_flag (codes "json") rows;
  is_value = has_flag (codes "value") rows;
  reads_trail = has_flag (codes "trail") rows;
  tells_all = has_flag (codes "all") rows;
  explains = has_flag (codes "explain") rows;
  tells_progress = has_flag (codes "progress") rows;
}

-- what the words that were read say
abbrev pub said_by : Words → Said
said_by words = record {
  config = words.config.now;
  labels = words.labels.now;
  client = words.client.now;
  cell = words.cell.now;
  old = words.old.now;
  new = words.new.now;
  file = words.file.now;
  given_labels = option_map (λ text. text.now) words.given_labels;
  against = option_map (λ text. text.now) words.against;
  given_client = option_map (λ text. text.now) words.given_client;
  since = option_map (λ text. text.now) words.since;
  edges_form = words.edges_form;
  report_form = words.report_form;
  names = option_map (λ texts. map (λ text. text.now) texts.now) words.names;
  names_file = option_map (λ text. text.now) words.names_file;
  workers = non_zero_usize_get words.workers;
  serving = served_by words.serving;
  is_verbose = words.is_verbose;
  is_silent = words.is_silent;
  is_json = words.is_json;
  is_value = words.is_value;
  reads_trail = words.reads_trail;
  tells_all = words.tells_all;
  explains = words.explains;
  tells_progress = words.tells_progress;
}
