-- What clap sees of the rows of the table of commands. All of it is own profile.
use Rattle.std.specs.Prelude.{Some, fold, length, map}
use Rattle.clap.specs.Words.{App, Rule, new_app, new_rule, with_rule}
use Rattle.command_words.specs.declared.arguments.ArgumentRow.{ArgumentRow}
use Rattle.command_words.specs.declared.rows.CommandRow.{CommandRow}
use Rattle.command_words.specs.declared.arguments.Standing.{Standing}
use Rattle.command_words.specs.declared.arguments.Standing.TheVariants.{Placed, Named, Lettered, Numbered}

-- the rule of a row, but for how the argument is named
abbrev pub placed_rule : ArgumentRow → Rule
placed_rule row = record (new_rule row.id.now) {
  action = Some row.action;
  value_names = length row.value_names.now;
  defaults = map (λ text. text.now) row.defaults.now;
  required = row.is_required;
}

-- the same, as the argument stands among the words
abbrev pub standing_as : Standing → ArgumentRow → Rule
standing_as Placed row = placed_rule row
standing_as Named row = record (placed_rule row) { long = Some row.id.now }
standing_as (Lettered letter) row = record (placed_rule row) { long = Some row.id.now; short = Some letter }
standing_as (Numbered parser) row = record (placed_rule row) { long = Some row.id.now; parser = Some parser }

-- the rule of a row
abbrev pub rule_of_row : ArgumentRow → Rule
rule_of_row row = standing_as row.standing row

-- the command of a row
abbrev pub app_of_row : CommandRow → App
app_of_row row = fold with_rule (new_app row.word.now) (map rule_of_row row.arguments.now)
