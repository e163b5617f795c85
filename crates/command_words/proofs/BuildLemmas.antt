-- What clap sees of a command to which an argument or a subcommand is added.
use Rattle.std.proofs.Common.{◌≡◌, ◌∙◌, ◌+◌, ◌<◌, ◌∷◌, ◌||◌, [], ℕ, List, ap, ap₂, fold, get_or, length, map, take}
use Rattle.std.proofs.lemmas.List.{map-append, take_more}
use Rattle.std.proofs.lemmas.List.Sums.{fold_push}
use Rattle.clap.specs.Words.{AddsArg, AddsSubcommand, App, Rule, with_rule, with_subcommand}
use Rattle.clap.specs.declared.builder.arg.Arg.{Arg}
use Rattle.clap.specs.declared.builder.command.Command.{Command}
use Rattle.command_words.specs.CommandLine.{IsArgument, IsCommand}

-- what is folded over one more item
pub folded-more : {A B C : Type 0} (f : B → C → B) (b : B) (g : A → C) (xs : List A) (i : ℕ) (d : A) → i < length xs
    → fold f b (map g (take (i + 1) xs)) ≡ f (fold f b (map g (take i xs))) (g (get_or xs i d))
folded-more f b g xs i d below =
    ap (λ ys. fold f b (map g ys)) (take_more xs i d below)
    ∙ ap (fold f b) (map-append g (take i xs) (get_or xs i d ∷ []))
    ∙ fold_push f b (map g (take i xs)) (g (get_or xs i d))

-- a command with one argument more
pub arg-added : (app : App) (rule : Rule) (old : Command) (arg : Arg) (new : Command) → IsCommand app old → IsArgument rule arg → AddsArg old arg new → IsCommand (with_rule app rule) new
arg-added app rule old arg new is has adds = (adds.shape has.1 ∙ ap₂ with_rule is.0 has.0, adds.globals ∙ ap₂ (λ a b. a || b) is.1 has.1)

-- a command with one subcommand more
pub subcommand-added : (app below : App) (old sub new : Command) → IsCommand app old → IsCommand below sub → AddsSubcommand old sub new → IsCommand (with_subcommand app below.top) new
subcommand-added app below old sub new is has adds =
    (adds.shape has.1 ∙ ap₂ (λ a (b : App). with_subcommand a b.top) is.0 has.0, adds.globals ∙ ap₂ (λ a b. a || b) is.1 has.1)
