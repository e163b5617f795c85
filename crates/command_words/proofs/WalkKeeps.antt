-- The walk of clap over words without fault, at one level of a command: what each use of an argument keeps is kept, and the
-- subcommand at which it stops isn't `help`.
use Rattle.std.proofs.Common.{◌≡◌, ℕ, zero, suc, Bool, true, false, cond, not, ◌&&◌, List, [], ◌∷◌, length, Option, Some, None, IfSome, is_some, codes, find, fold, slice_get, bytes_eq, chars, refl}
use Rattle.std.specs.Option.{option_map_or}
use Rattle.clap.specs.Words.{Row, Rule, Shape, Text}
use Rattle.clap.specs.Lexer.{long_of, short_of}
use Rattle.clap.specs.Kinds.{or_else}
use Rattle.clap.specs.Faults.{bundle_fault, bundle_step_fault, flag_word_fault, flags_fault, long_fault, option_fault, other_fault, positional_fault, react_fault, settle_fault, short_fault, step_fault, stray_fault, turn_fault, use_fault, walk_fault, word_fault}
use Rattle.clap.specs.Walk.{Held, Names, Outcome, Step, Waiting, Walk, after_flag, after_step, arg_by_id, arg_by_index, arg_by_short, attached_value, bundle_met, bundle_step, done, flag_met, idle, is_pending, long_met, long_or_other, next, option, option_met, option_word, plain, plain_word, positional, reacted, refused, settled, settled_rows, short_met, short_or_plain, subcommand, subcommand_met, subcommand_or_other, takes_several, takes_values, to_positional, trailing, used, used_by_id, value, waits, walked, walked_from, word_met}
use Rattle.clap.specs.declared.error.kind.ErrorKind.TheVariants.{DisplayHelp, InvalidSubcommand, TooManyValues}
use Rattle.command_words.proofs.EachLemmas.{no_kinds}

-- no step to the subcommand `help`
abbrev pub IsNoHelp : Shape → Text → Type 0
IsNoHelp s name = (bytes_eq name (codes "help") && not s.disable_help_subcommand) ≡ false

-- the same of what a word was
abbrev StepsToNoHelp : Shape → Step → Type 0
StepsToNoHelp s (subcommand name) = IsNoHelp s name
StepsToNoHelp s _ = Unit {0}

-- P of the rows, and no stop at `help`
abbrev pub Fine : Shape → (List Row → Type 0) → Walk → Type 0
Fine s P w = P w.held.rows × IfSome w.stopped (λ stop. IsNoHelp s stop.0)

-- the same of what is held at a word, with what the word was
abbrev FineStep : Shape → (List Row → Type 0) → Held × Step → Type 0
FineStep s P met = P met.0.rows × StepsToNoHelp s met.1

module _ (s : Shape) (P : List Row → Type 0)
    (keeps : (q : Rule → Bool) (a : Rule) → find q s.rules ≡ Some a → (values : List Text) (rows : List Row)
    → use_fault s.args_override_self a values rows ≡ [] → P rows → P (used a values rows)) where
  -- the pending argument is used
  pub settled_keeps : (h : Held) → settle_fault s.rules s.args_override_self h ≡ [] → P h.rows → P (settled s.rules h).rows
  settled_keeps h none p = pending h.pending none
    where
      by_id : (w : Text × List Text) (o : Option Rule) → arg_by_id s.rules w.0 ≡ o
          → option_map_or (λ a. use_fault s.args_override_self a w.1 h.rows) o [] ≡ [] → P (used_by_id o w.1 h.rows)
      by_id w None is none = p
      by_id w (Some a) is none = keeps _ a is w.1 h.rows none p

      pending : (o : Option (Text × List Text))
          → option_map_or (λ (w : Text × List Text). option_map_or (λ a. use_fault s.args_override_self a w.1 h.rows) (arg_by_id s.rules w.0) []) o [] ≡ []
          → P (settled_rows s.rules o h.rows)
      pending None none = p
      pending (Some w) none = by_id w (arg_by_id s.rules w.0) refl none

  -- and then another one
  reacted_keeps : (q : Rule → Bool) (a : Rule) → find q s.rules ≡ Some a → (values : List Text) (h : Held)
      → react_fault s.rules s.args_override_self a values h ≡ [] → P h.rows → P (reacted s.rules a values h).rows
  reacted_keeps q a is values h none p =
      let parts = no_kinds _ _ none in
      keeps q a is values (settled s.rules h).rows parts.1 (settled_keeps h parts.0 p)

  -- an option, with a value that is attached to it or not
  option_keeps : (q : Rule → Bool) (a : Rule) → find q s.rules ≡ Some a → (v : Option Text) (h : Held)
      → option_fault s.rules s.args_override_self a v h ≡ [] → P h.rows → P (option_met s.rules a v h).0.rows
  option_keeps q a is (Some v) h none p = reacted_keeps q a is (v ∷ []) h none p
  option_keeps q a is None h none p = settled_keeps h none p

  -- a word `--name` or `--name=value`
  long_keeps : (q : Rule → Bool) (o : Option Rule) → find q s.rules ≡ o → (v : Option Text) (h : Held)
      → long_fault s.rules s.args_override_self o v h ≡ [] → P h.rows → P (long_met s.rules o v h).0.rows
  long_keeps q None is v h none p = p
  long_keeps q (Some a) is v h none p = takes (takes_values a) v none
    where
      takes : (b : Bool) (v : Option Text) → cond b (option_fault s.rules s.args_override_self a v h)
          (cond (is_some v) (TooManyValues ∷ []) (react_fault s.rules s.args_override_self a [] h)) ≡ []
          → P (cond b (option_met s.rules a v h) (flag_met s.rules a v h)).0.rows
      takes true v none = option_keeps q a is v h none p
      takes false (Some v) none = p
      takes false None none = reacted_keeps q a is [] h none p

  -- a word `-abc`
  bundle_keeps : (k : ℕ) (flags : Text) (skip : ℕ) (so_far : Outcome) (h : Held)
      → flags_fault s.rules s.args_override_self k flags skip h ≡ [] → P h.rows → P (bundle_met s.rules k flags skip so_far h).0.rows
  unfolding flags_fault bundle_met
  bundle_keeps zero flags skip so_far h none p = p
  bundle_keeps (suc k) flags skip so_far h none p = first (slice_get (chars flags) 0) skip none (bundle_keeps k)
    where
      Later : Type 0
      Later = (flags : Text) (skip : ℕ) (so_far : Outcome) (h : Held)
          → flags_fault s.rules s.args_override_self k flags skip h ≡ [] → P h.rows → P (bundle_met s.rules k flags skip so_far h).0.rows

      takes : (q : Rule → Bool) (a : Rule) → find q s.rules ≡ Some a → (rest : Text) (b : Bool)
          → cond b (option_fault s.rules s.args_override_self a (attached_value rest) h)
          (or_else (react_fault s.rules s.args_override_self a [] h) (flags_fault s.rules s.args_override_self k rest 0 (reacted s.rules a [] h))) ≡ []
          → Later → P (cond b (option_met s.rules a (attached_value rest) h) (bundle_met s.rules k rest 0 done (reacted s.rules a [] h))).0.rows
      takes q a is rest true none later = option_keeps q a is (attached_value rest) h none p
      takes q a is rest false none later =
          let parts = no_kinds _ _ none in
          later rest 0 done _ parts.1 (reacted_keeps q a is [] h parts.0 p)

      named : (q : Rule → Bool) (o : Option Rule) → find q s.rules ≡ o → (rest : Text)
          → short_fault s.rules s.args_override_self o rest h (flags_fault s.rules s.args_override_self k rest 0) ≡ []
          → Later → P (short_met s.rules o rest h (bundle_met s.rules k rest 0 done)).0.rows
      named q None is rest none later = p
      named q (Some a) is rest none later = takes q a is rest (takes_values a) none later

      first : (o : Option ℕ) (skip : ℕ) → bundle_step_fault s.rules s.args_override_self o flags skip h (flags_fault s.rules s.args_override_self k) ≡ []
          → Later → P (bundle_step s.rules o flags skip so_far h (bundle_met s.rules k)).0.rows
      first None skip none later = p
      first (Some x) zero none later = named _ (arg_by_short s.rules x) refl _ none later
      first (Some x) (suc skip) none later = later _ skip so_far h none p

  -- a word that is no flag
  plain_fine : (waiting : Waiting) (word : Text) (h : Held) → P h.rows → FineStep s P (plain_word s.rules waiting word h)
  plain_fine idle word h p = (p, tt)
  plain_fine (option id) word h p = (go (arg_by_id s.rules id), tt)
    where
      go : (o : Option Rule) → P (option_word o id word h).0.rows
      go None = p
      go (Some a) = p
  plain_fine positional word h p = (p, tt)

  -- a word that may be a flag, by what came of that
  after_fine : (waiting : Waiting) (word : Text) (h : Held) (outcome : Outcome) → P h.rows → FineStep s P (after_flag s.rules waiting word h outcome)
  after_fine waiting word h done p = (p, tt)
  after_fine waiting word h (waits id) p = (p, tt)
  after_fine waiting word h plain p = plain_fine waiting word h p
  after_fine waiting word h refused p = plain_fine waiting word h p

  -- a word that names no subcommand and isn't `--`
  flag_fine : (waiting : Waiting) (word : Text) (o : Option (Text × Option Text)) (h : Held)
      → flag_word_fault s.rules s.args_override_self o word h ≡ [] → P h.rows → FineStep s P (long_or_other s.rules waiting word o h)
  flag_fine waiting word (Some name) h none p = after_fine waiting word _ _ (long_keeps _ _ refl name.1 h none p)
  flag_fine waiting word None h none p = short (short_of word) none
    where
      short : (o : Option Text) → option_map_or (λ flags. bundle_fault s.rules s.args_override_self flags h) o [] ≡ []
          → FineStep s P (short_or_plain s.rules waiting word o h)
      short None none = plain_fine waiting word h p
      short (Some flags) none = after_fine waiting word _ _ (bundle_keeps (length flags) flags h.skip plain (record h { skip = 0 }) none p)

  -- a word, by the subcommand that it names
  word_fine : (waiting : Waiting) (position : ℕ) (word : Text) (o : Option Text) (h : Held) → other_fault s o word h ≡ [] → P h.rows
      → FineStep s P (subcommand_or_other s.rules o waiting position word h)
  word_fine waiting position word (Some name) h none p = (p, help (bytes_eq name (codes "help") && not s.disable_help_subcommand) none)
    where
      help : (b : Bool) → cond b (DisplayHelp ∷ InvalidSubcommand ∷ []) [] ≡ [] → b ≡ false
      help true none = cc
      help false none = refl
  word_fine waiting position word None h none p = dashes (bytes_eq word (45 ∷ 45 ∷ [])) none
    where
      dashes : (b : Bool) → cond b [] (flag_word_fault s.rules s.args_override_self (long_of word) word h) ≡ []
          → FineStep s P (cond b (h, trailing position) (long_or_other s.rules waiting word (long_of word) h))
      dashes true none = (p, tt)
      dashes false none = flag_fine waiting word (long_of word) h none p

  -- and so what a word is, before it goes to a positional
  met_fine : (names : Names) (is_trailing : Bool) (waiting : Waiting) (position : ℕ) (word : Text) (h : Held)
      → word_fault s names is_trailing waiting word h ≡ [] → P h.rows → FineStep s P (word_met s.rules names is_trailing waiting position word h)
  met_fine names true waiting position word h none p = (p, tt)
  met_fine names false waiting position word h none p = word_fine waiting position word (subcommand_met names waiting word) h none p

  -- the walk after a word, by what the word was
  step_fine : (w : Walk) (word : Text) (h : Held) (step : Step) → IfSome w.stopped (λ stop. IsNoHelp s stop.0)
      → P h.rows → StepsToNoHelp s step → step_fault s w.position h step ≡ [] → Fine s P (after_step s.rules word w h step)
  step_fine w word h (next waiting) stop p no_help none = (p, stop)
  step_fine w word h (trailing position) stop p no_help none = (p, stop)
  step_fine w word h (subcommand name) stop p no_help none = (p, no_help)
  step_fine w word h value stop p no_help none = to (arg_by_index s.rules w.position) none
    where
      kept : (a : Rule) (b : Bool) → cond b [] (settle_fault s.rules s.args_override_self h) ≡ [] → P (cond b h (settled s.rules h)).rows
      kept a true none = p
      kept a false none = settled_keeps h none p

      to : (o : Option Rule) → option_map_or (λ a. positional_fault s.rules s.args_override_self a h) o (stray_fault s) ≡ []
          → Fine s P (to_positional s.rules o word w h)
      to None none = (p, stop)
      to (Some a) none = (kept a (is_pending a h.pending && takes_several a) none, tt)

  -- the walk after one more word
  walked_fine : (names : Names) (w : Walk) (word : Text) → turn_fault s names w word ≡ [] → Fine s P w → Fine s P (walked s.rules names w word)
  unfolding walked
  walked_fine names w word none fine = go w.stopped fine.1 none
    where
      met : Held × Step
      met = word_met s.rules names w.is_trailing w.waiting w.position word w.held

      go : (o : Option (Text × List Text)) → IfSome o (λ stop. IsNoHelp s stop.0)
          → cond (is_some o) [] (or_else (word_fault s names w.is_trailing w.waiting word w.held)
          (step_fault s w.position (word_met s.rules names w.is_trailing w.waiting w.position word w.held).0 (word_met s.rules names w.is_trailing w.waiting w.position word w.held).1)) ≡ []
          → Fine s P (walked_from s.rules names o w word)
      go (Some stop) no_help none = (fine.0, no_help)
      go None no_help none =
          let parts = no_kinds _ _ none in
          let step = met_fine names w.is_trailing w.waiting w.position word w.held parts.0 fine.0 in
          step_fine w word _ _ fine.1 step.0 step.1 parts.1

  -- the whole walk
  pub walk_fine : (names : Names) (words : List Text) (w : Walk) → walk_fault s names w words ≡ [] → Fine s P w → Fine s P (fold (walked s.rules names) w words)
  unfolding walk_fault
  walk_fine names [] w none fine = fine
  walk_fine names (word ∷ rest) w none fine =
      let parts = no_kinds _ _ none in
      walk_fine names rest (walked s.rules names w word) parts.1 (walked_fine names w word parts.0 fine)
