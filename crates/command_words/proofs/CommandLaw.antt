-- Words in which clap finds no fault are a command.
use Rattle.std.proofs.Common.{◌≡◌, ◌∙◌, ◌∷◌, Bool, true, false, not, ◌&&◌, ◌||◌, List, [], Option, Some, None, IfSome, is_some, option_and_then, option_map, bytes_eq, find, fold, codes, inl, inr, refl, true≢false, sym, ap, ap₂, subst, arith, neg_ℤ, pos}
use Rattle.std.proofs.lemmas.Int.{ints}
use Rattle.std.specs.Option.{option_map_or}
use Rattle.std.specs.List.{list_all, list_any}
use Rattle.std.specs.Prelude.{if◌then◌else◌}
use Rattle.std.proofs.lemmas.Bool.{and_parts, or_cases}
use Rattle.std.proofs.Math.Bool.{and-true}
use Rattle.std.proofs.lemmas.Slice.Eq.{bytes_eq-Decides}
use Rattle.clap.specs.Words.{App, Row, Shape, Text, built, fault_of, subcommand_of}
use Rattle.clap.specs.Faults.{built_fault, defaults_fault, entered_fault, level_fault, settle_fault, walk_fault}
use Rattle.clap.specs.Simple.{argument_words, built_leaf, entered, filled, help_shape, label_of, names_of, rows_at}
use Rattle.clap.specs.ValueTests.{is_signed_in, is_unsigned_in}
use Rattle.clap.specs.Walk.{answers_to, nothing_held, rows_after, settled, stop_after, walk_from, walked}
use Rattle.command_words.specs.CommandLine.{app, audit_app, check_app, compare_app, decode_app, demo_app, edges_app, encode_app, label_app, quiet_app, report_app, run_app, serve_app, session_app, trail_app, why_app}
use Rattle.command_words.specs.CommandLine as line
use Rattle.command_words.specs.Commands.{asked_in, has}
use Rattle.command_words.proofs.EachLemmas.{Each, each_found, no_kinds}
use Rattle.command_words.proofs.LevelLemmas.{IsTaken, always_has, integer_if_there, level_taken, nothing_wanted, number_there, text_there}
use Rattle.command_words.proofs.IntegerLemmas.{integer_wider}
use Rattle.command_words.proofs.NumberLemmas.{signed_unsigned, unsigned_wider}
use Rattle.command_words.proofs.RowLemmas.{Gives, single_gives}
use Rattle.command_words.proofs.WalkKeeps.{IsNoHelp, walk_fine}

-- what can't be, as that an argument is another
other : {P : Type 0} → false ≡ true → P
other e = absurd (true≢false (sym e))

-- a subcommand with one name: it is `help`, or where it took its words it is known what they ask for
abbrev Told : Shape → Type 0
Told s = (s.aliases ≡ []) × (bytes_eq s.name (codes "help") ≡ false → (rows : List Row) → IsTaken s rows → is_some (asked_in (s.name, rows)) ≡ true)

-- a command that has all that it needs asks for something
asked : {A : Type 0} (x : A) (b : Bool) → b ≡ true → is_some (if b then Some x else None) ≡ true
asked x b all = ap (λ (d : Bool). is_some (if d then Some x else None)) all

both : (a b : Bool) → a ≡ true → b ≡ true → (a && b) ≡ true
both a b this that = ap₂ (λ x y. x && y) this that

-- the arguments are there that it always has
has-taken : (s : Shape) (rows : List Row) → IsTaken s rows → (ids : List Text) → list_all (λ id. always_has id s) ids ≡ true → has ids rows ≡ true
has-taken s rows t [] e = refl
has-taken s rows t (id ∷ ids) e = let parts = and_parts (always_has id s) _ e in both _ _ (text_there s rows t id parts.0) (has-taken s rows t ids parts.1)

-- `demo`, which asks for nothing else
demo : Told (built_leaf demo_app.top)
demo = (refl, λ no_help rows t. refl)

-- `run CONFIG`
run : Told (built_leaf run_app.top)
run = (refl, λ no_help rows t. asked _ _ (has-taken _ rows t (codes "config" ∷ []) refl))

-- `edges CONFIG`, with a default for its option
edges : Told (built_leaf edges_app.top)
edges = (refl, λ no_help rows t. asked _ _ (has-taken _ rows t (codes "config" ∷ codes "format" ∷ []) refl))

-- `label CONFIG`
label : Told (built_leaf label_app.top)
label = (refl, λ no_help rows t. asked _ _ (has-taken _ rows t (codes "config" ∷ []) refl))

-- `check CONFIG LABELS`
check : Told (built_leaf check_app.top)
check = (refl, λ no_help rows t. asked _ _ (has-taken _ rows t (codes "config" ∷ codes "labels" ∷ []) refl))

-- `why CONFIG CLIENT CELL`
why : Told (built_leaf why_app.top)
why = (refl, λ no_help rows t. asked _ _ (has-taken _ rows t (codes "config" ∷ codes "client" ∷ codes "cell" ∷ []) refl))

-- `compare OLD NEW`
compare : Told (built_leaf compare_app.top)
compare = (refl, λ no_help rows t. asked _ _ (has-taken _ rows t (codes "old" ∷ codes "new" ∷ []) refl))

-- `report CONFIG [LABELS]`, with a default for the form
report : Told (built_leaf report_app.top)
report = (refl, λ no_help rows t. asked _ _ (has-taken _ rows t (codes "config" ∷ codes "format" ∷ []) refl))

-- `quiet CONFIG LABELS CLIENT`
quiet : Told (built_leaf quiet_app.top)
quiet = (refl, λ no_help rows t. asked _ _ (has-taken _ rows t (codes "config" ∷ codes "labels" ∷ codes "client" ∷ []) refl))

-- `audit --workers N [NAME...]`: a number from 1 to 64 is one from 1 on
audit : Told (built_leaf audit_app.top)
audit = (
  refl,
  λ no_help rows t. asked _ _ (number_there _ rows t (codes "workers") refl 1 18446744073709551615 workers),
)
  where
    workers : Each (Gives (is_unsigned_in 1 18446744073709551615) (codes "workers")) (built_leaf audit_app.top).rules
    workers = single_gives (is_unsigned_in 1 18446744073709551615) (codes "workers") (built_leaf audit_app.top).rules (filled line.workers) refl refl
        (refl, (λ v taken. unsigned_wider 1 64 18446744073709551615 v (omega arith) taken), refl)

-- `session CONFIG`
session : Told (built_leaf session_app.top)
session = (refl, λ no_help rows t. asked _ _ (has-taken _ rows t (codes "config" ∷ []) refl))

-- `serve CONFIG LABELS`, with a default for each of its options that the meter needs
serve : Told (built_leaf serve_app.top)
serve = (
  refl,
  λ no_help rows t. asked _ _ (both _ _ (has-taken _ rows t (codes "config" ∷ codes "labels" ∷ codes "bind" ∷ []) refl)
      (both _ _ (number_there _ rows t (codes "port") refl 1 65535 port)
      (both _ _ (number_there _ rows t (codes "sessions") refl 0 18446744073709551615 sessions)
      (both _ _ (number_there _ rows t (codes "seats") refl 1 18446744073709551615 seats)
      (both _ _ (number_there _ rows t (codes "idle") refl 0 4294967295 idle)
      (both _ _ (number_there _ rows t (codes "penalty") refl 0 4294967295 penalty)
      (integer_if_there _ rows t (codes "offset") (neg_ℤ (pos 32768)) (pos 32767) offset))))))),
)
  where
    port : Each (Gives (is_unsigned_in 1 65535) (codes "port")) (built_leaf serve_app.top).rules
    port = single_gives (is_unsigned_in 1 65535) (codes "port") (built_leaf serve_app.top).rules (filled line.port) refl refl
        (refl, (λ v taken. signed_unsigned 1 65535 v (omega arith) (omega arith) taken), refl)

    sessions : Each (Gives (is_unsigned_in 0 18446744073709551615) (codes "sessions")) (built_leaf serve_app.top).rules
    sessions = single_gives (is_unsigned_in 0 18446744073709551615) (codes "sessions") (built_leaf serve_app.top).rules (filled line.sessions) refl refl
        (refl, (λ v taken. taken), refl)

    seats : Each (Gives (is_unsigned_in 1 18446744073709551615) (codes "seats")) (built_leaf serve_app.top).rules
    seats = single_gives (is_unsigned_in 1 18446744073709551615) (codes "seats") (built_leaf serve_app.top).rules (filled line.seats) refl refl
        (refl, (λ v taken. unsigned_wider 1 64 18446744073709551615 v (omega arith) taken), refl)

    idle : Each (Gives (is_unsigned_in 0 4294967295) (codes "idle")) (built_leaf serve_app.top).rules
    idle = single_gives (is_unsigned_in 0 4294967295) (codes "idle") (built_leaf serve_app.top).rules (filled line.idle) refl refl
        (refl, (λ v taken. unsigned_wider 0 86400 4294967295 v (omega arith) taken), refl)

    penalty : Each (Gives (is_unsigned_in 0 4294967295) (codes "penalty")) (built_leaf serve_app.top).rules
    penalty = single_gives (is_unsigned_in 0 4294967295) (codes "penalty") (built_leaf serve_app.top).rules (filled line.penalty) refl refl
        (refl, (λ v taken. unsigned_wider 0 8000 4294967295 v (omega arith) taken), refl)

    offset : Each (Gives (is_signed_in (neg_ℤ (pos 32768)) (pos 32767)) (codes "offset")) (built_leaf serve_app.top).rules
    offset = single_gives (is_signed_in (neg_ℤ (pos 32768)) (pos 32767)) (codes "offset") (built_leaf serve_app.top).rules (filled line.offset) refl refl
        (refl, (λ v taken. integer_wider (neg_ℤ (pos 840)) (pos 840) v (omega (arith, ints)) (omega (arith, ints)) taken), refl)

-- `trail FILE`
trail : Told (built_leaf trail_app.top)
trail = (refl, λ no_help rows t. asked _ _ (has-taken _ rows t (codes "file" ∷ []) refl))

-- `encode`
encode : Told (built_leaf encode_app.top)
encode = (refl, λ no_help rows t. refl)

-- `decode`
decode : Told (built_leaf decode_app.top)
decode = (refl, λ no_help rows t. refl)

-- clap's own subcommand
help : Told (built_leaf help_shape)
help = (refl, λ no_help rows t. other (sym no_help))

-- all that the program has
all_told : Each Told (built app).subs
all_told = (demo, (run, (edges, (label, (check, (why, (compare, (report, (quiet, (audit, (session, (serve, (trail, (encode, (decode, (help, tt))))))))))))))))

module _ (above : App) (required : above.top.subcommand_required ≡ true) (helps : above.top.disable_help_subcommand ≡ false) (told : Each Told above.subs) where
  -- the subcommand at which the words stop
  entered_told : (stop : Option (Text × List Text)) → IfSome stop (λ p. IsNoHelp above.top p.0) → is_some (entered above stop) ≡ true → entered_fault above stop ≡ []
      → is_some (option_and_then asked_in (entered above stop)) ≡ true
  entered_told None no_help has none = other has
  entered_told (Some p) no_help has none = go (find (λ s. answers_to p.0 (label_of s)) above.subs) refl has none
    where
      go : (o : Option Shape) → find (λ s. answers_to p.0 (label_of s)) above.subs ≡ o → is_some (option_map (λ s. rows_at s p.1) o) ≡ true
          → option_map_or (λ s. level_fault s [] nothing_held p.1 false []) o [] ≡ []
          → is_some (option_and_then asked_in (option_map (λ s. rows_at s p.1) o)) ≡ true
      go None is has none = other has
      go (Some s) is has none =
          let found = each_found Told (λ x. answers_to p.0 (label_of x)) above.subs s is told in
          found.0.1 (named s found.0.0 found.1) (rows_after s.rules [] p.1) (level_taken s p.1 none)
        where
          named : (s : Shape) → s.aliases ≡ [] → answers_to p.0 (label_of s) ≡ true → bytes_eq s.name (codes "help") ≡ false
          named s single answers = elim (or_cases (bytes_eq s.name p.0) false (sym (ap (λ xs. bytes_eq s.name p.0 || list_any (λ alias. bytes_eq alias p.0) xs) single) ∙ answers)) [
            | inl same ↦ subst (λ t. bytes_eq t (codes "help") ≡ false) (sym ((bytes_eq-Decides s.name p.0).0 same))
                (sym (and-true (bytes_eq p.0 (codes "help"))) ∙ (sym (ap (λ d. bytes_eq p.0 (codes "help") && not d) helps) ∙ no_help))
            | inr empty ↦ other empty
          ]

  -- words without fault stop at one
  level_told : (words : List Text) → built_fault above nothing_held words ≡ []
      → is_some (option_and_then asked_in (entered above (stop_after above.top.rules (names_of above) words))) ≡ true
  level_told words none =
      let c = above.top.rules in
      let end = fold (walked c (names_of above)) (walk_from nothing_held) words in
      let walk = no_kinds (walk_fault above.top (names_of above) (walk_from nothing_held) words) _ none in
      let below = no_kinds (entered_fault above end.stopped) _ walk.1 in
      let settle = no_kinds (settle_fault c above.top.args_override_self end.held) _ below.1 in
      let checks = no_kinds (defaults_fault (settled c end.held).rows c) _ settle.1 in
      let fine = walk_fine above.top (λ _. Unit {0}) (λ q a is values rows none all. tt) (names_of above) words (walk_from nothing_held) walk.0 (tt, tt) in
      entered_told end.stopped fine.1 (wanted (is_some (entered above end.stopped)) (nothing_wanted _ _ _ checks.1).0) below.0
    where
      wanted : (b : Bool) → (not b && above.top.subcommand_required) ≡ false → b ≡ true
      wanted true none = refl
      wanted false none = other (sym none ∙ required)

-- so a command line in which clap finds no fault asks for something
pub words_without_fault_are_a_command : (words : List Text) → fault_of app words ≡ [] → is_some (option_and_then asked_in (subcommand_of app words)) ≡ true
words_without_fault_are_a_command words none = level_told (built app) refl refl all_told (argument_words app words) none
