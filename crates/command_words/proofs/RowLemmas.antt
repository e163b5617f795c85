-- The rows that clap keeps of an argument with values: each has a first value, and that one passes a test.
use Rattle.std.proofs.Common.{◌≡◌, ◌∙◌, ◌⊎◌, inl, inr, ◌+◌, min, ℕ, Bool, true, false, cond, not, ◌&&◌, ◌||◌, List, [], ◌∷◌, ◌++◌, length, Option, Some, None, find, fold, bytes_eq, refl, true≢false, is_some, option_map, option_and_then, slice_get, sym, ap, subst}
use Rattle.std.specs.List.{list_any}
use Rattle.std.specs.Prelude.{if◌then◌else◌}
use Rattle.std.specs.Option.{option_map_or}
use Rattle.std.proofs.lemmas.Bool.{not-true, or_cases, or_left, or_parts, or_right, and_parts}
use Rattle.std.proofs.lemmas.Option.{same_Some}
use Rattle.std.proofs.lemmas.Slice.Eq.{bytes_eq-Decides}
use Rattle.clap.specs.Words.{Row, Rule, Text, count_of, count_text, first_of, one_of, read_as}
use Rattle.clap.specs.Facts.{explicit_source, parser_of_value, unwrap_or_range}
use Rattle.clap.specs.Faults.{action_fault, use_fault, values_fault}
use Rattle.clap.specs.Kinds.{range_kinds}
use Rattle.clap.specs.Takes.{is_given, value_passes}
use Rattle.clap.specs.Values.{refused_kind}
use Rattle.clap.specs.Walk.{action_of, at_row, default_rows, has_row, more_values, most_values, new_count, reading_by, row_text, used, used_as, values_or_missing, with_count, with_default, with_values, without}
use Rattle.clap.specs.declared.builder.action.ArgAction.{ArgAction}
use Rattle.clap.specs.declared.builder.action.ArgAction.TheVariants as action
use Rattle.clap.specs.declared.builder.value_parser.Reading.{Reading}
use Rattle.clap.specs.declared.parser.matches.ValueSource.{ValueSource}
use Rattle.clap.specs.declared.parser.matches.ValueSource.TheVariants.{CommandLine, DefaultValue}
use Rattle.command_words.proofs.EachLemmas.{Each, each_append, no_kinds}

-- there is a first value, and as it is read it passes
abbrev pub starts : (Text → Bool) → Reading → List Text → Bool
starts passes how [] = false
starts passes how (v ∷ vs) = passes (read_as how v)

-- more values behind it change nothing
starts_still : (passes : Text → Bool) (how : Reading) (vs more : List Text) → starts passes how vs ≡ true → starts passes how (vs ++ more) ≡ true
starts_still passes how [] more e = absurd (true≢false (sym e))
starts_still passes how (v ∷ vs) more e = e

-- a row, where it is of this argument
abbrev pub Starts : (Text → Bool) → Text → Row → Type 0
Starts passes id r = bytes_eq r.id id ≡ true → starts passes r.reading r.values ≡ true

-- there is none, or the first passes
abbrev pub starts_if_any : (Text → Bool) → Reading → List Text → Bool
starts_if_any passes how [] = true
starts_if_any passes how (v ∷ vs) = passes (read_as how v)

-- an argument: a use has a value, each value that its parser takes passes, and so does its default
abbrev pub Passes : (Text → Bool) → Rule → Type 0
Passes passes a = ((unwrap_or_range a.range).start_inclusive ≡ 1)
    × ((v : Text) → value_passes a v ≡ true → passes (read_as (reading_by a) v) ≡ true)
    × (starts_if_any passes (reading_by a) a.defaults ≡ true)

-- an argument, where it is this one
abbrev pub Gives : (Text → Bool) → Text → Rule → Type 0
Gives passes id a = bytes_eq a.id id ≡ true → Passes passes a

-- no other argument has the id of one that has it
abbrev pub is_single : Text → List Rule → Bool
is_single id [] = true
is_single id (a ∷ rules) = if bytes_eq a.id id then not (list_any (λ b. bytes_eq b.id id) rules) else is_single id rules

-- of arguments without this one
none_gives : (passes : Text → Bool) (id : Text) (rules : List Rule) → list_any (λ a. bytes_eq a.id id) rules ≡ false → Each (Gives passes id) rules
none_gives passes id [] none = tt
none_gives passes id (a ∷ rules) none =
    let parts = or_parts (bytes_eq a.id id) _ none in
    ((λ own. absurd (true≢false (sym own ∙ parts.0))), none_gives passes id rules parts.1)

-- of arguments of which this is the only one with its id
pub single_gives : (passes : Text → Bool) (id : Text) (rules : List Rule) (a : Rule) → find (λ b. bytes_eq b.id id) rules ≡ Some a → is_single id rules ≡ true
    → Passes passes a → Each (Gives passes id) rules
single_gives passes id [] a is single good = tt
single_gives passes id (r ∷ rules) a is single good =
    go (bytes_eq r.id id) refl is single (λ later once. single_gives passes id rules a later once good)
  where
    go : (b : Bool) → bytes_eq r.id id ≡ b → cond b (Some r) (find (λ b. bytes_eq b.id id) rules) ≡ Some a
        → (if b then not (list_any (λ b. bytes_eq b.id id) rules) else is_single id rules) ≡ true
        → (find (λ b. bytes_eq b.id id) rules ≡ Some a → is_single id rules ≡ true → Each (Gives passes id) rules)
        → Each (Gives passes id) (r ∷ rules)
    go true own same single later = ((λ e. subst (Passes passes) (sym (same_Some r a same)) good), none_gives passes id rules (not-true _ single))
    go false other found single later = ((λ e. absurd (true≢false (sym e ∙ other))), later found single)

-- ---- one use of an argument

-- a fact of each row, where one row is changed or a new one comes
at_row_each : (P : Row → Type 0) (own : Text) (change : Row → List Row) (missing : List Row) → ((r : Row) → P r → Each P (change r)) → Each P missing
    → (rows : List Row) → Each P rows → Each P (at_row own change missing rows)
at_row_each P own change missing changed new [] all = new
at_row_each P own change missing changed new (r ∷ rs) all = go (bytes_eq r.id own) (at_row_each P own change missing changed new rs all.1)
  where
    go : (b : Bool) → Each P (at_row own change missing rs) → Each P (cond b (change r ++ rs) (r ∷ at_row own change missing rs))
    go true later = each_append P (change r) rs (changed r all.0) all.1
    go false later = (all.0, later)

module _ (passes : Text → Bool) (id : Text) where
  -- a row goes
  without_starts : (own : Text) (rows : List Row) → Each (Starts passes id) rows → Each (Starts passes id) (without own rows)
  without_starts own rows all = at_row_each (Starts passes id) own (λ _. []) [] (λ r ok. tt) tt rows all

  -- values come, which start as they should where they are this argument's
  with_values_starts : (own : Text) (how : Reading) (source : ValueSource) (values : List Text) → (bytes_eq own id ≡ true → starts passes how values ≡ true)
      → (rows : List Row) → Each (Starts passes id) rows → Each (Starts passes id) (with_values own how source values rows)
  with_values_starts own how source values good rows all =
      at_row_each (Starts passes id) own (more_values source values) _ (λ r ok. ((λ e. starts_still passes r.reading r.values values (ok e)), tt)) (good, tt) rows all

  -- a count comes, of another argument
  with_count_starts : (own : Text) (how : Reading) (source : ValueSource) (n : ℕ) → (bytes_eq own id ≡ true → ⊥)
      → (rows : List Row) → Each (Starts passes id) rows → Each (Starts passes id) (with_count own how source n rows)
  with_count_starts own how source n other rows all =
      at_row_each (Starts passes id) own (new_count source n) _ (λ r ok. ((λ e. starts_still passes r.reading r.values (count_text n ∷ []) (ok e)), tt))
      ((λ e. absurd (other e)), tt) rows all

  -- a use, by its action
  used_as_starts : (x : ArgAction) (own : Text) (how : Reading) (values : List Text) → (bytes_eq own id ≡ true → starts passes how values ≡ true)
      → (rows : List Row) → Each (Starts passes id) rows → Each (Starts passes id) (used_as x own how values rows)
  used_as_starts action.Set own how values good rows all = with_values_starts own how _ values good _ (without_starts own rows all)
  used_as_starts action.SetTrue own how values good rows all = with_values_starts own how _ values good _ (without_starts own rows all)
  used_as_starts action.SetFalse own how values good rows all = with_values_starts own how _ values good _ (without_starts own rows all)
  used_as_starts action.Append own how values good rows all = with_values_starts own how _ values good rows all
  used_as_starts action.Count own how [] good rows all = with_count_starts own how CommandLine (min (count_of own rows + 1) 255) (λ e. true≢false (sym (good e))) _ (without_starts own rows all)
  used_as_starts action.Count own how (v ∷ vs) good rows all = with_values_starts own how _ (v ∷ vs) good _ (without_starts own rows all)
  used_as_starts action.Help own how values good rows all = all
  used_as_starts action.HelpShort own how values good rows all = all
  used_as_starts action.HelpLong own how values good rows all = all
  used_as_starts action.Version own how values good rows all = all

-- a use without fault has values that its parser takes
values_pass : (x : ArgAction) (again : Bool) (a : Rule) (v : Text) (vs : List Text) (rows : List Row)
    → action_fault x again a (v ∷ vs) rows ≡ [] → values_fault a (v ∷ vs) ≡ []
values_pass action.Set again a v vs rows none = (no_kinds _ _ none).1
values_pass action.SetTrue again a v vs rows none = (no_kinds _ _ none).1
values_pass action.SetFalse again a v vs rows none = (no_kinds _ _ none).1
values_pass action.Append again a v vs rows none = none
values_pass action.Count again a v vs rows none = none
values_pass action.Help again a v vs rows none = cc
values_pass action.HelpShort again a v vs rows none = cc
values_pass action.HelpLong again a v vs rows none = cc
values_pass action.Version again a v vs rows none = cc

-- and so its parser takes the first
first_passes : (a : Rule) (v : Text) (vs : List Text) → values_fault a (v ∷ vs) ≡ [] → value_passes a v ≡ true
first_passes a v vs none = go (value_passes a v) (no_kinds _ _ none).0
  where
    go : (b : Bool) → cond b [] (refused_kind (parser_of_value a.parser) ∷ []) ≡ [] → b ≡ true
    go true none = refl
    go false none = cc

-- so the rows after it start as they should
pub used_starts : (passes : Text → Bool) (id : Text) (again : Bool) (a : Rule) (values : List Text) (rows : List Row) → Gives passes id a
    → use_fault again a values rows ≡ [] → Each (Starts passes id) rows → Each (Starts passes id) (used a values rows)
used_starts passes id again a values rows gives none all =
    used_as_starts passes id (action_of a) a.id (reading_by a) (values_or_missing a values) (λ e. go values (gives e) (no_kinds _ _ none)) rows all
  where
    go : (values : List Text) → Passes passes a
        → (range_kinds (unwrap_or_range a.range).start_inclusive (most_values a) (length values) ≡ [])
        × (action_fault (action_of a) again a (values_or_missing a values) rows ≡ [])
        → starts passes (reading_by a) (values_or_missing a values) ≡ true
    go [] given parts = (let bad = rw given.0 at parts.0 in cc)
    go (v ∷ vs) given parts = given.1 v (first_passes a v vs (values_pass (action_of a) again a v vs rows parts.1))

-- ---- defaults

-- one argument's default
default_starts : (passes : Text → Bool) (id : Text) (a : Rule) (rows : List Row) → Gives passes id a
    → Each (Starts passes id) rows → Each (Starts passes id) (with_default rows a)
default_starts passes id a rows gives all = go (has_row a.id rows) (by a.defaults (λ e. (gives e).2))
  where
    by : (values : List Text) → (bytes_eq a.id id ≡ true → starts_if_any passes (reading_by a) values ≡ true)
        → Each (Starts passes id) (default_rows a.id (reading_by a) values rows)
    by [] good = all
    by (v ∷ vs) good = with_values_starts passes id a.id (reading_by a) _ (v ∷ vs) good rows all

    go : (b : Bool) → Each (Starts passes id) (default_rows a.id (reading_by a) a.defaults rows)
        → Each (Starts passes id) (cond b rows (default_rows a.id (reading_by a) a.defaults rows))
    go true new = all
    go false new = new

-- the rows start as they should once the defaults are there
pub defaults_start : (passes : Text → Bool) (id : Text) (rules : List Rule) (rows : List Row) → Each (Gives passes id) rules
    → Each (Starts passes id) rows → Each (Starts passes id) (fold with_default rows rules)
defaults_start passes id [] rows gives all = all
defaults_start passes id (a ∷ rules) rows gives all =
    defaults_start passes id rules (with_default rows a) gives.1 (default_starts passes id a rows gives.0 all)

-- values stand for their argument, and beside what stood there
has_row_with : (id own : Text) (how : Reading) (source : ValueSource) (values : List Text) (rows : List Row)
    → (has_row id rows ≡ true) ⊎ (bytes_eq own id ≡ true) → has_row id (with_values own how source values rows) ≡ true
has_row_with id own how source values [] (inl e) = absurd (true≢false (sym e))
has_row_with id own how source values [] (inr e) = or_left _ _ e
has_row_with id own how source values (r ∷ rs) e = go (bytes_eq r.id own) refl e (has_row_with id own how source values rs)
  where
    go : (b : Bool) → bytes_eq r.id own ≡ b → (has_row id (r ∷ rs) ≡ true) ⊎ (bytes_eq own id ≡ true)
        → ((has_row id rs ≡ true) ⊎ (bytes_eq own id ≡ true) → has_row id (with_values own how source values rs) ≡ true)
        → has_row id (cond b (more_values source values r ++ rs) (r ∷ with_values own how source values rs)) ≡ true
    go true is (inl e) later = e
    go true is (inr e) later = or_left _ _ (subst (λ t. bytes_eq t id ≡ true) (sym ((bytes_eq-Decides r.id own).0 is)) e)
    go false is (inr e) later = or_right (bytes_eq r.id id) _ (later (inr e))
    go false is (inl e) later = elim (or_cases (bytes_eq r.id id) _ e) [
      | inl h ↦ or_left _ _ h
      | inr h ↦ or_right (bytes_eq r.id id) _ (later (inl h))
    ]

-- there is a value
abbrev has_any : List Text → Bool
has_any [] = false
has_any (v ∷ vs) = true

-- the argument has a default
abbrev pub is_defaulted : Text → List Rule → Bool
is_defaulted id = list_any (λ a. bytes_eq a.id id && has_any a.defaults)

-- then it has a row once the defaults are there
pub default_row : (id : Text) (rules : List Rule) (rows : List Row)
    → (has_row id rows || is_defaulted id rules) ≡ true → has_row id (fold with_default rows rules) ≡ true
default_row id [] rows e = elim (or_cases (has_row id rows) false e) [
  | inl h ↦ h
  | inr h ↦ absurd (true≢false (sym h))
]
default_row id (a ∷ rules) rows e = default_row id rules (with_default rows a) (elim (or_cases (has_row id rows) _ e) [
  | inl h ↦ or_left _ _ (kept h (has_row a.id rows))
  | inr h ↦ elim (or_cases (bytes_eq a.id id && has_any a.defaults) _ h) [
    | inl own ↦ or_left _ _ (new (and_parts _ _ own) (has_row a.id rows) refl)
    | inr later ↦ or_right (has_row id (with_default rows a)) _ later
  ]
])
  where
    stays : (values : List Text) → has_row id rows ≡ true → has_row id (default_rows a.id (reading_by a) values rows) ≡ true
    stays [] h = h
    stays (v ∷ vs) h = has_row_with id a.id (reading_by a) DefaultValue (v ∷ vs) rows (inl h)

    kept : has_row id rows ≡ true → (b : Bool) → has_row id (cond b rows (default_rows a.id (reading_by a) a.defaults rows)) ≡ true
    kept h true = h
    kept h false = stays a.defaults h

    comes : (values : List Text) → bytes_eq a.id id ≡ true → has_any values ≡ true → has_row id (default_rows a.id (reading_by a) values rows) ≡ true
    comes [] own any = absurd (true≢false (sym any))
    comes (v ∷ vs) own any = has_row_with id a.id (reading_by a) DefaultValue (v ∷ vs) rows (inr own)

    new : (bytes_eq a.id id ≡ true) × (has_any a.defaults ≡ true) → (b : Bool) → has_row a.id rows ≡ b
        → has_row id (cond b rows (default_rows a.id (reading_by a) a.defaults rows)) ≡ true
    new own true is = subst (λ t. has_row t rows ≡ true) ((bytes_eq-Decides a.id id).0 own.0) is
    new own false is = comes a.defaults own.0 own.1

-- ---- what is read of a row

-- an argument that was given has a row
pub given_row : (id : Text) (rows : List Row) → is_given id rows ≡ true → has_row id rows ≡ true
given_row id [] e = absurd (true≢false (sym e))
given_row id (r ∷ rs) e = go (bytes_eq r.id id) e (given_row id rs)
  where
    go : (b : Bool) → option_map_or (λ (x : Row). explicit_source x.source) (cond b (Some r) (find (λ x. bytes_eq x.id id) rs)) false ≡ true
        → (is_given id rs ≡ true → has_row id rs ≡ true) → (b || has_row id rs) ≡ true
    go true e later = refl
    go false e later = later e

-- the row of an argument that has one
found_row : (passes : Text → Bool) (id : Text) (rows : List Row) → has_row id rows ≡ true → Each (Starts passes id) rows
    → (r : Row) × (find (λ x. bytes_eq x.id id) rows ≡ Some r) × (starts passes r.reading r.values ≡ true)
found_row passes id [] has all = absurd (true≢false (sym has))
found_row passes id (r ∷ rs) has all = go (bytes_eq r.id id) refl has (λ later. found_row passes id rs later all.1)
  where
    go : (b : Bool) → bytes_eq r.id id ≡ b → (b || has_row id rs) ≡ true
        → (has_row id rs ≡ true → (x : Row) × (find (λ x. bytes_eq x.id id) rs ≡ Some x) × (starts passes x.reading x.values ≡ true))
        → (x : Row) × (cond b (Some r) (find (λ x. bytes_eq x.id id) rs) ≡ Some x) × (starts passes x.reading x.values ≡ true)
    go true is has later = (r, refl, all.0 is)
    go false is has later = later has

module _ (passes : Text → Bool) (id : Text) (rows : List Row) (has : has_row id rows ≡ true) (all : Each (Starts passes id) rows) where
  -- it has a first value
  pub first_there : is_some (first_of id rows) ≡ true
  first_there =
      let found = found_row passes id rows has all in
      ap (λ (o : Option Row). is_some (option_and_then (λ r. slice_get r.values 0) o)) found.1 ∙ go found.0.reading found.0.values found.2
    where
      go : (how : Reading) (vs : List Text) → starts passes how vs ≡ true → is_some (slice_get vs 0) ≡ true
      go how [] e = absurd (true≢false (sym e))
      go how (v ∷ vs) e = refl

  -- and what is read of that one passes
  pub one_passes : (t : Text) × (one_of id rows ≡ Some t) × (passes t ≡ true)
  one_passes =
      let found = found_row passes id rows has all in
      let one = go found.0.reading found.0.values found.2 in
      (one.0, ap (option_and_then row_text) found.1 ∙ one.1, one.2)
    where
      go : (how : Reading) (vs : List Text) → starts passes how vs ≡ true → (t : Text) × (option_map (read_as how) (slice_get vs 0) ≡ Some t) × (passes t ≡ true)
      go how [] e = absurd (true≢false (sym e))
      go how (v ∷ vs) e = (read_as how v, refl, e)

-- an argument without a row has no value
none_there : (id : Text) (rows : List Row) → has_row id rows ≡ false → first_of id rows ≡ None
none_there id [] none = refl
none_there id (r ∷ rs) none = go (bytes_eq r.id id) none (none_there id rs)
  where
    go : (b : Bool) → (b || has_row id rs) ≡ false → (has_row id rs ≡ false → first_of id rs ≡ None)
        → option_and_then (λ (x : Row). slice_get x.values 0) (cond b (Some r) (find (λ x. bytes_eq x.id id) rs)) ≡ None
    go true none later = absurd (true≢false none)
    go false none later = later none

-- so it has none, or what is read of its first passes
pub passes_if_there : (passes : Text → Bool) (id : Text) (rows : List Row) → Each (Starts passes id) rows
    → (first_of id rows ≡ None) ⊎ ((t : Text) × (one_of id rows ≡ Some t) × (passes t ≡ true))
passes_if_there passes id rows all = go (has_row id rows) refl
  where
    go : (b : Bool) → has_row id rows ≡ b → (first_of id rows ≡ None) ⊎ ((t : Text) × (one_of id rows ≡ Some t) × (passes t ≡ true))
    go true has = inr (one_passes passes id rows has all)
    go false none = inl (none_there id rows none)
