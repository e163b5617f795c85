-- One level of a command whose words have no fault: what clap keeps of its arguments.
use Rattle.std.proofs.Common.{◌≡◌, ◌∙◌, ℕ, ℤ, Bool, true, false, cond, not, ◌&&◌, ◌||◌, List, [], ◌∷◌, Option, Some, None, is_some, bytes_eq, find, fold, inl, inr, ◌==◌, refl, true≢false, sym, ap, subst}
use Rattle.std.specs.List.{list_all, list_any}
use Rattle.std.proofs.lemmas.Bool.{and_parts, eqb-true, not-false, not-true, or_cases, or_parts, or_right}
use Rattle.std.proofs.lemmas.Slice.Eq.{bytes_eq-Decides}
use Rattle.std.specs.Str.Parse.{digits_value, signed_digits_value, without_leading_plus}
use Rattle.clap.specs.ValueTests.{is_signed_in, is_unsigned_in}
use Rattle.clap.specs.Words.{Row, Rule, Shape, Text, first_of, one_of}
use Rattle.clap.specs.Facts.{unwrap_or_range}
use Rattle.clap.specs.Faults.{check_fault, defaults_fault, level_fault, settle_fault, use_fault, walk_fault}
use Rattle.clap.specs.Kinds.{check_kinds}
use Rattle.clap.specs.Takes.{is_given}
use Rattle.clap.specs.Walk.{has_row, nothing_held, reading_by, rows_after, settled, walk_from, walked}
use Rattle.command_words.specs.Found.{◌>>=◌, integer_in, number_in}
use Rattle.command_words.proofs.EachLemmas.{Each, each_found, no_kinds}
use Rattle.command_words.proofs.RowLemmas.{Gives, Starts, default_row, defaults_start, first_there, given_row, is_defaulted, one_passes, passes_if_there, starts_if_any, used_starts}
use Rattle.command_words.proofs.WalkKeeps.{settled_keeps, walk_fine}

-- the rows of a command that took its words
pub record IsTaken (s : Shape) (rows : List Row) : Type 0 where
  pub starts : (passes : Text → Bool) (id : Text) → Each (Gives passes id) s.rules → Each (Starts passes id) rows
  pub defaults : (id : Text) → is_defaulted id s.rules ≡ true → has_row id rows ≡ true
  pub checked : check_fault s rows false ≡ []

-- where the last checks find nothing, no subcommand is wanted and no argument
pub nothing_wanted : (help subcommand argument : Bool) → check_kinds help subcommand argument ≡ [] → (subcommand ≡ false) × (argument ≡ false)
nothing_wanted true subcommand argument none = cc
nothing_wanted false true argument none = cc
nothing_wanted false false true none = cc
nothing_wanted false false false none = (refl, refl)

-- a level without fault, where no subcommand is entered
pub level_taken : (s : Shape) (words : List Text) → level_fault s [] nothing_held words false [] ≡ [] → IsTaken s (rows_after s.rules [] words)
level_taken s words none =
    let walk = no_kinds (walk_fault s [] (walk_from nothing_held) words) _ none in
    let end = (fold (walked s.rules []) (walk_from nothing_held) words).held in
    let settle = no_kinds (settle_fault s.rules s.args_override_self end) _ walk.1 in
    record {
      starts = λ passes id gives. rows_start passes id gives walk.0 settle.0;
      defaults = λ id any. default_row id s.rules _ (or_right (has_row id _) _ any);
      checked = (no_kinds (defaults_fault (settled s.rules end).rows s.rules) _ settle.1).1;
    }
  where
    rows_start : (passes : Text → Bool) (id : Text) → Each (Gives passes id) s.rules → walk_fault s [] (walk_from nothing_held) words ≡ []
        → settle_fault s.rules s.args_override_self (fold (walked s.rules []) (walk_from nothing_held) words).held ≡ [] → Each (Starts passes id) (rows_after s.rules [] words)
    rows_start passes id gives walk settle =
        let keeps = λ (q : Rule → Bool) (a : Rule) (is : find q s.rules ≡ Some a) (values : List Text) (rows : List Row)
        (none : use_fault s.args_override_self a values rows ≡ []) (all : Each (Starts passes id) rows).
        used_starts passes id s.args_override_self a values rows (each_found (Gives passes id) q s.rules a is gives).0 none all in
        let end = walk_fine s (Each (Starts passes id)) keeps [] words (walk_from nothing_held) walk (tt, tt) in
        defaults_start passes id s.rules _ gives (settled_keeps s (Each (Starts passes id)) keeps (fold (walked s.rules []) (walk_from nothing_held) words).held settle end.0)

-- ---- the row of an argument

-- the argument is required
abbrev is_needed : Text → List Rule → Bool
is_needed id = list_any (λ a. a.required && bytes_eq a.id id)

-- each use of it has a value
abbrev is_valued : Text → List Rule → Bool
is_valued id = list_all (λ a. not (bytes_eq a.id id) || (unwrap_or_range a.range).start_inclusive == 1)

-- where the command takes its words, the argument has a value
abbrev pub always_has : Text → Shape → Bool
always_has id s = not s.subcommand_negates_reqs && ((is_needed id s.rules || is_defaulted id s.rules) && is_valued id s.rules)

-- what is needed is given where nothing required is missing
needed_given : (id : Text) (rows : List Row) (rules : List Rule) → list_any (λ a. a.required && not (is_given a.id rows)) rules ≡ false
    → is_needed id rules ≡ true → is_given id rows ≡ true
needed_given id rows [] none e = absurd (true≢false (sym e))
needed_given id rows (a ∷ rules) none e =
    let parts = or_parts (a.required && not (is_given a.id rows)) _ none in
    elim (or_cases (a.required && bytes_eq a.id id) _ e) [
      | inl own ↦ here parts.0 (and_parts a.required _ own)
      | inr later ↦ needed_given id rows rules parts.1 later
    ]
  where
    here : (a.required && not (is_given a.id rows)) ≡ false → (a.required ≡ true) × (bytes_eq a.id id ≡ true) → is_given id rows ≡ true
    here none own =
        let given : is_given a.id rows ≡ true = not-false _ (sym (ap (λ b. b && not (is_given a.id rows)) own.0) ∙ none) in
        subst (λ t. is_given t rows ≡ true) ((bytes_eq-Decides a.id id).0 own.1) given

-- each text that a parser takes is a value
text_gives : (id : Text) (rules : List Rule) → is_valued id rules ≡ true → Each (Gives (λ _. true) id) rules
text_gives id [] e = tt
text_gives id (a ∷ rules) e =
    let parts = and_parts (not (bytes_eq a.id id) || (unwrap_or_range a.range).start_inclusive == 1) _ e in
    ((λ own. (one own parts.0, (λ v taken. refl), any a.defaults)), text_gives id rules parts.1)
  where
    one : bytes_eq a.id id ≡ true → (not (bytes_eq a.id id) || (unwrap_or_range a.range).start_inclusive == 1) ≡ true → (unwrap_or_range a.range).start_inclusive ≡ 1
    one own e = eqb-true _ _ (sym (ap (λ b. not b || (unwrap_or_range a.range).start_inclusive == 1) own) ∙ e)

    any : (values : List Text) → starts_if_any (λ _. true) (reading_by a) values ≡ true
    any [] = refl
    any (v ∷ vs) = refl

module _ (s : Shape) (rows : List Row) (t : IsTaken s rows) (id : Text) (e : always_has id s ≡ true) where
  -- it has a row
  always_row : has_row id rows ≡ true
  always_row =
      let parts = and_parts (not s.subcommand_negates_reqs) _ e in
      let missing = sym (ap (λ b. not (b && false) && list_any (λ a. a.required && not (is_given a.id rows)) s.rules) (not-true _ parts.0)) ∙ (nothing_wanted _ _ _ t.checked).1 in
      elim (or_cases (is_needed id s.rules) _ (and_parts _ _ parts.1).0) [
        | inl needed ↦ given_row id rows (needed_given id rows s.rules missing needed)
        | inr default ↦ t.defaults id default
      ]

  -- which has a value
  always_starts : Each (Starts (λ _. true) id) rows
  always_starts =
      let parts = and_parts (not s.subcommand_negates_reqs) _ e in
      t.starts (λ _. true) id (text_gives id s.rules (and_parts (is_needed id s.rules || is_defaulted id s.rules) _ parts.1).1)

  -- its first value
  pub text_there : is_some (first_of id rows) ≡ true
  text_there = first_there (λ _. true) id rows always_row always_starts

  -- a number from `least` to `most`, where its parser takes no other
  pub number_there : (least most : ℕ) → Each (Gives (is_unsigned_in least most) id) s.rules → is_some (one_of id rows >>= number_in least most) ≡ true
  number_there least most gives =
      let one = one_passes (is_unsigned_in least most) id rows always_row (t.starts (is_unsigned_in least most) id gives) in
      ap (λ o. is_some (o >>= number_in least most)) one.1
      ∙ ap (λ b. is_some (cond b (Some (digits_value 10 (without_leading_plus one.0))) None)) one.2

-- a number that needn't be given, where it is given
pub integer_if_there : (s : Shape) (rows : List Row) → IsTaken s rows → (id : Text) (least most : ℤ) → Each (Gives (is_signed_in least most) id) s.rules
    → (not (is_some (first_of id rows)) || is_some (one_of id rows >>= integer_in least most)) ≡ true
integer_if_there s rows t id least most gives = elim (passes_if_there (is_signed_in least most) id rows (t.starts (is_signed_in least most) id gives)) [
  | inl none ↦ ap (λ (o : Option Text). not (is_some o) || is_some (one_of id rows >>= integer_in least most)) none
  | inr one ↦ or_right (not (is_some (first_of id rows))) _ (ap (λ (o : Option Text). is_some (o >>= integer_in least most)) one.1
      ∙ ap (λ b. is_some (cond b (Some (signed_digits_value 10 one.0)) None)) one.2)
]
