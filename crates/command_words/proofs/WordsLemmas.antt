-- What clap finds in the words, against the command that they ask for.
use Rattle.std.proofs.Common.{◌≡◌, ◌==◌, ◌∷◌, ◌∙◌, ◌⊎◌, [], ℕ, suc, Bool, false, arith, List, Option, None, Some, Result, Ok, Err, IfErr, IfOk, cond, inl, inr, length, refl, sym, ap, ap₂, subst}
use Rattle.std.proofs.lemmas.Bool.Decides.{nat_tests}
use Rattle.std.specs.Prelude.{option_and_then, if◌then◌else◌}
use Rattle.clap.specs.Kinds.{or_else}
use Rattle.clap.specs.Words.{IsAmong, Kinds, Row, Text, fault_of, subcommand_of}
use Rattle.clap.specs.declared.error.kind.ErrorKind.{ErrorKind}
use Rattle.clap.specs.declared.error.kind.ErrorKind.TheVariants.{DisplayHelp, DisplayVersion, OutOfMemory}
use Rattle.command_words.specs.CommandLine.{Misuse, UnknownForm, OffsetAlone, ClockBesideSteps, TrailAloud, Nameless, app, kinds_of, misuse_in, misuse_kind, misuse_kinds}
use Rattle.command_words.specs.Commands.{Asked, asked_by, asked_in, command_of}
use Rattle.command_words.specs.Faults.{HasMistake, IfHelp, IfUsage, IfVersion, IsMistake, IsMisuse, IsToldAs, UnlessMemory}
use Rattle.command_words.specs.declared.command.Command.{Command}
use Rattle.command_words.specs.declared.fault.WordsFault.{WordsFault}
use Rattle.command_words.specs.declared.fault.WordsFault.TheVariants as faults

-- where clap finds no fault, and there is no misuse, the matches say the command
pub command_of-taken : (words : List Text) (rows : Option (Text × List Row)) (asked : Option Asked) → fault_of app words ≡ [] → rows ≡ subcommand_of app words
    → misuse_in rows ≡ None → asked ≡ option_and_then asked_in rows → command_of words ≡ asked
unfolding command_of
command_of-taken words rows asked none is known said =
    let P : Kinds → Type 0 = λ ks. (if length ks == 0 then option_and_then asked_in (subcommand_of app words) else None) ≡ asked in
    let all : kinds_of words ≡ [] = ap₂ or_else none (ap misuse_kinds (ap misuse_in (sym is) ∙ known)) in
    subst P (sym all) (ap (option_and_then asked_in) (sym is) ∙ sym said)

-- the kinds of clap's error are among all
among-first : (kind : ErrorKind) (first next : Kinds) → IsAmong kind first → IsAmong kind (or_else first next)
among-first kind [] next h = absurd h
among-first kind (k ∷ ks) next h = h

pub claps-kind : (words : List Text) (kind : ErrorKind) → (kind ≡ OutOfMemory) ⊎ IsAmong kind (fault_of app words) → (kind ≡ OutOfMemory) ⊎ IsAmong kind (kinds_of words)
claps-kind words kind (inl h) = inl h
claps-kind words kind (inr h) = inr (among-first kind (fault_of app words) (misuse_kinds (misuse_in (subcommand_of app words))) h)

no_end : (n : ℕ) → (suc n == 0) ≡ false
no_end n = grind (arith, nat_tests)

some_kind : (kind : ErrorKind) (ks : Kinds) (asked : Option Asked) → IsAmong kind ks → (if length ks == 0 then asked else None) ≡ None
some_kind kind [] asked h = absurd h
some_kind kind (k ∷ ks) asked h = ap (λ (b : Bool). cond b asked None) (no_end (length ks))

-- where it finds one, there is no command
pub command_of-fault : (words : List Text) (kind : ErrorKind) → IsAmong kind (kinds_of words) → command_of words ≡ None
unfolding command_of
command_of-fault words kind h = some_kind kind (kinds_of words) _ h

-- what is told of a misuse is a mistake in the words
its_kind : (words : List Text) (rows : Option (Text × List Row)) (misuse : Misuse) → fault_of app words ≡ [] → rows ≡ subcommand_of app words
    → misuse_in rows ≡ Some misuse → IsAmong (misuse_kind misuse) (kinds_of words)
its_kind words rows misuse none is wrong =
    let kinds : kinds_of words ≡ misuse_kind misuse ∷ [] = ap₂ or_else none (ap misuse_kinds (ap misuse_in (sym is) ∙ wrong)) in
    subst (IsAmong (misuse_kind misuse)) (sym kinds) (inl refl)

its_mistake : (misuse : Misuse) → IsMistake (misuse_kind misuse)
its_mistake (UnknownForm command name) = ((λ same. cc), (λ same. cc))
its_mistake OffsetAlone = ((λ same. cc), (λ same. cc))
its_mistake ClockBesideSteps = ((λ same. cc), (λ same. cc))
its_mistake TrailAloud = ((λ same. cc), (λ same. cc))
its_mistake Nameless = ((λ same. cc), (λ same. cc))

-- what is told of matches with a misuse, and what they ask for else
module _ (words : List Text) (rows : Option (Text × List Row)) (none : fault_of app words ≡ []) (is : rows ≡ subcommand_of app words) where
  pub misuse-command : (r : Result Command WordsFault) → IfOk r (λ _. misuse_in rows ≡ None) → IfOk r (λ command. Some (asked_by command) ≡ option_and_then asked_in rows)
      → IfOk r (λ command. command_of words ≡ Some (asked_by command))
  misuse-command (Ok command) known said = command_of-taken words rows (Some (asked_by command)) none is known said
  misuse-command (Err fault) known said = tt

  no_command : (u : Option Misuse) (fault : WordsFault) → misuse_in rows ≡ u → IsMisuse u fault → UnlessMemory fault (command_of words ≡ None)
  no_command u faults.Memory e told = tt
  no_command None (faults.Help text) e told = absurd told
  no_command None (faults.Version text) e told = absurd told
  no_command None (faults.Usage text) e told = absurd told
  no_command (Some misuse) (faults.Help text) e told = absurd told
  no_command (Some misuse) (faults.Version text) e told = absurd told
  no_command (Some misuse) (faults.Usage text) e told = command_of-fault words (misuse_kind misuse) (its_kind words rows misuse none is e)

  pub misuse-no_command : (r : Result Command WordsFault) → IfErr r (IsMisuse (misuse_in rows)) → IfErr r (λ fault. UnlessMemory fault (command_of words ≡ None))
  misuse-no_command (Ok command) told = tt
  misuse-no_command (Err fault) told = no_command (misuse_in rows) fault refl told

  usage : (u : Option Misuse) (fault : WordsFault) → misuse_in rows ≡ u → IsMisuse u fault → IfUsage fault (HasMistake (kinds_of words))
  usage u faults.Memory e told = tt
  usage u (faults.Help text) e told = tt
  usage u (faults.Version text) e told = tt
  usage None (faults.Usage text) e told = absurd told
  usage (Some misuse) (faults.Usage text) e told = (misuse_kind misuse, its_kind words rows misuse none is e, its_mistake misuse)

  pub misuse-usage : (r : Result Command WordsFault) → IfErr r (IsMisuse (misuse_in rows)) → IfErr r (λ fault. IfUsage fault (HasMistake (kinds_of words)))
  misuse-usage (Ok command) told = tt
  misuse-usage (Err fault) told = usage (misuse_in rows) fault refl told

-- such a fault is no help and no version
no_help : (P : Type 0) (u : Option Misuse) (fault : WordsFault) → IsMisuse u fault → IfHelp fault P × IfVersion fault P
no_help P u faults.Memory told = (tt, tt)
no_help P u (faults.Usage text) told = (tt, tt)
no_help P None (faults.Help text) told = absurd told
no_help P None (faults.Version text) told = absurd told
no_help P (Some misuse) (faults.Help text) told = absurd told
no_help P (Some misuse) (faults.Version text) told = absurd told

pub misuse-help : (P : Type 0) (u : Option Misuse) (r : Result Command WordsFault) → IfErr r (IsMisuse u) → IfErr r (λ fault. IfHelp fault P)
misuse-help P u (Ok command) told = tt
misuse-help P u (Err fault) told = (no_help P u fault told).0

pub misuse-version : (P : Type 0) (u : Option Misuse) (r : Result Command WordsFault) → IfErr r (IsMisuse u) → IfErr r (λ fault. IfVersion fault P)
misuse-version P u (Ok command) told = tt
misuse-version P u (Err fault) told = (no_help P u fault told).1

-- a fault that is told as clap's error, and what it says of the words
pub told-no_command : (words : List Text) (kind : ErrorKind) (fault : WordsFault) → IsToldAs kind fault → (kind ≡ OutOfMemory) ⊎ IsAmong kind (kinds_of words)
    → UnlessMemory fault (command_of words ≡ None)
told-no_command words kind faults.Memory told h = tt
told-no_command words kind (faults.Help text) told (inl h) = (let bad = sym told ∙ h in cc)
told-no_command words kind (faults.Help text) told (inr h) = command_of-fault words kind h
told-no_command words kind (faults.Version text) told (inl h) = (let bad = sym told ∙ h in cc)
told-no_command words kind (faults.Version text) told (inr h) = command_of-fault words kind h
told-no_command words kind (faults.Usage text) told (inl h) = absurd (told.0 h)
told-no_command words kind (faults.Usage text) told (inr h) = command_of-fault words kind h

pub told-help : (kinds : Kinds) (kind : ErrorKind) (fault : WordsFault) → IsToldAs kind fault → (kind ≡ OutOfMemory) ⊎ IsAmong kind kinds
    → IfHelp fault (IsAmong DisplayHelp kinds)
told-help kinds kind faults.Memory told h = tt
told-help kinds kind (faults.Help text) told (inl h) = (let bad = sym told ∙ h in cc)
told-help kinds kind (faults.Help text) told (inr h) = subst (λ k. IsAmong k kinds) told h
told-help kinds kind (faults.Version text) told h = tt
told-help kinds kind (faults.Usage text) told h = tt

pub told-version : (kinds : Kinds) (kind : ErrorKind) (fault : WordsFault) → IsToldAs kind fault → (kind ≡ OutOfMemory) ⊎ IsAmong kind kinds
    → IfVersion fault (IsAmong DisplayVersion kinds)
told-version kinds kind faults.Memory told h = tt
told-version kinds kind (faults.Help text) told h = tt
told-version kinds kind (faults.Version text) told (inl h) = (let bad = sym told ∙ h in cc)
told-version kinds kind (faults.Version text) told (inr h) = subst (λ k. IsAmong k kinds) told h
told-version kinds kind (faults.Usage text) told h = tt

pub told-usage : (kinds : Kinds) (kind : ErrorKind) (fault : WordsFault) → IsToldAs kind fault → (kind ≡ OutOfMemory) ⊎ IsAmong kind kinds
    → IfUsage fault (HasMistake kinds)
told-usage kinds kind faults.Memory told h = tt
told-usage kinds kind (faults.Help text) told h = tt
told-usage kinds kind (faults.Version text) told h = tt
told-usage kinds kind (faults.Usage text) told (inl h) = absurd (told.0 h)
told-usage kinds kind (faults.Usage text) told (inr h) = (kind, h, told.1)
