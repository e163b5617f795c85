-- The faults of a configuration, and readings, which say something or have faults.
use Rattle.std.specs.Prelude.{List, [], ◌∷◌, ◌++◌, Option, Some, None, Result, Ok, Err, ⊤, Bool, true, false}
use Rattle.config_text.specs.Parts.{Text}
use Rattle.config_text.specs.declared.cause.Cause.{Cause}
use Rattle.config_text.specs.declared.cause.Cause.TheVariants.{KeyMissing, Kind}
use Rattle.config_text.specs.declared.takes.KeyTakes.{KeyTakes}

-- what is wrong, and where
pub record Fault : Type 0 where
  pub cause : Cause
  pub place : Text

-- the faults of the first pass that finds any, in the order in which they are found: keys that are missing or unknown, or, where there
-- are none of these, values that their keys don't take
pub data Faults : Type 0 where
  OfKeys : (first : Fault) → (others : List Fault) → Faults
  OfValues : (first : Fault) → (others : List Fault) → Faults

-- the ? of the logic: what can't be read ends a chain of lines
infixl 10 ◌>>=◌
abbrev pub ◌>>=◌ : {A B E : Type 0} → Result A E → (A → Result B E) → Result B E
(Ok x) >>= f = f x
(Err e) >>= f = Err e

-- of two passes' faults those of the first; those of one pass, one after another
abbrev pub joined : Faults → Faults → Faults
joined (OfKeys first others) (OfKeys next more) = OfKeys first (others ++ next ∷ more)
joined (OfKeys first others) (OfValues next more) = OfKeys first others
joined (OfValues first others) (OfKeys next more) = OfKeys next more
joined (OfValues first others) (OfValues next more) = OfValues first (others ++ next ∷ more)

-- one reading beside another: what the first makes of what the second says, or the faults of both
infixl 10 ◌<*>◌
abbrev pub ◌<*>◌ : {A B : Type 0} → Result (A → B) Faults → Result A Faults → Result B Faults
(Ok make) <*> (Ok x) = Ok (make x)
(Ok make) <*> (Err faults) = Err faults
(Err faults) <*> (Ok x) = Err faults
(Err faults) <*> (Err more) = Err (joined faults more)

-- one reading beside another that only has faults or none
abbrev pub said_alone : {A : Type 0} → A → ⊤ → A
said_alone x none = x

infixl 10 ◌<*◌
abbrev pub ◌<*◌ : {A : Type 0} → Result A Faults → Result ⊤ Faults → Result A Faults
read <* others = Ok said_alone <*> read <*> others

-- what stands at a key that has to be there
abbrev pub there_or : {A : Type 0} → Text → Option A → Result A Faults
there_or place (Some x) = Ok x
there_or place None = Err (OfKeys (record { cause = KeyMissing; place = place }) [])

-- what a key takes
abbrev pub taken_or : {A : Type 0} → KeyTakes → Text → Option A → Result A Faults
taken_or takes place (Some x) = Ok x
taken_or takes place None = Err (OfValues (record { cause = Kind takes; place = place }) [])

-- no keys are wrong, or these
abbrev pub none_or : List Fault → Result ⊤ Faults
none_or [] = Ok tt
none_or (fault ∷ faults) = Err (OfKeys fault faults)

-- faults as they are told
abbrev pub listed : Faults → List Fault
listed (OfKeys first others) = first ∷ others
listed (OfValues first others) = first ∷ others

-- the faults of a reading
abbrev pub faults_in : {A : Type 0} → Result A Faults → List Fault
faults_in (Ok x) = []
faults_in (Err faults) = listed faults

-- a reading with the first of its faults alone
abbrev pub first_in : Faults → Fault
first_in (OfKeys first others) = first
first_in (OfValues first others) = first

abbrev pub by_first : {A : Type 0} → Result A Faults → Result A Fault
by_first (Ok x) = Ok x
by_first (Err faults) = Err (first_in faults)

-- the fault of a reading that has one at most
abbrev pub fault_in : {A : Type 0} → Result A Fault → List Fault
fault_in (Ok x) = []
fault_in (Err fault) = fault ∷ []

-- this fault where the test holds
abbrev pub fault_where : Cause → Text → Bool → List Fault
fault_where cause place true = record { cause = cause; place = place } ∷ []
fault_where cause place false = []

-- the first of some faults, if there is one
abbrev pub first_of : List Fault → Result ⊤ Fault
first_of [] = Ok tt
first_of (fault ∷ faults) = Err fault

-- the faults of the first pass that has any
abbrev pub first_found : List (List Fault) → List Fault
first_found [] = []
first_found ([] ∷ passes) = first_found passes
first_found ((fault ∷ faults) ∷ passes) = fault ∷ faults
