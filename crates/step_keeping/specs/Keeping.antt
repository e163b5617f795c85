-- Steps that are kept, and what a crash leaves of them. All of it is own profile.
use Rattle.std.specs.Prelude.{◌≡◌, ℕ, zero, suc, List, [], ◌∷◌, ◌++◌, Option, None, Some, option_map}
use Rattle.meter_theory.specs.Plan.{Plan, start}
use Rattle.meter_theory.specs.Replies.{run}
use Rattle.meter_theory.specs.State.{State}
use Rattle.meter_theory.specs.Steps.{Step, Tick}
use Rattle.step_keeping.specs.declared.fault.KeepFault.{KeepFault}
use Rattle.step_keeping.specs.declared.fault.KeepFault.TheVariants.{Memory, Unwritten, NotKept, InDoubt}

-- so many seconds
abbrev pub ticks : ℕ → List Step
ticks zero = []
ticks (suc n) = Tick ∷ ticks n

-- what is kept once this step is kept too, if it is known
abbrev pub kept_behind : Option (List Step) → Step → Option (List Step)
kept_behind kept step = option_map (λ all. all ++ step ∷ []) kept

-- what is kept is as it was, or no longer known
abbrev pub StillKept : (old new : Option (List Step)) → Type 0
StillKept old None = Unit {0}
StillKept old (Some all) = old ≡ Some all

-- what is kept once a step isn't: the same where nothing was written, and else it is no longer known
abbrev pub IsKeptAfter : KeepFault → (old new : Option (List Step)) → Type 0
IsKeptAfter Memory old new = new ≡ old
IsKeptAfter Unwritten old new = new ≡ old
IsKeptAfter NotKept old new = new ≡ None
IsKeptAfter InDoubt old new = new ≡ None

-- a crash leaves all steps but seconds at the end that had waited
abbrev pub IsLeft : (all left : List Step) → Type 0
IsLeft all left = (n : ℕ) × (all ≡ left ++ ticks n)

-- the state of a meter is the one to which the steps lead that are kept, if these are known
abbrev pub IsKept : Plan → Option (List Step) → State → Type 0
IsKept P None s = Unit {0}
IsKept P (Some all) s = s ≡ run P (start P) all

-- these steps are kept, if it is known which
abbrev pub AreKept : (kept : Option (List Step)) → List Step → Type 0
AreKept kept steps = StillKept (Some steps) kept

-- no step is kept, if that is known
abbrev pub KeepsNone : Option (List Step) → Type 0
KeepsNone kept = AreKept kept []
