-- How many bytes the passes of a command handle together, and why they fail.
use Rattle.std.specs.Prelude.{◌≡◌, ◌≢◌, ℕ, ◌≤◌, ◌<◌, ◌*◌, List, ◌++◌, length}
use Rattle.cosem_data.specs.Tree.{Tree, depth}
use Rattle.cosem_axdr.specs.declared.fault.ReadFault.{ReadFault}
use Rattle.cosem_axdr.specs.declared.fault.ReadFault.TheVariants as faults
use Rattle.cosem_axdr.specs.Grammar.{IsEncoding, BeginsWith, BeginsWithNone}
use Rattle.cosem_axdr.specs.Canonical.{canonical}
use Rattle.codec_bench.specs.declared.limits.TheConstants.{MOST_BYTES}
use Rattle.codec_bench.specs.declared.command.Pass.{Pass}
use Rattle.codec_bench.specs.declared.command.Pass.TheVariants.{Copy, Read, Write}
use Rattle.codec_bench.specs.declared.fault.Fault.{Fault}
use Rattle.codec_bench.specs.declared.fault.Fault.TheVariants.{Input, TooLong, Unreadable, Memory, Output}

-- it holds of the value, nested at most 16 deep, and the encoding that stand in front of the bytes, where they do
abbrev pub OfFront : List ℕ → (Tree → List ℕ → Type 0) → Type 0
OfFront bytes P = (t : Tree) (front rest : List ℕ) → IsEncoding t front → depth t ≤ 16 → bytes ≡ front ++ rest → P t front

-- so many passes over the bytes handle that many: all bytes, those of the encoding in front, or those of the canonical form of its value
abbrev pub Handles : Pass → ℕ → List ℕ → ℕ → Type 0
Handles Copy times bytes total = total ≡ times * length bytes
Handles Read times bytes total = OfFront bytes (λ t front. total ≡ times * length front)
Handles Write times bytes total = OfFront bytes (λ t front. total ≡ times * length (canonical t))

-- a fault of the reader; want of memory is one fault, whoever meets it
abbrev pub fault_of : ReadFault → Fault
fault_of faults.Memory = Memory
fault_of faults.Short = Unreadable faults.Short
fault_of faults.UnknownTag = Unreadable faults.UnknownTag
fault_of faults.TooDeep = Unreadable faults.TooDeep
fault_of faults.Length = Unreadable faults.Length

-- passes of the kind over the bytes may fail by this: no encoding is in front that they could read, or one whose value's canonical form is too long to write, or memory ran out
abbrev pub FailsBy : Pass → List ℕ → Fault → Type 0
FailsBy pass bytes (Unreadable fault) = (pass ≢ Copy) × BeginsWithNone bytes
FailsBy pass bytes TooLong = (pass ≡ Write) × (t : Tree) × (rest : List ℕ) × BeginsWith bytes t rest × (MOST_BYTES < length (canonical t))
FailsBy pass bytes Memory = Unit {0}
FailsBy pass bytes Input = ⊥
FailsBy pass bytes Output = ⊥
