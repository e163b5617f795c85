-- The first bad byte decides the fault, and where there is none, more bytes make a value.
use Rattle.std.proofs.Common.{ℕ, List, [], ◌++◌, ◌<◌, length, inl, inr, arith}
use Rattle.std.proofs.lemmas.Bool.{cases_lt}
use Rattle.std.proofs.lemmas.List.{get_or_past}
use Rattle.std.proofs.lemmas.List.Elements.{All-append, All-get_or}
use Rattle.cosem_axdr.specs.declared.fault.ReadFault.{ReadFault}
use Rattle.cosem_axdr.specs.declared.fault.ReadFault.TheVariants.{Short, UnknownTag, TooDeep, Length, Memory}
use Rattle.cosem_axdr.specs.Reading.{Fails, data_at}
use Rattle.cosem_axdr.specs.Laws.{FirstFaultDecides, ShortIsFront, IsFirstFault}
use Rattle.cosem_axdr.proofs.Numbers.{IsBytes}
use Rattle.cosem_axdr.proofs.Values.{begins_from_data}
use Rattle.cosem_axdr.proofs.Steady.{AreBytes, data_steady}

pub IsBytes-from_all : (bytes : List ℕ) → AreBytes bytes → IsBytes bytes
IsBytes-from_all bytes h i =
    elim (cases_lt i (length bytes)) [
      | inl lt ↦ All-get_or (λ b. b < 256) bytes i 0 lt h
      | inr le ↦ rw (get_or_past bytes i 0 le) (omega arith)
    ]

pub first_fault_decides : FirstFaultDecides
first_fault_decides bytes fault e other =
    let h = (data_steady 16).faults bytes fault e other in
    record { before = h.before; byte = h.byte; behind = h.behind; is = h.is; bad = h.bad; nothing_wrong_before = h.short; nothing_behind_matters = h.again }

pub short_is_front : ShortIsFront
short_is_front bytes e =
    let h = (data_steady 16).completes bytes e in
    record {
      more = h.more;
      are_bytes = h.are_bytes;
      value = h.value;
      read = h.read;
      begins = λ small. begins_from_data (bytes ++ h.more) h.value [] (IsBytes-from_all (bytes ++ h.more) (All-append (λ b. b < 256) bytes h.more small h.are_bytes)) h.read;
    }

-- a fault that the reader told
pub is_first_fault : (bytes : List ℕ) (fault : ReadFault) → Fails fault (data_at 16 bytes) → IsFirstFault bytes fault
is_first_fault bytes Short e = short_is_front bytes e
is_first_fault bytes UnknownTag e = first_fault_decides bytes UnknownTag e (λ is. cc)
is_first_fault bytes TooDeep e = first_fault_decides bytes TooDeep e (λ is. cc)
is_first_fault bytes Length e = first_fault_decides bytes Length e (λ is. cc)
is_first_fault bytes Memory e = tt
