-- What is answered where no block is sent (IEC 62056-5-3, Get-Response-With-Datablock).
use Rattle.std.specs.Prelude.{ℕ, List, [], ◌∷◌, ◌++◌}
use Rattle.std.specs.Int.{w32, to_be_bytes}
use Rattle.xdlms_services.specs.declared.blocks.BlockFault.{BlockFault}
use Rattle.xdlms_services.specs.declared.blocks.BlockFault.TheVariants.{NoLongGet, NumberInvalid}

-- the number of a result (IEC 62056-5-3, Data-Access-Result: no-long-get-in-progress, data-block-number-invalid); that a next without a
-- transfer is answered by the former is own profile
abbrev pub fault_number : BlockFault → ℕ
fault_number NoLongGet = 16
fault_number NumberInvalid = 19

-- C4 02, the invoke byte, 01 for the last block, the number that was asked for in four bytes, 01 and the result (IEC 62056-5-3, Get-Response-With-Datablock; that it is the last block and has the number that was asked for is own profile)
abbrev pub fault_block_bytes : ℕ → ℕ → BlockFault → List ℕ
fault_block_bytes invoke number fault = 0xC4 ∷ 2 ∷ invoke ∷ 1 ∷ (to_be_bytes w32 number ++ (1 ∷ fault_number fault ∷ []))
