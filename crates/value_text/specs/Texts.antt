-- What a text is: a logical name, bytes in hex, and a value whose encoding is in hex; and the text of a cell. Texts are lists of bytes.
use Rattle.std.specs.Prelude.{ℕ, ◌==◌, List, [], ◌∷◌, codes, Option, Some, None, Result, Ok, Err, option_map, option_and_then, if◌then◌else◌}
use Rattle.std.specs.Fmt.{decimal}
use Rattle.std.specs.List.{join_with_byte}
use Rattle.std.specs.Result.{result_ok}
use Rattle.hex.specs.Hex.{decode_of}
use Rattle.cosem_data.specs.Digits.{name_at}
use Rattle.cosem_data.specs.Names.{name_text}
use Rattle.cosem_data.specs.Tree.{Tree}
use Rattle.cosem_data.specs.declared.cell.CellRef.{CellRef}
use Rattle.cosem_data.specs.declared.name.LogicalName.{LogicalName}
use Rattle.cosem_axdr.specs.Reading.{data_at}
use Rattle.cosem_axdr.specs.declared.fault.ReadFault.{ReadFault}

-- the logical name that a text is, if it is one (IEC 62056-6-2, logical_name)
abbrev pub name_in : List ℕ → Option LogicalName
name_in text = option_map (λ bytes. record { 0 = bytes }) (name_at text)

-- the bytes of a hex text: an even number of digits in either case (own profile)
abbrev pub bytes_in : List ℕ → Option (List ℕ)
bytes_in text = result_ok (decode_of text)

-- a value with nothing behind it
abbrev pub whole : Result (Tree × List ℕ) ReadFault → Option Tree
whole (Ok (v, [])) = Some v
whole (Ok (v, b ∷ rest)) = None
whole (Err e) = None

-- the one value whose encoding a hex text is (own profile)
abbrev pub value_in : List ℕ → Option Tree
value_in text = option_and_then (λ bytes. whole (data_at 16 bytes)) (bytes_in text)

-- the number of an attribute in decimal, and `seen` for the index 0, the inner cell of a register monitor (own profile)
abbrev pub index_text : ℕ → List ℕ
index_text index = if index == 0 then codes "seen" else decimal index

-- a cell as `class_id/logical name/attribute` (own profile)
abbrev pub cell_text : CellRef → List ℕ
cell_text x = join_with_byte 47 (decimal x.class_id ∷ name_text x.name.0 ∷ index_text x.index ∷ [])
