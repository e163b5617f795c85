-- The words of a request, as they stand behind the name of a client (own profile). Texts are lists of bytes.
use Rattle.std.specs.Prelude.{ℕ, ◌==◌, List, [], ◌∷◌, ◌++◌, codes, Option, Some, None, option_map, if◌then◌else◌, false}
use Rattle.std.specs.Fmt.{decimal, signed_decimal}
use Rattle.std.specs.List.{join_with_byte}
use Rattle.hex.specs.Hex.{encode_upper}
use Rattle.cosem_data.specs.Tree.{Tree}
use Rattle.cosem_data.specs.View.{tree}
use Rattle.cosem_data.specs.Names.{name_text}
use Rattle.meter_theory.specs.Selection.{EntryDescriptor, descriptor_of}
use Rattle.meter_theory.specs.declared.refs.Descriptor.{Descriptor}
use Rattle.object_model.specs.declared.argument.Argument.{Argument}
use Rattle.object_model.specs.declared.argument.Argument.TheVariants.{Absent, Value}
use Rattle.value_words.specs.Words.{value_words}
use Rattle.xdlms_services.specs.declared.request.Request.{Request}
use Rattle.xdlms_services.specs.declared.request.Request.TheVariants.{Get, Set, Act}

-- the class, the logical name and the index of what is named, as `3/1.0.1.8.0.255/2` (own profile)
abbrev pub descriptor_words : Descriptor → List ℕ
descriptor_words d = join_with_byte 47 (decimal d.class_id ∷ name_text d.name.0 ∷ signed_decimal d.index ∷ [])

-- the service, and what is named (own profile)
abbrev pub named_words : List ℕ → Descriptor → List ℕ
named_words service d = service ++ descriptor_words d

-- ` entries A..B columns C..D` (own profile)
abbrev pub entries_words : EntryDescriptor → List ℕ
entries_words e = codes " entries " ++ (decimal e.from_entry ++ (codes ".." ++ (decimal e.to_entry ++ (codes " columns " ++ (decimal e.from_selected_value ++ (codes ".." ++ decimal e.to_selected_value))))))

-- a space and the value (own profile)
abbrev pub given_words : Tree → List ℕ
given_words t = 32 ∷ value_words t

-- ` invoke N`, and nothing for the invoke byte C1 (own profile)
abbrev pub invoke_words : ℕ → List ℕ
invoke_words n = if n == 0xC1 then [] else codes " invoke " ++ decimal n

-- the entry descriptor of a selection by entry, selector 2 (IEC 62056-6-2, Profile generic)
abbrev pub entries_in : ℕ × Argument → Option EntryDescriptor
entries_in (selector, Value v) = if selector == 2 then descriptor_of (tree v) else None
entries_in _ = None

-- a GET (own profile)
abbrev pub get_words : ℕ → Descriptor → Option (ℕ × Argument) → Option (List ℕ)
get_words invoke d None = Some (named_words (codes "get ") d ++ invoke_words invoke)
get_words invoke d (Some selection) = option_map (λ e. (named_words (codes "get ") d ++ entries_words e) ++ invoke_words invoke) (entries_in selection)

-- the words of a request; those with another selection, those whose value can't be read, and those for the next block of a value have none (own profile)
abbrev pub request_words : Request → Option (List ℕ)
request_words (Get invoke d selection) = get_words invoke d selection
request_words (Set invoke d false (Value v)) = Some ((named_words (codes "set ") d ++ given_words (tree v)) ++ invoke_words invoke)
request_words (Act invoke d Absent) = Some (named_words (codes "act ") d ++ invoke_words invoke)
request_words (Act invoke d (Value v)) = Some ((named_words (codes "act ") d ++ given_words (tree v)) ++ invoke_words invoke)
request_words _ = None

-- any other APDU (own profile)
abbrev pub apdu_words : List ℕ → List ℕ
apdu_words bytes = codes "apdu " ++ encode_upper bytes
