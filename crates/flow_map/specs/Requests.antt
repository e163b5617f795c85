-- The requests that rights allow, as they are printed. Texts are lists of bytes.
use Rattle.std.specs.Prelude.{ℕ, List, [], ◌∷◌, ◌++◌, codes}
use Rattle.std.specs.Fmt.{decimal}
use Rattle.std.specs.List.{join_with_byte}
use Rattle.cosem_data.specs.Names.{name_text}
use Rattle.cosem_data.specs.declared.cell.MethodRef.{MethodRef}
use Rattle.value_text.specs.Texts.{cell_text}
use Rattle.flow_map.specs.declared.request.GrantedRequest.{GrantedRequest}
use Rattle.flow_map.specs.declared.request.GrantedRequest.TheVariants.{Get, Set, Act, Execute}

-- a method as `class_id/logical name/method` (own profile)
abbrev pub method_text : MethodRef → List ℕ
method_text m = join_with_byte 47 (decimal m.class_id ∷ name_text m.name.0 ∷ decimal m.index ∷ [])

-- a request in the words of steps, without a value (own profile)
abbrev pub request_text : GrantedRequest → List ℕ
request_text (Get x) = codes "get " ++ cell_text x
request_text (Set x) = codes "set " ++ cell_text x
request_text (Act m) = codes "act " ++ method_text m
request_text (Execute m script) = codes "act " ++ (method_text m ++ (codes " long-unsigned " ++ decimal script))
