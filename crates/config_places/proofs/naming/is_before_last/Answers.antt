-- Two names are the same just where their bytes are.
use Rattle.std.proofs.Common.{◌≡◌, ◌<◌, ◌∙◌, sym, ap, Bool, List, map, length, arith}
use Rattle.std.proofs.Common.{Contains, IsTrue, String, string_bytes, bytes_eq}
use Rattle.std.specs.Global.{Global}
use Rattle.std.specs.List.{list_any}
use Rattle.std.proofs.lemmas.List.{get_or-map, length-map}
use Rattle.std.proofs.lemmas.List.Folds.{Any-from_list_any, list_any_at}
use Rattle.std.proofs.lemmas.Slice.Eq.{bytes_eq-Decides}
use Rattle.config_places.proofs.naming.is_before_last.Goals as goal

-- the two strings have the same bytes
abbrev is_same : String Global → String Global → Bool
is_same x y = bytes_eq (string_bytes y) (string_bytes x)

is_among : (ps : List (String Global)) (x : String Global) (r : Bool)
    → r ≡ list_any (is_same x) ps → IsTrue r → Contains (map string_bytes ps) (string_bytes x)
is_among ps x r e t =
    let (k, y, below, is, same) = Any-from_list_any (is_same x) ps (sym e ∙ t) in
    let bytes = (bytes_eq-Decides (string_bytes y) (string_bytes x)).0 same in
    let there = get_or-map string_bytes ps k y (string_bytes x) below in
    (k, omega (arith, length-map ps string_bytes), there ∙ ap string_bytes is ∙ bytes)

is_told : (ps : List (String Global)) (x : String Global) (r : Bool)
    → r ≡ list_any (is_same x) ps → Contains (map string_bytes ps) (string_bytes x) → IsTrue r
is_told ps x r e (k, below, is) =
    let h : k < length ps = omega (arith, length-map ps string_bytes) in
    let there = get_or-map string_bytes ps k x (string_bytes x) h in
    e ∙ list_any_at (is_same x) ps k x h ((bytes_eq-Decides _ (string_bytes x)).1 (sym there ∙ is))

pub returns : goal.returns
returns c =
    let ps = c.args.key.now.path.items in
    let x = c.args.name.now in
    let e : c.contains.result ≡ list_any (is_same x) ps =
    c.contains.ensures.value ∙ ap (list_any (is_same x)) c.deref.ensures.value in
    (is_among ps x _ e, is_told ps x _ e)
