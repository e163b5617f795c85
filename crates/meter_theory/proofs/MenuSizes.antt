-- The values of the alternatives of a sound plan are within the limits of a value.
use Rattle.std.proofs.Common.{◌≡◌, ◌≤◌, ◌+◌, ◌*◌, ℕ, true, nat_le, List, [], ◌∷◌, map, length, refl, eqb-true, arith}
use Rattle.std.specs.List.{list_all}
use Rattle.std.proofs.lemmas.Bool.{and_parts, and_from, leb-true, le-leb}
use Rattle.std.proofs.lemmas.List.{length-append}
use Rattle.std.proofs.Math.Nat.{suc-mul}
use Rattle.cosem_data.specs.Tree.{Tree, Trees, no_trees, more_trees, long_unsigned, structure, trees, parts, depth, depth_of}
use Rattle.cosem_data.specs.declared.name.LogicalName.{LogicalName}
use Rattle.cosem_data.specs.declared.cell.CellRef.{CellRef}
use Rattle.cosem_axdr.specs.Canonical.{canonical, all, shortest}
use Rattle.meter_theory.specs.declared.limits.TheConstants as limits
use Rattle.meter_theory.specs.declared.refs.ScriptRef.{ScriptRef}
use Rattle.meter_theory.specs.Menus.{name_value, index_value, capture_object, capture_objects_value, script_ref_value}
use Rattle.meter_theory.specs.Value.{is_within_limits}
use Rattle.meter_theory.specs.Sound.{is_name, has_capture_sizes}

-- a count takes at most five bytes
short_count : (n : ℕ) → length (shortest n) ≤ 5
unfolding shortest
short_count n = grind arith

-- a name takes twelve bytes at most
name_bytes : (n : LogicalName) → is_name n ≡ true → length (canonical (name_value n)) ≤ 12
name_bytes n h =
    let six : length n.0 ≡ 6 = eqb-true (length n.0) 6 h in
    let e = length-append (shortest (length n.0)) n.0 in
    let f = short_count (length n.0) in
    omega (arith, six, e, f)

-- the bytes of parts, one behind the other
more_bytes : (t : Tree) (ts : Trees) → length (all (more_trees t ts)) ≡ length (canonical t) + length (all ts)
more_bytes t ts = length-append (canonical t) (all ts)

count_bytes : (ts : Trees) → length (canonical (structure ts)) ≤ 6 + length (all ts)
count_bytes ts =
    let e = length-append (shortest (length (parts ts))) (all ts) in
    let f = short_count (length (parts ts)) in
    omega (arith, e, f)

word_bytes : (n : ℕ) → length (canonical (long_unsigned n)) ≤ 3
word_bytes n = omega arith

index_bytes : (n : ℕ) → length (canonical (index_value n)) ≤ 2
index_bytes n = omega arith

object_bytes : (x : CellRef) → is_name x.name ≡ true → length (canonical (capture_object x)) ≤ 26
object_bytes x h =
    let last : Trees = trees (long_unsigned 0 ∷ []) in
    let third : Trees = more_trees (index_value x.index) last in
    let second : Trees = more_trees (name_value x.name) third in
    let a = more_bytes (long_unsigned x.class_id) second in
    let b = more_bytes (name_value x.name) third in
    let d = more_bytes (index_value x.index) last in
    let e = more_bytes (long_unsigned 0) no_trees in
    let c = count_bytes (more_trees (long_unsigned x.class_id) second) in
    omega (arith, a, b, c, d, e, word_bytes x.class_id, word_bytes 0, name_bytes x.name h, index_bytes x.index)

objects_bytes : (xs : List CellRef) → list_all (λ x. is_name x.name) xs ≡ true → length (all (trees (map capture_object xs))) ≤ length xs * 26
objects_bytes [] h = omega arith
objects_bytes (x ∷ xs) h =
    let both = and_parts (is_name x.name) (list_all (λ z. is_name z.name) xs) h in
    let a = more_bytes (capture_object x) (trees (map capture_object xs)) in
    let b = suc-mul (length xs) 26 in
    omega (arith, a, b, object_bytes x both.0, objects_bytes xs both.1)

objects_depth : (xs : List CellRef) → depth_of (trees (map capture_object xs)) ≤ 1
objects_depth [] = omega arith
objects_depth (x ∷ xs) = omega (arith, objects_depth xs)

-- Each list of captured cells that a profile may have as an alternative may stand in its capture_objects.
pub captures-within : (xs : List CellRef) → has_capture_sizes xs ≡ true → is_within_limits (capture_objects_value xs) ≡ true
captures-within xs h =
    let both = and_parts (nat_le (length xs) limits.CAPTURE_OBJECTS) (list_all (λ x. is_name x.name) xs) h in
    let few = leb-true (length xs) limits.CAPTURE_OBJECTS both.0 in
    let ts : Trees = trees (map capture_object xs) in
    let e = length-append (shortest (length (parts ts))) (all ts) in
    let f = short_count (length (parts ts)) in
    let bytes : length (canonical (capture_objects_value xs)) ≤ limits.VALUE_BYTES = omega (arith, e, f, few, objects_bytes xs both.1) in
    let levels : depth (capture_objects_value xs) ≤ limits.VALUE_LEVELS = omega (arith, objects_depth xs) in
    and_from (nat_le (length (canonical (capture_objects_value xs))) limits.VALUE_BYTES) (nat_le (depth (capture_objects_value xs)) limits.VALUE_LEVELS)
    (le-leb (length (canonical (capture_objects_value xs))) limits.VALUE_BYTES bytes) (le-leb (depth (capture_objects_value xs)) limits.VALUE_LEVELS levels)

-- And each script of a table in its executed_script.
pub script-within : (r : ScriptRef) → is_name r.table ≡ true → is_within_limits (script_ref_value r) ≡ true
script-within r h =
    let last : Trees = trees (long_unsigned r.script ∷ []) in
    let a = more_bytes (name_value r.table) last in
    let b = more_bytes (long_unsigned r.script) no_trees in
    let c = count_bytes (more_trees (name_value r.table) last) in
    let bytes : length (canonical (script_ref_value r)) ≤ limits.VALUE_BYTES = omega (arith, a, b, c, word_bytes r.script, name_bytes r.table h) in
    and_from (nat_le (length (canonical (script_ref_value r))) limits.VALUE_BYTES) true (le-leb (length (canonical (script_ref_value r))) limits.VALUE_BYTES bytes) refl
